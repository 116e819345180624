-- Condition 1 of the writer, and what an accepted call gives, over the record and the buffer that it was lent and what it answered and left. Quotations
-- are the customer's words, in the conditions, in document 01 and in 02.
-- Assumes nothing.
use Rattle.std.specs.Prelude.{◌≡◌, List, [], ◌∷◌, ℕ, ◌≤◌, length, get_or, take, drop}
use Rattle.std.proofs.Math.Bool.{So}
use Rattle.model.specs.Lists.{rows_at}
use Rattle.model.specs.Record.{sound}
use Rattle.model.specs.Conditions.{Rule, rule, Condition1}
use Rattle.text_lines.specs.Format.{crew_text}
use Rattle.call_write.specs.Writer.{Written}

-- "the crew list .. in the form it went in": the crew text of words 0 and 1 and of the crew rows
abbrev pub text_in : List ℕ → List ℕ
text_in ws = crew_text (get_or ws 0 0) (get_or ws 1 0) (rows_at (get_or ws 0 0) ws 8)

abbrev pub write_rules : List ℕ → List ℕ → List Rule
write_rules ws buffer =
    -- "record length is not 2,056 words"
    rule 1 (length ws ≡ 2056)
    -- "the record is not sound"
    ∷ rule 5 (So (sound ws))
    -- "the lent buffer is shorter than the text"
    ∷ rule 11 (length (text_in ws) ≤ length buffer)
    ∷ []

-- the full result, of a sound record and a buffer that is long enough
pub record WrittenFrom (ws buffer : List ℕ) (r : Written) : Type 0 where
  -- "Its answer is the length written"
  pub size : r.size ≡ length (text_in ws)
  -- so many bytes, from the first on, are the text
  pub text : take r.size r.bytes ≡ text_in ws
  -- "bytes beyond it are untouched"
  pub beyond : drop r.size r.bytes ≡ drop r.size buffer
  pub room : length r.bytes ≡ length buffer

pub record WriteConditions (ws buffer : List ℕ) (r : Written) : Type 0 where
  pub condition1 : Condition1 (write_rules ws buffer) r.code (r.size ∷ []) buffer r.bytes
  pub result : r.code ≡ 0 → WrittenFrom ws buffer r
