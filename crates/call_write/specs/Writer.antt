-- Request 1 of 02: "a writer from a sound record to the crew text". What it answers, and what it leaves in the lent buffer.
-- Assumes nothing.
use Rattle.std.specs.Prelude.{List, ◌++◌, ℕ, eqb, length, drop}
use Rattle.sets.specs.Truth.{when◌then◌else◌}
use Rattle.model.specs.Refusals.{◌or_else◌, space_refusal}
use Rattle.model.specs.Calls.{unfit}
use Rattle.text_write.specs.Text.{record_text}

-- 1 or 5, and then "11, the lent buffer is shorter than the text; after 5"
unfoldable pub write_refusal : List ℕ → List ℕ → ℕ
write_refusal ws buffer = unfit ws or_else space_refusal (length (record_text ws)) buffer

-- what the writer answers, and the lent buffer after it
pub record Written : Type 0 where
  pub code : ℕ
  pub size : ℕ
  pub bytes : List ℕ

-- "Its answer is the length written; bytes beyond it are untouched." A refusal gives its number and 0, and leaves the buffer as lent
unfoldable pub write_crew : List ℕ → List ℕ → Written
write_crew ws buffer =
    let text = record_text ws in
    when eqb (write_refusal ws buffer) 0 then record { code = 0; size = length text; bytes = text ++ drop (length text) buffer }
    else record { code = write_refusal ws buffer; size = 0; bytes = buffer }
