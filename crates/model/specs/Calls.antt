-- What each outside call answers, and what it leaves in the lent record. A refusal gives its number and zeros, and alters nothing.
-- Assumes nothing.
use Rattle.std.specs.Prelude.{List, ℕ, eqb, length}
use Rattle.sets.specs.Truth.{isnt, when◌then◌else◌, bit}
use Rattle.model.specs.Lists.{rows_at}
use Rattle.model.specs.Candidates.{candidates}
use Rattle.model.specs.Hierarchy.{candidate_count}
use Rattle.model.specs.Chains.{may}
use Rattle.model.specs.Quality.{Weights, counted, weigh}
use Rattle.model.specs.State.{roles_of, fresh}
use Rattle.model.specs.Record.{built, state_of, role_rows_of}
use Rattle.model.specs.Refusals.{◌or_else◌, length_refusal, soundness_refusal, limits_refusal, crew_refusal, candidates_refusal, pair_refusal, weights_refusal}
use Rattle.model.specs.Machine.{Call, Reply, reply, step}

-- 1 or 5 where the lent record is not 2,056 words or not sound, else 0
unfoldable pub unfit : List ℕ → ℕ
unfit ws = length_refusal ws or_else soundness_refusal ws

-- ---- mining

-- the first of 1, 2, 3 and 4 that applies, or 0: "mining doesn't look at old contents"
unfoldable pub mining_refusal : ℕ → ℕ → List ℕ → List ℕ → ℕ
mining_refusal n m crew ws = length_refusal ws or_else limits_refusal n m or_else crew_refusal n m crew or_else candidates_refusal (rows_at n crew 0)

-- what mining answers, and the lent record after it
pub record Mined : Type 0 where
  pub code : ℕ
  pub candidates : ℕ
  pub words : List ℕ

-- "Mining writes the whole record, with all candidates standing; its answer is c."
unfoldable pub mine : ℕ → ℕ → List ℕ → List ℕ → Mined
mine n m crew ws =
    let rows = rows_at n crew 0 in
    when eqb (mining_refusal n m crew ws) 0 then record { code = 0; candidates = length (candidates rows); words = built (fresh n m rows) }
    else record { code = mining_refusal n m crew ws; candidates = 0; words = ws }

-- ---- the editing calls

-- what an editing call answers, and the lent record after it
pub record Edited : Type 0 where
  pub replied : Reply
  pub words : List ℕ

-- on a sound record a call does what the machine's step does to the state that it holds, and leaves the record built afresh
unfoldable pub edit : List ℕ → Call → Edited
edit ws call =
    let o = step (state_of ws) call in
    when isnt (eqb (unfit ws) 0) then record { replied = reply (unfit ws) 0 0; words = ws }
    else record { replied = o.replied; words = when eqb o.replied.code 0 then built o.state else ws }

-- ---- the calls that read

-- what a reading call answers: it leaves the record as lent
pub record Told : Type 0 where
  pub code : ℕ
  pub value : ℕ

-- a refusal's number and 0, or 0 and the value
unfoldable pub told : ℕ → ℕ → Told
told code value = when eqb code 0 then record { code = 0; value = value } else record { code = code; value = 0 }

-- the quality of the record's own rows
unfoldable pub quality_of : List ℕ → Weights → Told
quality_of ws w =
    let st = state_of ws in
    told (unfit ws or_else weights_refusal w)
    (weigh w (counted (candidate_count (roles_of st)) (role_rows_of ws) st.standing))

-- may (u, p), following the links in the record
unfoldable pub may_of : List ℕ → ℕ → ℕ → Told
may_of ws u p =
    let st = state_of ws in
    told (unfit ws or_else pair_refusal st.users st.permissions u p)
    (bit (may (candidate_count (roles_of st)) (role_rows_of ws) u p))
