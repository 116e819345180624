-- What becomes of a crew text that is read and mined: the state of its list, or a refusal.
-- Assumes nothing.
use Rattle.std.specs.Prelude.{List, ℕ, eqb, leb, length, replicate}
use Rattle.sets.specs.Truth.{when◌then◌else◌}
use Rattle.model.specs.Lists.{rows_at}
use Rattle.model.specs.Candidates.{candidates}
use Rattle.model.specs.State.{State, fresh}
use Rattle.model.specs.Refusals.{too_many_candidates}
use Rattle.text_crew.specs.Reader.{buffer_length, read_crew}

-- the number of the refusal, the reader's or mining's, or 0
unfoldable pub text_refusal : List ℕ → ℕ
text_refusal text =
    let a = read_crew text (replicate buffer_length 0) in
    when eqb a.code 0 then when leb (length (candidates (rows_at a.n a.words 0))) 128 then 0 else too_many_candidates
    else a.code

-- the state of the list that was read, with all candidates standing
unfoldable pub text_state : List ℕ → State
text_state text =
    let a = read_crew text (replicate buffer_length 0) in
    fresh a.n a.m (rows_at a.n a.words 0)
