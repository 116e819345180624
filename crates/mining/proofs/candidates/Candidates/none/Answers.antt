-- Words that are zero are no sets.
-- Assumes nothing.
use Rattle.mining.proofs.Placing.{gathered_none, sets_none}
use Rattle.mining.proofs.candidates.Candidates.none.Goals as goal

pub invariant_of-result : goal.invariant_of-result
invariant_of-result c = gathered_none _ c.empty.ensures

pub returns : goal.returns
returns c = sets_none _
