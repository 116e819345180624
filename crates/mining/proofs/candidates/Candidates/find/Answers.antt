-- The rows of the table are the sets.
-- Assumes nothing.
use Rattle.model.proofs.Lists.{length-rows_at}
use Rattle.mining.proofs.candidates.Candidates.find.Goals as goal

pub returns-clause-place : goal.returns-clause-place
returns-clause-place c = let rows = c.as_rows.ensures in
    rw (← c.self.view_is, length-rows_at) (rw (rows.value, rows.count) at c.search.ensures)

pub returns-clause-grows : goal.returns-clause-grows
returns-clause-grows c = rw c.self.view_is at c.self.invariant.grows
