-- The candidates of the rows so far are found.
-- Assumes nothing.
use mathlib.Core.Path.{◌≡◌}
use Rattle.model.specs.Candidates.{mined_to}
use Rattle.tables.specs.Rows.{rows_of}
use Rattle.mining.proofs.mine.Given as goal

abbrev pub invariant-loop-row : goal.invariant-loop-row
invariant-loop-row l = l.found ≡ mined_to (rows_of l.rows) l.row-index
