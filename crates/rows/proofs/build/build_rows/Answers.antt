-- The roles of the standing set have no rows yet, and the others none ever.
-- Assumes nothing.
use native.Mathlib.Omega.{arith}
use Rattle.rows.proofs.Building.{rows_built}
use Rattle.rows.proofs.build.build_rows.Goals as goal

pub returns : goal.returns
returns c = λ st lim b ix. rows_built st lim _ _ b ix _ _ _ c.clear.new.ws _ c.load-standing.ensures c.fill_uppers.ensures
    c.clear.ensures (rw c.immediate_juniors.ensures at c.fill_columns.ensures) (omega arith) c.fill_lowers.ensures
