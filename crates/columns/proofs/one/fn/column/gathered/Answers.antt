-- A bit of the word that is read.
-- Assumes nothing.
use Rattle.sets.proofs.Written.{test_item}
use Rattle.columns.proofs.one.fn.column.gathered.Goals as goal

pub returns : goal.returns
returns g c = test_item _ _
