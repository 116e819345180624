-- 1 exactly where k is counted.
-- Assumes nothing.
use Rattle.edit_order.proofs.Walking.{number_of}
use Rattle.edit_order.proofs.redundancy.floor_of.Goals as goal

pub returns : goal.returns
returns c = number_of _ _ _ c.from.ensures c.contains.ensures
