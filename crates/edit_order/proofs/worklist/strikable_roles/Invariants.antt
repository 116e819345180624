-- The strikable ones of the standing roles that are not in `rest` are found.
-- Assumes nothing.
use Rattle.sets.specs.Held.{set_of}
use Rattle.edit_order.proofs.Gathering.{Gathering}
use Rattle.edit_order.proofs.worklist.strikable_roles.Given as goal

abbrev pub invariant-loop-k : goal.invariant-loop-k
invariant-loop-k l = Gathering l.rec l.index (set_of l.found) (set_of l.k-iterator.rest)
