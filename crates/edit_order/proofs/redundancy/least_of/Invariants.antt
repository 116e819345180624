-- The first holders that are not in `rest` are taken into account.
-- Assumes nothing.
use lib.Count.{ones}
use Rattle.sets.specs.Held.{set_of}
use Rattle.edit_order.proofs.Walking.{Asking}
use Rattle.edit_order.proofs.redundancy.least_of.Given as goal

abbrev pub invariant-loop-g : goal.invariant-loop-g
invariant-loop-g l = Asking l.work (set_of l.own) l.bound (set_of l.initial.rest) l.least (set_of l.rest)

abbrev pub decreases-loop-g : goal.decreases-loop-g
decreases-loop-g l = ones (set_of l.rest)
