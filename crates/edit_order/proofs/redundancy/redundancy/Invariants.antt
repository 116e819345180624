-- The samples that are not in `samples` are taken into account.
-- Assumes nothing.
use lib.Count.{ones}
use Rattle.sets.specs.Held.{set_of}
use Rattle.edit_order.proofs.Walking.{Walking}
use Rattle.edit_order.proofs.redundancy.redundancy.Given as goal

abbrev pub invariant-loop-i : goal.invariant-loop-i
invariant-loop-i l = Walking l.work (set_of l.holders) (set_of l.counted) l.c (set_of l.initial.samples) l.least (set_of l.samples)

abbrev pub decreases-loop-i : goal.decreases-loop-i
decreases-loop-i l = ones (set_of l.samples)
