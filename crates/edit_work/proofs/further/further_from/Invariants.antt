-- Of all samples those are left that have each role of sample i that is not in `rest`.
-- Assumes nothing.
use lib.Count.{ones}
use Rattle.sets.specs.Held.{set_of}
use Rattle.edit_work.proofs.Narrowing.{Narrowing}
use Rattle.edit_work.proofs.further.further_from.Given as goal

abbrev pub invariant-loop-k : goal.invariant-loop-k
invariant-loop-k l = Narrowing l.work (set_of l.initial.found) l.i (set_of l.found) (set_of l.rest)

abbrev pub decreases-loop-k : goal.decreases-loop-k
decreases-loop-k l = ones (set_of l.rest)
