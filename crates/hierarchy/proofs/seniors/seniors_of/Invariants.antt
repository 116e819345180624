-- What is found are immediate seniors, and the others are left, or above one that is found.
-- Assumes nothing.
use Rattle.sets.specs.Held.{set_of}
use Rattle.hierarchy.proofs.Seeking.{Seeking}
use Rattle.hierarchy.proofs.seniors.seniors_of.Given as goal

abbrev pub invariant-loop-i : goal.invariant-loop-i
invariant-loop-i l = Seeking l.low l.k (set_of l.initial.i-iterator.rest) (set_of l.found) (set_of l.i-iterator.rest)
