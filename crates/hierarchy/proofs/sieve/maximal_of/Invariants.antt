-- The maximal roles of s are those found, and the maximal ones of the rest.
-- Assumes nothing.
use lib.Count.{ones}
use Rattle.sets.specs.Held.{set_of}
use Rattle.hierarchy.proofs.Sieving.{Sieved}
use Rattle.hierarchy.proofs.sieve.maximal_of.Given as goal

abbrev pub invariant-loop-k : goal.invariant-loop-k
invariant-loop-k l = Sieved l.index (set_of l.initial.rest) (set_of l.found) (set_of l.rest)

abbrev pub decreases-loop-k : goal.decreases-loop-k
decreases-loop-k l = ones (set_of l.rest)
