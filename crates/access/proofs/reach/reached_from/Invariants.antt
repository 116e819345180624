-- The links of the roles from k up are followed.
-- Assumes nothing.
use Rattle.sets.specs.Held.{set_of}
use Rattle.access.proofs.Following.{Following}
use Rattle.access.proofs.reach.reached_from.Given as goal

abbrev pub invariant-loop-k : goal.invariant-loop-k
invariant-loop-k l = Following l.juniors (set_of l.initial.found) l.k (set_of l.found)
