-- The meets of r with the first i sets are there.
-- Assumes nothing.
use Prim.Native.Nat.{◌-◌}
use Rattle.sets.specs.Held.{set_of}
use Rattle.mining.proofs.Meeting.{Walked}
use Rattle.mining.proofs.candidates.Candidates.add_meets.Given as goal

abbrev pub invariant-loop-i : goal.invariant-loop-i
invariant-loop-i l = Walked (set_of l.r) l.initial.self l.self l.i

abbrev pub decreases-loop-i : goal.decreases-loop-i
decreases-loop-i l = 128 - l.i
