-- The words before place i that differ have left a bit.
-- Assumes nothing.
use mathlib.Core.Path.{◌≡◌}
use Prim.Native.Nat.{◌+◌}
use lib.Dec.{eqb}
use lib.ListN.{get_or}
use Rattle.sets.specs.Truth.{all}
use Rattle.tables.proofs.equal_at.Given as goal

abbrev pub invariant-loop-i : goal.invariant-loop-i
invariant-loop-i l = eqb l.differing 0 ≡ all l.i (λ k. eqb (get_or l.ws (l.at + k) 0) (get_or l.src k 0))
