-- The words below 2 i are shuffled.
-- Assumes nothing.
use mathlib.Core.Path.{◌≡◌}
use Prim.Native.Nat.{◌*◌}
use lib.ListN.{length}
use Rattle.blocks.specs.Shuffles.{Shuffled}
use Rattle.blocks.proofs.shuffle.Given as goal

abbrev pub invariant-loop-i : goal.invariant-loop-i
invariant-loop-i l = (length l.to ≡ 64) × Shuffled (2 * l.i) l.s l.m l.from l.to
