-- The first i words are the first i bytes.
-- Assumes nothing.
use mathlib.Core.Path.{◌≡◌}
use lib.ListN.{length, take}
use Rattle.test_support.proofs.bytes.widen.Given as goal

abbrev pub invariant-loop-i : goal.invariant-loop-i
invariant-loop-i l = (length l.words ≡ length l.initial.words) × (length l.words ≡ length l.bytes) × (take l.i l.words ≡ take l.i l.bytes)
