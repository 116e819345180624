-- The word so far is what the first i digits make.
-- Assumes nothing.
use Prim.Native.Nat.{◌+◌, ◌≤◌}
use Rattle.text_sets.specs.Hexadecimal.{hexadecimal_value}
use lib.ListN.{length}
use mathlib.Core.Path.{◌≡◌}
use Rattle.text_sets.proofs.word_of.Given as goal

abbrev pub invariant-loop-i : goal.invariant-loop-i
invariant-loop-i l = (l.rest.at + l.d ≤ length l.rest.text.now) × (l.v ≡ hexadecimal_value l.i l.rest.text.now l.rest.at)
