-- What is left to write, put into the list so far, is what was to be written.
-- Assumes nothing.
use Prim.Native.Nat.{◌+◌, ◌-◌}
use Rattle.text_sets.specs.Hexadecimal.{hexadecimal}
use Rattle.stores.specs.Stores.{put_at}
use mathlib.Core.Path.{◌≡◌}
use Rattle.text_sets.proofs.put_digits.Given as goal

abbrev pub invariant-loop-i : goal.invariant-loop-i
invariant-loop-i l = put_at l.out (l.at + l.i) (hexadecimal (l.d - l.i) l.w) ≡ put_at l.initial.out l.at (hexadecimal l.d l.w)
