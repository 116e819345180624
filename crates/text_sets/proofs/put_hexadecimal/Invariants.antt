-- The digits of whole words that are left to write, put into the list so far, are what was to be written.
-- Assumes nothing.
use mathlib.Core.Path.{◌≡◌}
use Prim.Native.Nat.{◌+◌, ◌*◌, ◌/◌}
use Rattle.sets.specs.Held.{set_of}
use Rattle.stores.specs.Stores.{put_at}
use Rattle.text_sets.specs.Hexadecimal.{hexadecimal}
use Rattle.text_sets.proofs.put_hexadecimal.Given as goal

abbrev pub invariant-loop-k : goal.invariant-loop-k
invariant-loop-k g l = (l.next + 16 * l.k ≡ l.initial.next + 16 * (l.d / 16))
    × (put_at l.out l.next (hexadecimal (16 * l.k) (set_of l.s)) ≡ put_at l.initial.out l.initial.next (hexadecimal (16 * (l.d / 16)) (set_of l.s)))
