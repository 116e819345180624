-- The digest as a fold of the words, from the first on.
-- Assumes nothing.
use mathlib.Core.Path.{◌≡◌, refl}
use mathlib.Core.List.{List, [], ◌∷◌}
use Prim.Native.Nat.{ℕ}
use lib.Bits.{bit_xor}
use Rattle.std.specs.List.{fold}
use Rattle.test_support.specs.Digest.{mixed, digest_from, digest_start, digest_of}

folded_from : (d : ℕ) (ws : List ℕ) → digest_from d ws ≡ fold (λ d w. mixed (bit_xor d w)) d ws
unfolding digest_from
folded_from d [] = refl
folded_from d (w ∷ ws) = folded_from (mixed (bit_xor d w)) ws

pub folded : (ws : List ℕ) → digest_of ws ≡ fold (λ d w. mixed (bit_xor d w)) digest_start ws
unfolding digest_of
folded ws = folded_from digest_start ws
