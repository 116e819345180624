-- A set held in 64-bit words: item i is bit i mod 64 of word i / 64, bit 0 lowest.
-- Assumes nothing.
use Rattle.std.specs.Prelude.{List, [], ◌∷◌, ℕ, ◌+◌, ◌*◌, ◌/◌, ◌%◌, ◌^◌}

-- the number that a list of words stands for, its lowest word first
unfoldable pub value : List ℕ → ℕ
value [] = 0
value (w ∷ ws) = value ws * 2 ^ 64 + w

-- word j of the set s
unfoldable pub word : ℕ → ℕ → ℕ
word s j = s / 2 ^ (64 * j) % 2 ^ 64
