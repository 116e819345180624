-- A set is a natural number: item i is in it exactly when bit i of the number is 1. So sets compare as numbers.
-- Assumes nothing.
use Rattle.std.specs.Prelude.{Bool, ℕ, zero, suc, ◌+◌, ◌*◌, ◌/◌, ◌%◌, ◌^◌, eqb}
use Rattle.std.specs.Int.Bits.{bit_and, bit_or, bit_xor}
use Rattle.sets.specs.Truth.{◌and◌, isnt, bit}

infixl 62 ◌∩◌
infixl 58 ◌∪◌ ◌∖◌
-- item i is in the set s
unfoldable pub has : ℕ → ℕ → Bool
has s i = eqb (s / 2 ^ i % 2) 1

-- the items of both, of either, and of the first without those of the second
unfoldable pub ◌∩◌ : ℕ → ℕ → ℕ
a ∩ b = bit_and a b

unfoldable pub ◌∪◌ : ℕ → ℕ → ℕ
a ∪ b = bit_or a b

unfoldable pub ◌∖◌ : ℕ → ℕ → ℕ
a ∖ b = bit_xor a (a ∩ b)

-- the set of the one item i
unfoldable pub single : ℕ → ℕ
single i = 2 ^ i

-- every item of a is in b; and a is not b
unfoldable pub subset : ℕ → ℕ → Bool
subset a b = eqb (a ∩ b) a

unfoldable pub proper_subset : ℕ → ℕ → Bool
proper_subset a b = subset a b and isnt (eqb a b)

-- the set of the items below n that pass the test f
unfoldable pub collect : ℕ → (ℕ → Bool) → ℕ
collect zero f = 0
collect (suc n) f = bit (f n) * 2 ^ n + collect n f
