-- Sets "in hexadecimal, lower case", with a given number of digits, "highest digit first".
-- Assumes nothing.
use Rattle.std.specs.Prelude.{Bool, Option, Some, None, List, [], ◌∷◌, ℕ, zero, suc, ◌+◌, ◌*◌, ◌/◌, ◌%◌, ◌^◌, leb, ltb, length}
use Rattle.sets.specs.Truth.{◌and◌, when◌then◌else◌, all}
use Rattle.text.specs.Digits.{digit_byte, digit_at}
use Rattle.text.specs.Rest.{after}
use Rattle.text.specs.declared.rest.Rest.{Rest}

-- d digits stand from place `at` on
unfoldable pub hexadecimal_at : ℕ → List ℕ → ℕ → Bool
hexadecimal_at d text at = leb (at + d) (length text) and all d (λ i. ltb (digit_at text (at + i)) 16)

-- the field of d digits
unfoldable pub hexadecimal_field : ℕ → List ℕ → ℕ → Option ℕ
hexadecimal_field d text at = when hexadecimal_at d text at then Some (at + d) else None

-- what is left after them
unfoldable pub after_digits : Rest → ℕ → Option Rest
after_digits rest d = after rest (hexadecimal_field d rest.text.now rest.at)

-- the number that the d digits from place `at` on make
unfoldable pub hexadecimal_value : ℕ → List ℕ → ℕ → ℕ
hexadecimal_value zero text at = 0
hexadecimal_value (suc d) text at = hexadecimal_value d text at * 16 + digit_at text (at + d)

-- the bytes of the lowest d digits of s
unfoldable pub hexadecimal : ℕ → ℕ → List ℕ
hexadecimal zero s = []
hexadecimal (suc d) s = digit_byte (s / 16 ^ d % 16) ∷ hexadecimal d s
