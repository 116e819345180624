-- "Decimals have one to three digits and no leading zero; zero is the one digit 0."
-- Assumes nothing.
use Rattle.std.specs.Prelude.{Bool, Option, Some, None, List, [], ◌∷◌, ◌++◌, ℕ, zero, suc, ◌+◌, ◌*◌, ◌/◌, ◌%◌, eqb, ltb}
use Rattle.sets.specs.Truth.{when◌then◌else◌, isnt}
use Rattle.text.specs.Digits.{digit_byte, digit_at}

-- a digit of a decimal stands at a place of the text
unfoldable pub decimal_digit : List ℕ → ℕ → Bool
decimal_digit text at = ltb (digit_at text at) 10

-- a decimal's value, and the place after it
pub record Decimal : Type 0 where
  pub value : ℕ
  pub next : ℕ

-- there is a decimal
abbrev pub number : ℕ → ℕ → Option Decimal
number value next = Some (record { value = value; next = next })

-- the decimal that all the digits from place `at` on make, and the place after it
unfoldable pub decimal_at : List ℕ → ℕ → Option Decimal
decimal_at text at =
    let a = digit_at text at in
    let b = digit_at text (at + 1) in
    let c = digit_at text (at + 2) in
    when isnt (decimal_digit text at) then None
    else when isnt (decimal_digit text (at + 1)) then number a (at + 1)
    else when eqb a 0 then None
    else when isnt (decimal_digit text (at + 2)) then number (10 * a + b) (at + 2)
    else when isnt (decimal_digit text (at + 3)) then number (100 * a + 10 * b + c) (at + 3)
    else None

-- the bytes of v in decimal, where k digits are enough
unfoldable pub decimal_of : ℕ → ℕ → List ℕ
decimal_of zero v = []
decimal_of (suc k) v = (when ltb v 10 then [] else decimal_of k (v / 10)) ++ (digit_byte (v % 10) ∷ [])

-- a number of 64 bits has at most 20 digits
unfoldable pub decimal : ℕ → List ℕ
decimal v = decimal_of 20 v
