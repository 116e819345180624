-- A digit as a byte: 0 to 9, then a to f in lower case.
-- Assumes nothing.
use Rattle.std.specs.Prelude.{List, ℕ, ◌+◌, ◌-◌, leb, ltb, get_or}
use Rattle.sets.specs.Truth.{◌and◌, when◌then◌else◌}

-- the byte of a digit below 16
unfoldable pub digit_byte : ℕ → ℕ
digit_byte d = when ltb d 10 then 48 + d else 87 + d

-- the digit that a byte stands for; 16 for a byte that is no digit
unfoldable pub digit_of : ℕ → ℕ
digit_of b = when leb 48 b and leb b 57 then b - 48 else when leb 97 b and leb b 102 then b - 87 else 16

-- the digit at a place of a text; 16 past its end
unfoldable pub digit_at : List ℕ → ℕ → ℕ
digit_at text at = digit_of (get_or text at 0)
