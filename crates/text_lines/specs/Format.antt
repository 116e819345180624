-- The crew text of a crew list: "First `crew,n,m`, then n lines `u,h` with u rising from 0, h the crew row in hexadecimal".
-- Assumes nothing.
use Rattle.std.specs.Prelude.{List, [], ◌∷◌, ◌++◌, ℕ, zero, suc, ◌+◌, ◌/◌, get_or}
use Rattle.text.specs.Fixed.{comma, line_end}
use Rattle.text.specs.Decimal.{decimal}
use Rattle.text_sets.specs.Hexadecimal.{hexadecimal}

-- "crew,"
abbrev pub crew_word : List ℕ
crew_word = 99 ∷ 114 ∷ 101 ∷ 119 ∷ 44 ∷ []

-- "exactly m/4 digits rounded up"
unfoldable pub digits_for : ℕ → ℕ
digits_for m = (m + 3) / 4

unfoldable pub header_line : ℕ → ℕ → List ℕ
header_line n m = crew_word ++ (decimal n ++ (comma ++ (decimal m ++ line_end)))

-- the line of user u, whose row is s
unfoldable pub row_line : ℕ → ℕ → ℕ → List ℕ
row_line m u s = decimal u ++ (comma ++ (hexadecimal (digits_for m) s ++ line_end))

-- the lines of the first n rows
unfoldable pub row_lines : ℕ → List ℕ → ℕ → List ℕ
row_lines m rows zero = []
row_lines m rows (suc u) = row_lines m rows u ++ row_line m u (get_or rows u 0)

unfoldable pub crew_text : ℕ → ℕ → List ℕ → List ℕ
crew_text n m rows = header_line n m ++ row_lines m rows n
