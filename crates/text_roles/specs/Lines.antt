-- The lines in which the lister prints roles, and a refusal.
-- Assumes nothing.
use Rattle.std.specs.Prelude.{List, [], ◌∷◌, ◌++◌, ℕ, zero, suc}
use Rattle.sets.specs.Truth.{when◌then◌else◌}
use Rattle.sets.specs.Sets.{has}
use Rattle.text.specs.Fixed.{comma, line_end}
use Rattle.text.specs.Decimal.{decimal}
use Rattle.text_sets.specs.Hexadecimal.{hexadecimal}
use Rattle.text_lines.specs.Format.{digits_for}

-- "roles,"
abbrev pub roles_word : List ℕ
roles_word = 114 ∷ 111 ∷ 108 ∷ 101 ∷ 115 ∷ 44 ∷ []

-- "refused,"
abbrev pub refused_word : List ℕ
refused_word = 114 ∷ 101 ∷ 102 ∷ 117 ∷ 115 ∷ 101 ∷ 100 ∷ 44 ∷ []

-- a comma, and a set of items below `size` with as many hexadecimal digits as that needs "at four bits each"
unfoldable pub field : ℕ → ℕ → List ℕ
field size s = comma ++ hexadecimal (digits_for size) s

-- "number, S(k), direct permissions, direct members, immediate juniors", with the digits that "m, m, n and c need"
unfoldable pub line : ℕ → ℕ → ℕ → ℕ → ℕ → ℕ → ℕ → ℕ → List ℕ
line n m c k set permissions members juniors =
    decimal k ++ (field m set ++ (field m permissions ++ (field n members ++ (field c juniors ++ line_end))))

-- the lines of those roles below k that are in R
unfoldable pub lines_to : ℕ → (ℕ → List ℕ) → ℕ → List ℕ
lines_to R line_of zero = []
lines_to R line_of (suc k) = lines_to R line_of k ++ (when has R k then line_of k else [])

-- "`roles,` with the standing count and q"
unfoldable pub head_line : ℕ → ℕ → List ℕ
head_line count q = roles_word ++ (decimal count ++ (comma ++ (decimal q ++ line_end)))

-- "A refusal prints `refused,` and its number."
unfoldable pub refused_text : ℕ → List ℕ
refused_text k = refused_word ++ (decimal k ++ line_end)
