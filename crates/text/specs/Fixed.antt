-- Fixed bytes in a text.
-- Assumes nothing.
use Rattle.std.specs.Prelude.{Bool, Option, Some, None, List, [], ◌∷◌, ℕ, ◌+◌, eqb, leb, length, get_or}
use Rattle.sets.specs.Truth.{◌and◌, when◌then◌else◌, all}

-- the text holds these bytes from place `at` on
unfoldable pub holds : List ℕ → ℕ → List ℕ → Bool
holds text at bytes = leb (at + length bytes) (length text) and all (length bytes) (λ i. eqb (get_or text (at + i) 0) (get_or bytes i 0))

-- the field of these bytes: the place after them where the text holds them
unfoldable pub fixed_at : List ℕ → ℕ → List ℕ → Option ℕ
fixed_at text at bytes = when holds text at bytes then Some (at + length bytes) else None

-- "each line ended by byte 10", fields "parted by commas"
abbrev pub line_end : List ℕ
line_end = 10 ∷ []

abbrev pub comma : List ℕ
comma = 44 ∷ []

unfoldable pub line_end_at : List ℕ → ℕ → Option ℕ
line_end_at text at = fixed_at text at line_end
