-- The rows of a crew list, as a slice of them is read.
-- Assumes nothing.
use Rattle.std.specs.Prelude.{List, ℕ, map}
use Rattle.sets.specs.Words.{value}

-- the set that each row's words hold
unfoldable pub rows_of : List (List ℕ) → List ℕ
rows_of rows = map value rows
