-- Lists by index, as the record and the crew words are read.
-- Assumes nothing.
use Rattle.std.specs.Prelude.{◌≡◌, ◌⊎◌, List, [], ◌∷◌, ℕ, zero, suc, ◌+◌, ◌*◌, get_or}
use Rattle.sets.specs.Words.{value}

-- f 0, f 1, .. , n of them
unfoldable pub tabulate : ℕ → (ℕ → ℕ) → List ℕ
tabulate zero f = []
tabulate (suc n) f = f 0 ∷ tabulate n (λ i. f (suc i))

-- the n elements of a list from place `at` on; 0 past its end
unfoldable pub elems : List ℕ → ℕ → ℕ → List ℕ
elems ws at zero = []
elems ws at (suc n) = get_or ws at 0 ∷ elems ws (suc at) n

-- the set that n words from place `at` on hold
unfoldable pub set_at : ℕ → List ℕ → ℕ → ℕ
set_at n ws at = value (elems ws at n)

-- n sets of four words each, from place `at` on: a crew list's rows
unfoldable pub rows_at : ℕ → List ℕ → ℕ → List ℕ
rows_at n ws at = tabulate n (λ u. set_at 4 ws (at + 4 * u))

-- x is one of the numbers of a list
abbrev pub OneOf : ℕ → List ℕ → Type 0
OneOf x [] = ⊥
OneOf x (y ∷ ys) = (x ≡ y) ⊎ OneOf x ys
