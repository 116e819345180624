-- Mining: "Candidates are all nonempty intersections of one or more persons' crew rows, each distinct set once, numbered by growing value."
-- Assumes nothing.
use Rattle.std.specs.Prelude.{◌≡◌, ◌↔◌, ◌≢◌, List, [], ◌∷◌, ℕ, zero, suc, ◌^◌, ◌<◌, eqb, ltb, length, get_or}
use Rattle.std.proofs.Math.Bool.{So}
use Rattle.sets.specs.Truth.{when◌then◌else◌}
use Rattle.sets.specs.Sets.{has, ◌∩◌}

-- x put at its place in a growing list, where it is not there yet
unfoldable pub place : ℕ → List ℕ → List ℕ
place x [] = x ∷ []
place x (y ∷ ys) = when ltb x y then x ∷ y ∷ ys else when eqb x y then y ∷ ys else y ∷ place x ys

-- the same for a set that may be empty: the empty set is no candidate
unfoldable pub admit : ℕ → List ℕ → List ℕ
admit x xs = when eqb x 0 then xs else place x xs

-- the intersections of the row r with each set of the first list, admitted to the second
unfoldable pub admit_meets : ℕ → List ℕ → List ℕ → List ℕ
admit_meets r [] table = table
admit_meets r (x ∷ xs) table = admit_meets r xs (admit (r ∩ x) table)

-- one more user: the user's own row, and its intersections with all that was there
unfoldable pub add_row : ℕ → List ℕ → List ℕ
add_row r table = admit_meets r table (admit r table)

-- the candidates of the first n rows
unfoldable pub mined_to : List ℕ → ℕ → List ℕ
mined_to rows zero = []
mined_to rows (suc n) = add_row (get_or rows n 0) (mined_to rows n)

-- the candidates of a crew list; candidate k is the one at place k
unfoldable pub candidates : List ℕ → List ℕ
candidates rows = mined_to rows (length rows)

-- ---- the paper's own words

-- x is an intersection of one or more of the first n rows: there is a nonempty set of these users, and p is in x exactly when each of them has p
pub record Intersection (rows : List ℕ) (n x : ℕ) : Type 0 where
  pub users : ℕ
  pub within : users < 2 ^ n
  pub nonempty : users ≢ 0
  pub exactly : (p : ℕ) → So (has x p) ↔ ((u : ℕ) → So (has users u) → So (has (get_or rows u 0) p))

-- x is in the list, at this place
pub record Listed (xs : List ℕ) (x : ℕ) : Type 0 where
  pub place : ℕ
  pub below : place < length xs
  pub there : get_or xs place 0 ≡ x

-- each number once, the smaller first: "numbered by growing value"
pub record Growing (xs : List ℕ) : Type 0 where
  pub order : (i j : ℕ) → i < j → j < length xs → get_or xs i 0 < get_or xs j 0

-- what every list of candidates is: it grows, has no empty set, and has the intersections of its sets that are not empty
pub record Table (xs : List ℕ) : Type 0 where
  pub grows : Growing xs
  pub nonempty : (x : ℕ) → Listed xs x → x ≢ 0
  pub closed : (x y : ℕ) → Listed xs x → Listed xs y → x ∩ y ≢ 0 → Listed xs (x ∩ y)
