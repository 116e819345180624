-- What the functions promise of the sets they found, and of their answers, by the answers' cases. A table t with k sets has them at `rows_at k t 0`.
-- Assumes nothing.
use Rattle.std.specs.Prelude.{◌≡◌, ⊤, Bool, true, false, ◌≢◌, ◌⊎◌, List, ℕ, ◌+◌, ◌*◌, ◌^◌, ◌≤◌, ◌<◌, length, get_or, map, Option, Some, None}
use Rattle.sets.specs.Words.{word}
use Rattle.sets.specs.Held.{set_of}
use Rattle.sets.specs.declared.set.Set.{Set}
use Rattle.model.specs.Candidates.{Listed, Growing}
use Rattle.model.specs.Lists.{rows_at}
use Rattle.tables.specs.Tables.{table256_length}

-- sets that were to be xs
abbrev pub Adds : List ℕ → List ℕ → Option ⊤ → Type 0
Adds xs ys (Some x) = ys ≡ xs
Adds xs ys None = 128 < length xs

-- k sets that are xs
pub record Complete (xs ys : List ℕ) (k : ℕ) : Type 0 where
  pub sets : ys ≡ xs
  pub count : k ≡ length xs
  pub few : k ≤ 128

-- sets that were to be the candidates xs, and how many they are
abbrev pub Mines : List ℕ → List ℕ → Option ℕ → Type 0
Mines xs ys (Some k) = Complete xs ys k
Mines xs ys None = 128 < length xs

-- a table that has the words of the sets xs, and zeros behind them
pub record Written (t xs : List ℕ) : Type 0 where
  pub size : length t ≡ table256_length
  pub few : length xs ≤ 128
  pub words : (i j : ℕ) → i < 128 → j < 4 → get_or t (4 * i + j) 0 ≡ word (get_or xs i 0) j

-- ---- the meets that were seen

-- the sets in the slots
unfoldable pub sets_of : List (Set 4) → List ℕ
sets_of slots = map set_of slots

-- each slot is empty or has one of the sets xs
pub record Seen (slots xs : List ℕ) : Type 0 where
  pub listed : (s : ℕ) → s < 128 → (get_or slots s 0 ≡ 0) ⊎ Listed xs (get_or slots s 0)

-- what is told of y, the meet of a row and x: it is x, empty, or in a slot; or it is not empty
abbrev pub Known : List ℕ → ℕ → ℕ → Bool → Type 0
Known slots x y true = (y ≡ x) ⊎ ((y ≡ 0) ⊎ ((s : ℕ) × (s < 128) × (y ≡ get_or slots s 0)))
Known slots x y false = y ≢ 0

-- x stands in one of the slots, and the others are as they were
pub record Remembered (x : ℕ) (slots slots' : List ℕ) : Type 0 where
  pub slot : ℕ
  pub below : slot < 128
  pub there : get_or slots' slot 0 ≡ x
  pub others : (s : ℕ) → s ≢ slot → get_or slots' s 0 ≡ get_or slots s 0

-- ---- the table, how many sets it has, and the slots

pub record Gathered (t : List ℕ) (k : ℕ) (slots : List ℕ) : Type 0 where
  pub few : k ≤ 128
  pub words : (i : ℕ) → get_or t i 0 < 2 ^ 64
  pub rest : (i : ℕ) → 4 * k ≤ i → get_or t i 0 ≡ 0
  pub grows : Growing (rows_at k t 0)
  pub seen : Seen slots (rows_at k t 0)
