-- What a search in a growing table tells, and what putting a set into one leaves. A table t with n sets has them at `rows_at n t 0`.
-- Assumes nothing.
use Rattle.std.specs.Prelude.{◌≡◌, List, ◌∷◌, ◌++◌, ℕ, ◌+◌, ◌*◌, ◌^◌, ◌≤◌, ◌<◌, get_or, take, drop, Result, Ok, Err}
use Rattle.model.specs.Lists.{rows_at}

-- place i of n growing sets is where x belongs, which is not one of them
pub record Between (n : ℕ) (xs : List ℕ) (x i : ℕ) : Type 0 where
  pub within : i ≤ n
  pub before : (j : ℕ) → j < i → get_or xs j 0 < x
  pub after : (j : ℕ) → i ≤ j → j < n → x < get_or xs j 0

-- x looked for among n growing sets
abbrev pub Finds : ℕ → List ℕ → ℕ → Result ℕ ℕ → Type 0
Finds n xs x (Ok i) = (i < n) × (get_or xs i 0 ≡ x)
Finds n xs x (Err i) = Between n xs x i

-- x put at place i of a table's n sets, and the sets from there on one place higher; words stay words
pub record Inserts (n i x : ℕ) (t t' : List ℕ) : Type 0 where
  pub rows : rows_at (n + 1) t' 0 ≡ take i (rows_at n t 0) ++ (x ∷ drop i (rows_at n t 0))
  pub rest : (w : ℕ) → 4 * (n + 1) ≤ w → get_or t' w 0 ≡ get_or t w 0
  pub words : ((w : ℕ) → get_or t w 0 < 2 ^ 64) → (w : ℕ) → get_or t' w 0 < 2 ^ 64
