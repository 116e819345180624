-- A block on its way: words put into it one after another.
-- Assumes nothing.
use Rattle.std.specs.Prelude.{◌≡◌, List, ℕ, ◌≤◌, ◌<◌, get_or}

-- the first n words are those that f tells, and the others are as before
pub record Loaded (n : ℕ) (f : ℕ → ℕ) (before ws : List ℕ) : Type 0 where
  pub inside : (q : ℕ) → q < n → get_or ws q 0 ≡ f q
  pub past : (q : ℕ) → n ≤ q → get_or ws q 0 ≡ get_or before q 0
