-- The lowest and the highest item of a set, where there is one.
-- Assumes nothing.
use Rattle.std.proofs.Math.Bool.{So}
use Rattle.std.specs.Prelude.{ℕ, zero, suc, ◌≤◌, ◌<◌, Option, Some, None}
use Rattle.sets.specs.Truth.{when◌then◌else◌}
use Rattle.sets.specs.Sets.{has}

infixl 20 ◌otherwise◌
-- the first, or the second where the first is nothing
unfoldable pub ◌otherwise◌ : Option ℕ → Option ℕ → Option ℕ
Some i otherwise b = Some i
None otherwise b = b

-- n where it is an item of s
unfoldable pub item_at : ℕ → ℕ → Option ℕ
item_at s n = when has s n then Some n else None

-- of the items of s below n, the lowest
unfoldable pub lowest : ℕ → ℕ → Option ℕ
lowest zero s = None
lowest (suc n) s = lowest n s otherwise item_at s n

-- of the items of s below n, the highest
unfoldable pub highest : ℕ → ℕ → Option ℕ
highest zero s = None
highest (suc n) s = item_at s n otherwise highest n s

-- ---- in plain words, of a set within n items

-- i is the lowest item of s
pub record LowestItem (n s i : ℕ) : Type 0 where
  pub there : So (has s i)
  pub small : i < n
  pub least : (j : ℕ) → So (has s j) → i ≤ j

-- i is the highest item of s
pub record HighestItem (n s i : ℕ) : Type 0 where
  pub there : So (has s i)
  pub small : i < n
  pub most : (j : ℕ) → So (has s j) → j ≤ i
