-- A set taken item by item.
-- Assumes nothing.
use Rattle.std.specs.Prelude.{◌≡◌, ℕ, Option, Some, None}
use Rattle.sets.specs.Sets.{◌∖◌, single}
use Rattle.sets.specs.Extremes.{LowestItem, HighestItem}

-- the first of the items s below n: the lowest, or none where there is none
abbrev pub FirstItem : ℕ → ℕ → Option ℕ → Type 0
FirstItem n s None = s ≡ 0
FirstItem n s (Some i) = LowestItem n s i

-- the last of them
abbrev pub LastItem : ℕ → ℕ → Option ℕ → Type 0
LastItem n s None = s ≡ 0
LastItem n s (Some i) = HighestItem n s i

-- the first of them, and the set t that is left
abbrev pub NextItem : ℕ → ℕ → Option ℕ → ℕ → Type 0
NextItem n s None t = (s ≡ 0) × (t ≡ 0)
NextItem n s (Some i) t = LowestItem n s i × (t ≡ s ∖ single i)
