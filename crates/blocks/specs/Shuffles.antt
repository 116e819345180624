-- A transposition of 64 words of 64 bits by shuffles.
-- Assumes nothing.
use Rattle.std.specs.Prelude.{◌≡◌, Bool, List, ℕ, ◌+◌, ◌-◌, ◌*◌, ◌/◌, ◌%◌, ◌<◌, leb, get_or}
use Rattle.sets.specs.Truth.{◌and◌, isnt, when◌then◌else◌, all}
use Rattle.sets.specs.Sets.{has}

-- where a shuffle by s takes bit c of word r from, m being the mask of the bits that stay in their half
unfoldable pub from_row : ℕ → ℕ → ℕ → ℕ
from_row m r c = when has m c then r / 2 else r / 2 + 32

unfoldable pub from_column : ℕ → ℕ → ℕ → ℕ → ℕ
from_column s m r c = when has m c then c + s * (r % 2) else c - s * (1 - r % 2)

-- a place is not in the mask exactly where the place s below it is
unfoldable pub spaced : ℕ → ℕ → Bool
spaced s m = all 64 (λ c. when has m c then isnt (leb s c and has m (c - s)) else leb s c and has m (c - s))

-- the first n words are those of a shuffle
pub record Shuffled (n s m : ℕ) (before ws : List ℕ) : Type 0 where
  pub taken : (r c : ℕ) → r < n → c < 64 → has (get_or ws r 0) c ≡ has (get_or before (from_row m r c) 0) (from_column s m r c)

-- word r of one has bit c exactly where word c of the other has bit r
pub record Transposed (before ws : List ℕ) : Type 0 where
  pub turned : (r c : ℕ) → r < 64 → c < 64 → has (get_or ws r 0) c ≡ has (get_or before c 0) r
