-- What a table of sets holds.
-- Assumes nothing.
use Rattle.std.specs.Prelude.{◌≡◌, List, ℕ, ◌*◌, ◌≤◌, ◌<◌, get_or}
use Rattle.model.specs.Lists.{set_at}

-- how many words a table of 128 sets has: two words to a set of users or of roles, four to a set of permissions
abbrev pub table128_length : ℕ
table128_length = 256

abbrev pub table256_length : ℕ
table256_length = 512

-- the first n entries, w words to an entry, are the sets f 0, f 1, ..
abbrev pub HoldsSets : ℕ → ℕ → (ℕ → ℕ) → List ℕ → Type 0
HoldsSets w n f ws = (k : ℕ) → k < n → set_at w ws (w * k) ≡ f k

-- the list ws with its first n entries so, and otherwise the list before
abbrev pub Filled : ℕ → ℕ → (ℕ → ℕ) → List ℕ → List ℕ → Type 0
Filled w n f before ws = HoldsSets w n f ws × ((i : ℕ) → w * n ≤ i → get_or ws i 0 ≡ get_or before i 0)

-- the words from place `from` on and before place `to` are zero
pub record ZeroFrom (ws : List ℕ) (from to : ℕ) : Type 0 where
  pub each : (i : ℕ) → from ≤ i → i < to → get_or ws i 0 ≡ 0
