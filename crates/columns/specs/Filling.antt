-- A table filled for some items only.
-- Assumes nothing.
use Rattle.std.specs.Prelude.{◌≡◌, List, ℕ, false, ◌*◌, ◌/◌, get_or}
use Rattle.std.proofs.Math.Bool.{So}
use Rattle.sets.specs.Sets.{has}
use Rattle.model.specs.Lists.{set_at}

-- the entries of a table, two words each, for the items of s
abbrev pub HoldsFor : ℕ → (ℕ → ℕ) → List ℕ → Type 0
HoldsFor s f ws = (p : ℕ) → So (has s p) → set_at 2 ws (2 * p) ≡ f p

-- the list ws with these entries so, and otherwise the list before
abbrev pub FilledFor : ℕ → (ℕ → ℕ) → List ℕ → List ℕ → Type 0
FilledFor s f before ws = HoldsFor s f ws × ((i : ℕ) → has s (i / 2) ≡ false → get_or ws i 0 ≡ get_or before i 0)
