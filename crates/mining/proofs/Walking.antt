-- The walk of one row over a table, by what is read from it and the slots.
-- Assumes nothing.
use mathlib.Core.Path.{◌≡◌, sym, ◌∙◌, ap}
use mathlib.Core.Bool.{true}
use mathlib.Core.Logic.{◌≢◌}
use mathlib.Core.List.{List}
use Prim.Native.Nat.{ℕ, ◌+◌, ◌<◌}
use lib.ListN.{length, get_or}
use Rattle.sets.specs.Sets.{◌∩◌}
use Rattle.model.specs.Candidates.{place, add_row, Growing}
use Rattle.model.proofs.Growing.{listed_at}
use Rattle.mining.specs.Mining.{Seen, Known}
use Rattle.mining.proofs.Meeting.{Walked, walked_known, walked_placed, walked_full}
use Rattle.mining.proofs.Seeing.{known_listed}

-- x is the set at place i, and y its meet with r
module _ (r : ℕ) (xs ys : List ℕ) (i : ℕ) (w : Walked r xs ys i) (x y : ℕ) (here : (i < length ys) × (get_or ys i 0 ≡ x)) (m : y ≡ r ∩ x) where
  meet : y ≡ r ∩ get_or ys i 0
  meet = m ∙ ap (λ (z : ℕ). r ∩ z) (sym here.1)

  pub walking_known : (slots : List ℕ) → Seen slots ys → Known slots x y true → Walked r xs ys (i + 1)
  walking_known slots s k = walked_known r xs w (rw meet at (known_listed s x y (rw here.1 at (listed_at ys i here.0)) k))

  pub walking_placed : y ≢ 0 → Walked r xs (place y ys) (i + 1)
  walking_placed d = walked_placed r xs w y meet d here.0

  pub walking_full : y ≢ 0 → Growing xs → 128 < length (place y ys) → 128 < length (add_row r xs)
  walking_full d g l = walked_full r xs w y meet d here.0 g l
