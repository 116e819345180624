-- Values stored into a list.
-- Assumes nothing.
use Rattle.std.specs.Prelude.{List, [], ◌∷◌, ℕ, suc, set}

-- the list with the values vs from place `at` on
unfoldable pub put_at : List ℕ → ℕ → List ℕ → List ℕ
put_at l at [] = l
put_at l at (v ∷ vs) = put_at (set l at v) (suc at) vs
