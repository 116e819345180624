-- The numbers of a call in the model's terms. The structs that hold them are not named here, since their own ghost fields cite this file.
-- Assumes nothing.
use Rattle.std.specs.Prelude.{ℕ}
use Rattle.model.specs.Quality as model

-- the weights w1 to w4 and the tolerance a/b of a call
unfoldable pub weights_of : ℕ → ℕ → ℕ → ℕ → model.Weights
weights_of w1 w2 w3 w4 = record { per_role = w1; per_member = w2; per_permission = w3; per_link = w4 }

unfoldable pub tolerance_of : ℕ → ℕ → model.Tolerance
tolerance_of a b = record { numerator = a; denominator = b }
