-- What the walk along links asks of rows.
-- Assumes nothing.
use Rattle.std.proofs.Math.Bool.{So}
use Rattle.std.specs.Prelude.{ℕ, ◌<◌}
use Rattle.model.specs.Hierarchy.{RoleRows}
use Rattle.model.specs.Chains.{link}

-- every link leads to one of c roles, and to a lower number
pub record Downward (c : ℕ) (b : RoleRows) : Type 0 where
  pub ends : (k j : ℕ) → So (link b k j) → j < c
  pub lower : (k j : ℕ) → So (link b k j) → j < k
