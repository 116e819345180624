-- The neighbours of a role.
-- Assumes nothing.
use Rattle.std.specs.Prelude.{◌≡◌, ℕ}
use Rattle.model.specs.Hierarchy.{Roles, immediate_juniors}
use Rattle.hierarchy.specs.Tables.{immediate_seniors}

-- the immediate seniors and juniors of role k in the building of R: "before a strike, after a restoration" one in which it stands
pub record Neighbours (ρ : Roles) (R k above below : ℕ) : Type 0 where
  pub seniors : above ≡ immediate_seniors ρ R k
  pub juniors : below ≡ immediate_juniors ρ R k
