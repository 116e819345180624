-- What the walk over users and permissions answers, and what it is given.
-- Assumes nothing.
use Rattle.std.specs.Prelude.{◌≡◌, Bool, List, ℕ, ◌+◌, ◌*◌, ◌^◌, ◌≤◌, ◌<◌, get_or}
use Rattle.sets.specs.Truth.{◌implies◌, all}
use Rattle.sets.specs.Sets.{has}
use Rattle.model.specs.Lists.{set_at}
use Rattle.model.specs.Hierarchy.{Roles}
use Rattle.model.specs.Coverage.{grant, covered}
use Rattle.model.specs.Record.{crew_start}
use Rattle.indexes.specs.declared.index.Index.{Index}
use Rattle.indexes.specs.Index.{UserRoles, HoldersFor}

-- every item of s below n passes f
unfoldable pub each : ℕ → ℕ → (ℕ → Bool) → Bool
each n s f = all n (λ i. has s i implies f i)

-- a role of s covers each grant of user u to the permissions ps; and of every user of us
unfoldable pub user_covered : Roles → ℕ → ℕ → ℕ → Bool
user_covered ρ s ps u = each ρ.permissions ps (λ p. grant ρ u p implies covered ρ s u p)

unfoldable pub grants_covered : Roles → ℕ → ℕ → ℕ → Bool
grants_covered ρ s us ps = each ρ.users us (user_covered ρ s ps)

-- the record has the crew rows; the index the roles of each user, and the roles that hold each permission of ps
pub record Asked (ρ : Roles) (ws : List ℕ) (index : Index) (ps : ℕ) : Type 0 where
  pub few_users : ρ.users ≤ 128
  pub few_permissions : ρ.permissions ≤ 256
  pub permissions_below : ps < 2 ^ ρ.permissions
  pub crew_rows : (u : ℕ) → u < ρ.users → set_at 4 ws (crew_start + 4 * u) ≡ get_or ρ.granted u 0
  pub user_roles : UserRoles ρ index
  pub permission_roles : HoldersFor ρ ps index
