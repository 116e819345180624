-- The index: what a call computes once beside the record and then only reads, with an entry of two words to a role, a user or a permission.
-- Assumes nothing.
use Rattle.std.specs.Prelude.{◌≡◌, ℕ, ◌*◌, get_or}
use Rattle.std.proofs.Math.Bool.{So}
use Rattle.sets.specs.Sets.{has}
use Rattle.model.specs.Lists.{set_at}
use Rattle.model.specs.Hierarchy.{Roles, candidate_count, authorised_users}
use Rattle.model.specs.Indexes.{lower, roles_of_user, roles_of_permission}
use Rattle.tables.specs.Tables.{HoldsSets}
use Rattle.indexes.specs.declared.index.Index.{Index}

-- no table has anything
pub record Blank (ix : Index) : Type 0 where
  pub lower : (i : ℕ) → get_or ix.lower i 0 ≡ 0
  pub roles : (i : ℕ) → get_or ix.roles i 0 ≡ 0
  pub users : (i : ℕ) → get_or ix.users i 0 ≡ 0
  pub holders : (i : ℕ) → get_or ix.holders i 0 ≡ 0

-- each role's lower candidates
abbrev pub LowerRoles : Roles → Index → Type 0
LowerRoles ρ ix = HoldsSets 2 (candidate_count ρ) (lower ρ) ix.lower

-- each user's roles
abbrev pub UserRoles : Roles → Index → Type 0
UserRoles ρ ix = HoldsSets 2 ρ.users (roles_of_user ρ) ix.roles

-- each role's users
abbrev pub RoleUsers : Roles → Index → Type 0
RoleUsers ρ ix = HoldsSets 2 (candidate_count ρ) (authorised_users ρ) ix.users

-- the roles that hold each permission of the set s: a strike asks for the direct permissions of one role, an elimination for all
abbrev pub HoldersFor : Roles → ℕ → Index → Type 0
HoldersFor ρ s ix = (p : ℕ) → So (has s p) → set_at 2 ix.holders (2 * p) ≡ roles_of_permission ρ p

-- the same of every permission
abbrev pub AllHolders : Roles → Index → Type 0
AllHolders ρ ix = HoldsSets 2 ρ.permissions (roles_of_permission ρ) ix.holders

-- the index of these roles. The holders of permissions are filled by those who ask for them.
pub record Indexed (ρ : Roles) (ix : Index) : Type 0 where
  pub lower_roles : LowerRoles ρ ix
  pub user_roles : UserRoles ρ ix
  pub role_users : RoleUsers ρ ix
