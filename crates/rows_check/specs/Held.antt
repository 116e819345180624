-- The rows that a record holds, beside those of the building.
-- Assumes nothing.
use Rattle.std.specs.Prelude.{◌≡◌, List, ℕ, ◌+◌, ◌*◌}
use Rattle.model.specs.Lists.{set_at}
use Rattle.model.specs.Hierarchy.{immediate_juniors, direct_permissions, direct_members}
use Rattle.model.specs.Record.{record_length, permissions_start, members_start, juniors_start}
use Rattle.model.specs.State.{State, roles_of}
use Rattle.tables.specs.Tables.{ZeroFrom}

-- role k has its immediate juniors and its direct permissions
pub record UpperHeld (st : State) (ws : List ℕ) (k : ℕ) : Type 0 where
  pub juniors : set_at 2 ws (juniors_start + 2 * k) ≡ immediate_juniors (roles_of st) st.standing k
  pub permissions : set_at 4 ws (permissions_start + 4 * k) ≡ direct_permissions (roles_of st) st.standing k

-- role k has its direct members
abbrev pub LowerHeld : State → List ℕ → ℕ → Type 0
LowerHeld st ws k = set_at 2 ws (members_start + 2 * k) ≡ direct_members (roles_of st) st.standing k

-- behind the rows of c roles all is zero
pub record NoneBehind (ws : List ℕ) (c : ℕ) : Type 0 where
  pub permissions : ZeroFrom ws (permissions_start + 4 * c) members_start
  pub members : ZeroFrom ws (members_start + 2 * c) juniors_start
  pub juniors : ZeroFrom ws (juniors_start + 2 * c) record_length
