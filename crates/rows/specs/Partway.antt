-- A record on its way to the building of a state.
-- Assumes nothing.
use Rattle.std.specs.Prelude.{◌≡◌, List, ℕ, ◌+◌, ◌*◌, ◌≤◌, ◌<◌, length, get_or}
use Rattle.std.proofs.Math.Bool.{So}
use Rattle.sets.specs.Truth.{when◌then◌else◌}
use Rattle.sets.specs.Sets.{has}
use Rattle.sets.specs.Words.{word}
use Rattle.model.specs.Hierarchy.{Roles, permission_set, immediate_juniors, direct_permissions, direct_members, RoleRows}
use Rattle.model.specs.Record.{record_length, crew_start, sets_start, permissions_start, members_start, juniors_start, header_word, Limits}
use Rattle.model.specs.State.{State, roles_of}
use Rattle.indexes.specs.declared.index.Index.{Index}
use Rattle.indexes.specs.Index.{Indexed}

-- the old entry of k where k is in s, the new one otherwise
unfoldable pub still : ℕ → (ℕ → ℕ) → (ℕ → ℕ) → ℕ → ℕ
still s old new k = when has s k then old k else new k

-- from place `start` on stand the sets f 0, .. , f 127, w words each
abbrev pub Region : ℕ → ℕ → (ℕ → ℕ) → List ℕ → Type 0
Region w start f ws = (k j : ℕ) → k < 128 → j < w → get_or ws (start + w * k + j) 0 ≡ word (f k) j

-- the header, the crew rows and the sets of all candidates are those of a state
pub record Headed (st : State) (ws : List ℕ) : Type 0 where
  pub size : length ws ≡ record_length
  pub head : (i : ℕ) → i < 8 → get_or ws i 0 ≡ header_word st i
  pub crew : Region 4 crew_start (λ u. get_or st.rows u 0) ws
  pub sets : Region 4 sets_start (permission_set (roles_of st)) ws

-- the record built from a state, but that the roles of s still have their old immediate juniors, those of p their old direct permissions, and
-- those of t their old direct members
pub record Partway (old : RoleRows) (st : State) (s p t : ℕ) (ws : List ℕ) : Type 0 where
  pub headed : Headed st ws
  pub permissions : Region 4 permissions_start (still p old.permissions (direct_permissions (roles_of st) st.standing)) ws
  pub members : Region 2 members_start (still t old.members (direct_members (roles_of st) st.standing)) ws
  pub juniors : Region 2 juniors_start (still s old.juniors (immediate_juniors (roles_of st) st.standing)) ws

-- a record to be built afresh from a state: all that is no role's row is there, and the rows are zero
pub record WithoutRows (st : State) (ws : List ℕ) : Type 0 where
  pub headed : Headed st ws
  pub zero : (i : ℕ) → permissions_start ≤ i → i < record_length → get_or ws i 0 ≡ 0

-- what is known of the state that a record is on its way to: it is within the limits, R is its standing set, and the index is that of its roles
pub record Target (st : State) (R : ℕ) (index : Index) : Type 0 where
  pub limits : Limits st
  pub standing : st.standing ≡ R
  pub indexed : Indexed (roles_of st) index

-- two buildings differ in immediate juniors and direct permissions at most for the roles of s, in direct members at most for those of t
pub record Differ (ρ : Roles) (R S s t : ℕ) : Type 0 where
  pub juniors : (i : ℕ) → (So (has s i) → ⊥) → immediate_juniors ρ R i ≡ immediate_juniors ρ S i
  pub permissions : (i : ℕ) → (So (has s i) → ⊥) → direct_permissions ρ R i ≡ direct_permissions ρ S i
  pub members : (i : ℕ) → (So (has t i) → ⊥) → direct_members ρ R i ≡ direct_members ρ S i
