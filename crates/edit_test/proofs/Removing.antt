-- What a record and its index tell the walk, and what the walk then says of a role.
-- Assumes nothing.
use mathlib.Core.Path.{◌≡◌, ◌∙◌, ap}
use mathlib.Core.Bool.{Bool, So}
use mathlib.Core.List.{List}
use Prim.Native.Nat.{ℕ, ◌+◌, ◌*◌, ◌^◌, ◌<◌}
use native.Mathlib.Nat.{lt_of_lt_of_le}
use lib.Dec.{ltb}
use Rattle.sets.specs.Truth.{when◌then◌else◌}
use Rattle.sets.specs.Sets.{has, ◌∖◌, single}
use Rattle.sets.proofs.Truth.{ltb_iff, when-true}
use Rattle.model.specs.Lists.{set_at}
use Rattle.model.specs.Hierarchy.{Roles, direct_members, direct_permissions}
use Rattle.model.specs.Coverage.{strikable}
use Rattle.model.specs.Record.{crew_start, permissions_start, members_start, built, Limits}
use Rattle.model.specs.State.{State, roles_of}
use Rattle.model.proofs.Building.{stands_below}
use Rattle.model.proofs.Record.{direct_permissions_lt, direct_members_lt, read_row, read_standing}
use Rattle.model.proofs.Steps.{limits_ordered}
use Rattle.hierarchy.proofs.Reading.{read_permissions_of, read_members_of}
use Rattle.indexes.specs.declared.index.Index.{Index}
use Rattle.indexes.specs.Index.{Indexed, HoldersFor}
use Rattle.edit_test.specs.Covering.{grants_covered, Asked}
use Rattle.edit_test.proofs.Covering.{covered-strikable}

module _ (st : State) (ws : List ℕ) (lim : Limits st) (e : ws ≡ built st) where
  -- the walk may ask for these permissions
  pub asked : (index : Index) (ps : ℕ) → ps < 2 ^ st.permissions → Indexed (roles_of st) index → HoldersFor (roles_of st) ps index → Asked (roles_of st) ws index ps
  unfolding roles_of
  asked index ps b ix held =
      record {
        few_users = lim.users_most;
        few_permissions = lim.permissions_most;
        permissions_below = b;
        crew_rows = λ u l. ap (λ (x : List ℕ). set_at 4 x (crew_start + 4 * u)) e ∙ read_row st lim u (lt_of_lt_of_le l lim.users_most);
        user_roles = ix.user_roles;
        permission_roles = held;
      }

  pub permissions_told : (k ps : ℕ) → k < 128 → ps ≡ set_at 4 ws (permissions_start + 4 * k) → ps ≡ direct_permissions (roles_of st) st.standing k
  permissions_told k ps small ep = ep ∙ ap (λ (x : List ℕ). set_at 4 x (permissions_start + 4 * k)) e ∙ read_permissions_of st lim k small

  -- over a role's direct members and permissions it says whether the role is strikable
  pub told_strikable : (index : Index) (k x us ps : ℕ) (t : Bool) → k < 128 → x ≡ (when ltb k 128 then single k else 0)
      → us ≡ set_at 2 ws (members_start + 2 * k) → ps ≡ set_at 4 ws (permissions_start + 4 * k)
      → ((ρ : Roles) → Asked ρ ws index ps → us < 2 ^ ρ.users → t ≡ grants_covered ρ (set_at 2 ws 4 ∖ x) us ps)
      → Indexed (roles_of st) index → HoldersFor (roles_of st) (direct_permissions (roles_of st) st.standing k) index → So (has st.standing k)
      → t ≡ strikable (roles_of st) st.standing k
  unfolding roles_of
  told_strikable index k x us ps t small ex eu ep walk ix held stands =
      let ρ = roles_of st in
      let Q = st.standing in
      let o = limits_ordered st lim in
      let now-Q : set_at 2 ws 4 ≡ Q = ap (λ (l : List ℕ). set_at 2 l 4) e ∙ read_standing st lim in
      let now-x : x ≡ single k = ex ∙ when-true (ltb k 128) (single k) 0 ((ltb_iff k 128).1 small) in
      let now-us : us ≡ direct_members ρ Q k = eu ∙ ap (λ (l : List ℕ). set_at 2 l (members_start + 2 * k)) e ∙ read_members_of st lim k small in
      let now-ps = permissions_told k ps small ep in
      let asks = asked index ps (rw now-ps (direct_permissions_lt ρ Q k)) ix (rw now-ps held) in
      rw (now-Q, now-x, now-us, now-ps) at (walk ρ asks (rw now-us (direct_members_lt ρ Q k))) ∙ covered-strikable ρ Q k o (stands_below ρ Q o k stands) stands
