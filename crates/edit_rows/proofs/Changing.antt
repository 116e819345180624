-- What differs between the building with a role and that without, and the two changes.
-- Assumes nothing.
use mathlib.Core.Path.{◌≡◌, refl, sym, ◌∙◌, ap}
use mathlib.Core.Bool.{false, So}
use mathlib.Core.Logic.{◌≢◌, ◌⊎◌, ⊎_elim}
use mathlib.Core.List.{List}
use Prim.Native.Nat.{ℕ, ◌+◌, ◌*◌, ◌^◌, ◌≤◌, ◌<◌}
use native.Mathlib.Omega.{arith}
use lib.Dec.{eqb, ltb}
use lib.ListN.{get_or, take, drop}
use Rattle.sets.specs.Truth.{when◌then◌else◌}
use Rattle.sets.specs.Sets.{has, ◌∪◌, ◌∖◌, single}
use Rattle.sets.proofs.Truth.{by_test, eqb_iff, ltb_iff, when-true, when-false}
use Rattle.sets.proofs.Order.{collect_iff, ∪-iff, single_iff, single_lt, has_with, with_without, ∪-lt, ∖-lt}
use Rattle.model.specs.Lists.{set_at}
use Rattle.model.specs.Hierarchy.{Roles, candidate_count, permission_set, immediately_senior, immediate_juniors, direct_permissions, direct_members, building, RoleRows}
use Rattle.model.specs.Record.{sets_start, permissions_start, members_start, juniors_start, built, Limits}
use Rattle.model.specs.State.{State, roles_of, standing_now}
use Rattle.model.proofs.Reading.{Ordered, immediate_iff, junior_iff}
use Rattle.model.proofs.Building.{stands_below, senior_stands}
use Rattle.model.proofs.Changes.{restored_ordered, juniors_same, permissions_same, members_same, members_kept}
use Rattle.model.proofs.Record.{read_count, read_standing}
use Rattle.model.proofs.Steps.{limits_ordered, limits_now}
use Rattle.stores.specs.Stores.{put_at}
use Rattle.tables.specs.Stores.{words_of}
use Rattle.tables.specs.Tables.{HoldsSets}
use Rattle.tables.proofs.Stores.{stored_after}
use Rattle.hierarchy.specs.Tables.{Numbered, immediate_seniors}
use Rattle.hierarchy.proofs.Reading.{read_sets, read_permissions_of, read_members_of, read_juniors_of}
use Rattle.indexes.specs.declared.index.Index.{Index}
use Rattle.indexes.specs.Index.{LowerRoles, Indexed}
use Rattle.indexes.proofs.Sources.{numbered, narrow}
use Rattle.rows.specs.Linked.{Linked, Ready}
use Rattle.rows.specs.Partway.{Partway, Differ, Target}
use Rattle.rows.proofs.Linking.{linked_same, seniors_held}
use Rattle.rows.proofs.Partway.{started, finished}
use Rattle.edit_rows.specs.Neighbours.{Neighbours}

-- ---- outside of the neighbours nothing differs; R is the standing set with k in it

module _ (ρ : Roles) (R k : ℕ) (o : Ordered ρ R) (stands : So (has R k)) where
  with_k : (s x : ℕ) → k < 128 → x ≡ (when ltb k 128 then s ∪ single k else s) → (i : ℕ) → So (has s i) ⊎ (i ≡ k) → So (has x i)
  with_k s x small e i h =
      rw (e ∙ when-true (ltb k 128) (s ∪ single k) s ((ltb_iff k 128).1 small))
      (⊎_elim (λ t. (∪-iff s (single k) i).1 (◌⊎◌.inl t)) (λ d. (∪-iff s (single k) i).1 (◌⊎◌.inr ((single_iff k i).1 (sym d)))) h)

  senior_in : (i : ℕ) → So (immediately_senior ρ R i k) → So (has (immediate_seniors ρ R k) i)
  senior_in i h =
      (collect_iff (candidate_count ρ) (λ i. has (immediate_juniors ρ R i) k) i).1
      (stands_below ρ R o i (senior_stands ρ R o i k ((immediate_iff ρ R i k).0 h).0).0, (junior_iff ρ R i k).1 (stands_below ρ R o k stands, h))

  junior_in : (j : ℕ) → So (immediately_senior ρ R k j) → So (has (immediate_juniors ρ R k) j)
  junior_in j h = (junior_iff ρ R k j).1 (stands_below ρ R o j (senior_stands ρ R o k j ((immediate_iff ρ R k j).0 h).0).1, h)

  module _ (s x t y : ℕ) (small : k < 128) (es : s ≡ immediate_seniors ρ R k) (ex : x ≡ (when ltb k 128 then s ∪ single k else s)) (et : t ≡ immediate_juniors ρ R k)
      (ey : y ≡ (when ltb k 128 then t ∪ single k else t)) where
    upper_out : (i : ℕ) → (So (has x i) → ⊥) → (i ≢ k) × (So (immediately_senior ρ R i k) → ⊥)
    upper_out i d = (λ e. d (with_k s x small ex i (◌⊎◌.inr e)), λ h. d (with_k s x small ex i (◌⊎◌.inl (rw es (senior_in i h)))))

    lower_out : (j : ℕ) → (So (has y j) → ⊥) → (j ≢ k) × (So (immediately_senior ρ R k j) → ⊥)
    lower_out j d = (λ e. d (with_k t y small ey j (◌⊎◌.inr e)), λ h. d (with_k t y small ey j (◌⊎◌.inl (rw et (junior_in j h)))))

    pub differ_out : Differ ρ R (R ∖ single k) x y
    differ_out =
        record {
          juniors = λ i d. let a = upper_out i d in sym (juniors_same ρ R o k i a.0 a.1);
          permissions = λ i d. let a = upper_out i d in sym (permissions_same ρ R o k i a.0 a.1);
          members = λ j d. let a = lower_out j d in sym (members_same ρ R o k j a.0 a.1);
        }

    pub differ_back : Differ ρ (R ∖ single k) R x y
    differ_back =
        let a = differ_out in
        record { juniors = λ i d. sym (a.juniors i d); permissions = λ i d. sym (a.permissions i d); members = λ j d. sym (a.members j d) }

  -- the same where the direct members of its juniors are left alone because it has none of its own
  pub differ_struck : (s x t z y : ℕ) → k < 128 → s ≡ immediate_seniors ρ R k → x ≡ (when ltb k 128 then s ∪ single k else s) → t ≡ immediate_juniors ρ R k
      → z ≡ (when eqb (direct_members ρ R k) 0 then 0 else t) → y ≡ (when ltb k 128 then z ∪ single k else z) → Differ ρ R (R ∖ single k) x y
  differ_struck s x t z y small es ex et ez ey =
      let full = differ_out s x t (t ∪ single k) small es ex et (sym (when-true (ltb k 128) (t ∪ single k) t ((ltb_iff k 128).1 small))) in
      record {
        juniors = full.juniors;
        permissions = full.permissions;
        members = λ j d.
            by_test (eqb (direct_members ρ R k) 0)
            (λ h. sym (members_kept ρ R o k ((eqb_iff (direct_members ρ R k) 0).0 h) j (λ e. d (with_k z y small ey j (◌⊎◌.inr e)))))
            (λ h.
            let same : z ≡ t = ez ∙ when-false (eqb (direct_members ρ R k) 0) 0 t h in
            full.members j
            (λ b. d (with_k z y small ey j (⊎_elim (λ q. ◌⊎◌.inl (rw same q)) (λ q. ◌⊎◌.inr (sym ((single_iff k j).0 q))) ((∪-iff t (single k) j).0 b)))));
      }

-- ---- what a record tells

module _ (st : State) (lim : Limits st) (ws : List ℕ) (e : ws ≡ built st) where
  pub count : candidate_count (roles_of st) ≡ get_or ws 2 0
  count = sym (ap (λ (l : List ℕ). get_or l 2 0) e ∙ read_count st lim)

  -- so that word 2 is small enough to count by
  pub few : get_or ws 2 0 ≤ 128
  few = rw count at lim.candidates_most

  pub standing_read : set_at 2 ws 4 ≡ st.standing
  standing_read = ap (λ (l : List ℕ). set_at 2 l 4) e ∙ read_standing st lim

  pub sets_read : HoldsSets 4 (candidate_count (roles_of st)) (permission_set (roles_of st)) (take 512 (drop sets_start ws))
  sets_read = rw e (read_sets st lim (narrow st lim))

  module _ (k : ℕ) (small : k < 128) where
    pub permissions_read : set_at 4 ws (permissions_start + 4 * k) ≡ direct_permissions (roles_of st) st.standing k
    permissions_read = ap (λ (l : List ℕ). set_at 4 l (permissions_start + 4 * k)) e ∙ read_permissions_of st lim k small

    pub members_read : set_at 2 ws (members_start + 2 * k) ≡ direct_members (roles_of st) st.standing k
    members_read = ap (λ (l : List ℕ). set_at 2 l (members_start + 2 * k)) e ∙ read_members_of st lim k small

    pub juniors_read : set_at 2 ws (juniors_start + 2 * k) ≡ immediate_juniors (roles_of st) st.standing k
    juniors_read = ap (λ (l : List ℕ). set_at 2 l (juniors_start + 2 * k)) e ∙ read_juniors_of st lim k small

  pub seniors_read : (seniors : List ℕ) → Linked ws seniors → (k x : ℕ) → k < 128 → x ≡ set_at 2 seniors (2 * k) → x < 2 ^ 128
      → x ≡ immediate_seniors (roles_of st) st.standing k
  seniors_read seniors l k x small ex b =
      seniors_held (roles_of st) st.standing lim.candidates_most lim.standing_below ws juniors_read seniors k x l small ex b

-- the standing set with k put into it
pub put_standing_lem : (st : State) → Limits st → (ws : List ℕ) → ws ≡ built st → (k : ℕ) → k < 128 → (r R : ℕ) → r ≡ set_at 2 ws 4
    → R ≡ (when ltb k 128 then r ∪ single k else r) → R ≡ st.standing ∪ single k
put_standing_lem st lim ws e k small r R er e_r =
    e_r ∙ when-true (ltb k 128) (r ∪ single k) r ((ltb_iff k 128).1 small) ∙ ap (λ (z : ℕ). z ∪ single k) (er ∙ standing_read st lim ws e)

-- ---- the standing set, the upper rows, the lower rows

-- what the change of a record to a standing set promises
abbrev Changed : (ws : List ℕ) (index : Index) (seniors after seniors' : List ℕ) (R x y : ℕ) → Type 0
Changed ws index seniors after seniors' R x y =
    (st : State) → Ready st ws index seniors → R < 2 ^ candidate_count (roles_of st) → Differ (roles_of st) st.standing R x y
    → Ready (standing_now st R) after index seniors'

pub changed : (R x y : ℕ) (ws : List ℕ) (index : Index) (seniors first second seniors' third : List ℕ) → first ≡ put_at ws 4 (words_of 2 R)
    → ((old : RoleRows) (st : State) (t : ℕ) → Target st R index → Partway old st x x t first → Linked first seniors → Partway old st 0 0 t second × Linked second seniors')
    → ((old : RoleRows) (st : State) (p : ℕ) → Target st R index → Linked second seniors' → Partway old st 0 p y second → Partway old st 0 p 0 third × Linked third seniors')
    → Changed ws index seniors third seniors' R x y
unfolding standing_now roles_of
changed R x y ws index seniors first second seniors' third ef uppers lowers st r b d =
    let old = building (roles_of st) st.standing in
    let new = standing_now st R in
    let to : Target new R index = record { limits = limits_now st R r.limits b; standing = refl; indexed = r.indexed } in
    let marked : Linked (put_at ws 4 (words_of 2 R)) seniors =
    linked_same ws (put_at ws 4 (words_of 2 R)) seniors (λ i li. stored_after ws 4 2 R (juniors_start + 2 * i) 2 (omega arith)) r.linked in
    let mid = uppers old new y to (rw ef (started st R x y ws r.afresh d)) (rw ef marked) in
    let end = lowers old new 0 to mid.1 mid.0 in
    record { limits = to.limits; afresh = finished old new third end.0; indexed = r.indexed; linked = end.1 }

-- ---- the two changes

module _ (st : State) (ws : List ℕ) (index : Index) (seniors after seniors' : List ℕ) (ready : Ready st ws index seniors) (k : ℕ) (small : k < 128) where
  pub taken_at_lem : (r R s x us t z y : ℕ) → r ≡ set_at 2 ws 4 → R ≡ r ∖ single k → x ≡ (when ltb k 128 then s ∪ single k else s)
      → us ≡ set_at 2 ws (members_start + 2 * k) → z ≡ (when eqb us 0 then 0 else t) → y ≡ (when ltb k 128 then z ∪ single k else z)
      → Changed ws index seniors after seniors' R x y → So (has st.standing k) → Neighbours (roles_of st) st.standing k s t
      → Ready (standing_now st (st.standing ∖ single k)) after index seniors'
  taken_at_lem r R s x us t z y er e_r ex eu ez ey change stands near =
      let ρ = roles_of st in
      let Q = st.standing in
      let lim = ready.limits in
      let e = ready.afresh in
      let new : R ≡ Q ∖ single k = e_r ∙ ap (λ (z : ℕ). z ∖ single k) (er ∙ standing_read st lim ws e) in
      let d = differ_struck ρ Q k (limits_ordered st lim) stands s x t z y small near.seniors ex near.juniors (rw (eu ∙ members_read st lim ws e k small) at ez) ey in
      rw new at (change st ready (rw new (∖-lt (candidate_count ρ) Q (single k) lim.standing_below)) (rw new d))

  pub put_at_lem : (r R s x t y : ℕ) → r ≡ set_at 2 ws 4 → R ≡ (when ltb k 128 then r ∪ single k else r)
      → x ≡ (when ltb k 128 then s ∪ single k else s) → y ≡ (when ltb k 128 then t ∪ single k else t)
      → Changed ws index seniors after seniors' R x y → k < candidate_count (roles_of st) → has st.standing k ≡ false
      → Neighbours (roles_of st) (st.standing ∪ single k) k s t → Ready (standing_now st (st.standing ∪ single k)) after index seniors'
  put_at_lem r R s x t y er e_r ex ey change lk absent near =
      let ρ = roles_of st in
      let Q = st.standing in
      let lim = ready.limits in
      let new = put_standing_lem st lim ws ready.afresh k small r R er e_r in
      let o : Ordered ρ R = rw new (restored_ordered ρ Q k lk (limits_ordered st lim)) in
      let less : R ∖ single k ≡ Q = ap (λ (z : ℕ). z ∖ single k) new ∙ with_without Q k absent in
      let d = differ_back ρ R k o (rw new (has_with Q k)) s x t y small (rw new near.seniors) ex (rw new near.juniors) ey in
      rw new at (change st ready o.below (rw less at d))

-- the neighbours of a role that is put back, found from the index
module _ (st : State) (lim : Limits st) (ws : List ℕ) (index : Index) (e : ws ≡ built st) (ix : Indexed (roles_of st) index) (k : ℕ) (small : k < 128)
    (r R : ℕ) (er : r ≡ set_at 2 ws 4) (e_r : R ≡ (when ltb k 128 then r ∪ single k else r)) (lk : k < candidate_count (roles_of st)) where
  put_below : R < 2 ^ candidate_count (roles_of st)
  put_below =
      let c = candidate_count (roles_of st) in
      rw (put_standing_lem st lim ws e k small r R er e_r) (∪-lt c st.standing (single k) lim.standing_below (single_lt c k lk))

  pub put_found : (s t : ℕ) → ((ρ : Roles) → Numbered ρ → LowerRoles ρ index → R < 2 ^ candidate_count ρ → Neighbours ρ R k s t)
      → Neighbours (roles_of st) (st.standing ∪ single k) k s t
  put_found s t near = rw (put_standing_lem st lim ws e k small r R er e_r) at (near (roles_of st) (numbered st lim) ix.lower_roles put_below)
