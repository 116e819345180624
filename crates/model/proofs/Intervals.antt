-- Candidates and crew rows: the first holder of a permission lies within all its holders, and within the row of each user that is granted it; a
-- candidate is the intersection of the rows that contain it.
-- Assumes nothing.
use mathlib.Core.Path.{◌≡◌, sym, ◌∙◌}
use mathlib.Core.Bool.{So}
use mathlib.Core.Logic.{◌↔◌, ◌≢◌}
use Prim.Native.Nat.{ℕ, ◌≤◌, ◌<◌}
use native.Mathlib.Omega.{arith}
use lib.ListN.{length, get_or}
use Rattle.sets.specs.Sets.{has, ◌∩◌, subset}
use Rattle.sets.proofs.Truth.{So-not, equal_or}
use Rattle.sets.proofs.Members.{has-zero, item_below, same_set}
use Rattle.sets.proofs.Order.{∩-iff, ∩-subset_left, ∩-subset_right, subset_iff, proper_iff}
use Rattle.model.specs.Candidates.{candidates}
use Rattle.model.specs.Hierarchy.{candidate_count, permission_set, authorised_users}
use Rattle.model.specs.Coverage.{grant}
use Rattle.model.specs.Indexes.{roles_of_permission, sure_roles, up_from, first_holder}
use Rattle.model.specs.State.{State, roles_of}
use Rattle.model.proofs.Growing.{listed_at}
use Rattle.model.proofs.Candidates.{candidates_table, proper_lower, row_candidate, candidate_iff, candidate_within}
use Rattle.model.proofs.Reading.{user_iff}
use Rattle.model.specs.Record.{Limits}
use Rattle.model.proofs.Shortcuts.{roles_of_permission_iff, sure_roles_iff, up_from_iff, first_holder_iff}

-- of a candidate and one that lies within it, the number of the latter is lower, or they are the same set
lower-or_same : (st : State) (j k : ℕ) → j < candidate_count (roles_of st) → k < candidate_count (roles_of st)
    → So (subset (permission_set (roles_of st) j) (permission_set (roles_of st) k)) → k ≤ j → permission_set (roles_of st) j ≡ permission_set (roles_of st) k
unfolding candidate_count permission_set roles_of
lower-or_same st j k lj lk h l =
    let a = permission_set (roles_of st) j in
    let b = permission_set (roles_of st) k in
    equal_or a b (λ e. e) (λ d. let x = proper_lower st.rows j k lj lk ((proper_iff a b).1 (h, d)) in absurd (let z : ⊥ = omega arith in z))

-- the intersection of two candidates that share a permission is a candidate
meet_role : (st : State) (j k p : ℕ) → j < candidate_count (roles_of st) → k < candidate_count (roles_of st)
    → So (has (permission_set (roles_of st) j) p) → So (has (permission_set (roles_of st) k) p)
    → (i : ℕ) × (i < candidate_count (roles_of st)) × (permission_set (roles_of st) i ≡ permission_set (roles_of st) j ∩ permission_set (roles_of st) k)
unfolding candidate_count permission_set roles_of
meet_role st j k p lj lk hj hk =
    let xs = candidates st.rows in
    let a = get_or xs j 0 in
    let b = get_or xs k 0 in
    let some : a ∩ b ≢ 0 = λ (e : a ∩ b ≡ 0). So-not (has-zero p) (rw e at ((∩-iff a b p).1 (hj, hk))) in
    let w = (candidates_table st.rows).closed a b (listed_at xs j lj) (listed_at xs k lk) some in
    (w.place, w.below, w.there)

-- the roles that hold a permission are those whose set contains that of the first holder
pub first-up : (st : State) (p g : ℕ) → So (first_holder (roles_of st) p g) → roles_of_permission (roles_of st) p ≡ up_from (roles_of st) g
first-up st p g first =
    let ρ = roles_of st in
    let S = permission_set ρ in
    let f = (first_holder_iff ρ p g).0 first in
    let h = (roles_of_permission_iff ρ p g).0 f.0 in
    same_set (roles_of_permission ρ p) (up_from ρ g)
    (λ k t.
    let a = (roles_of_permission_iff ρ p k).0 t in
    let w = meet_role st g k p h.0 a.0 h.1 a.1 in
    let holds : So (has (roles_of_permission ρ p) w.0) = (roles_of_permission_iff ρ p w.0).1 (w.1, rw w.2 ((∩-iff (S g) (S k) p).1 (h.1, a.1))) in
    let same : S g ∩ S k ≡ S g = sym w.2 ∙ lower-or_same st w.0 g w.1 h.0 (rw w.2 (∩-subset_left (S g) (S k))) (f.1 w.0 holds) in
    (up_from_iff ρ g k).1 (a.0, rw same at (∩-subset_right (S g) (S k))))
    (λ k t. let a = (up_from_iff ρ g k).0 t in (roles_of_permission_iff ρ p k).1 (a.0, (subset_iff (S g) (S k)).0 a.1 p h.1))

-- a user is granted a permission exactly where its first holder lies within the user's granted row
pub first_granted : (st : State) → Limits st → (u p g : ℕ) → u < (roles_of st).users → So (first_holder (roles_of st) p g)
    → So (grant (roles_of st) u p) ↔ So (has (sure_roles (roles_of st) u) g)
unfolding candidate_count permission_set roles_of grant
first_granted st lim u p g lu first =
    let ρ = roles_of st in
    let row = get_or st.rows u 0 in
    let h = (roles_of_permission_iff ρ p g).0 ((first_holder_iff ρ p g).0 first).0 in (
      λ t.
          let few : u < length st.rows = rw lim.rows_count lu in
          let some : row ≢ 0 = λ (z : row ≡ 0). So-not (has-zero p) (rw z at t) in
          let w = row_candidate st.rows u few some in
          let e : permission_set ρ w.place ≡ row = w.there in
          let x = rw (first-up st p g first) at ((roles_of_permission_iff ρ p w.place).1 (w.below, rw e t)) in
          (sure_roles_iff ρ u g).1 (h.0, rw e at ((up_from_iff ρ g w.place).0 x).1),
      λ t. (subset_iff (permission_set ρ g) row).0 ((sure_roles_iff ρ u g).0 t).1 p h.1,
    )

-- a candidate is the intersection of the rows that contain it: another one that every such user holds lies within it. One user for each row
-- is enough
pub shared-lower : (st : State) → Limits st → (k : ℕ) → k < candidate_count (roles_of st) → (us : ℕ)
    → ((u : ℕ) → So (has (authorised_users (roles_of st) k) u) → (v : ℕ) × So (has us v) × (get_or st.rows v 0 ≡ get_or st.rows u 0) × (v < st.users))
    → (j : ℕ) → j < candidate_count (roles_of st) → ((v : ℕ) → v < st.users → So (has us v) → So (subset (permission_set (roles_of st) k) (get_or st.rows v 0)) → So (subset (permission_set (roles_of st) j) (get_or st.rows v 0)))
    → So (subset (permission_set (roles_of st) j) (permission_set (roles_of st) k))
unfolding candidate_count permission_set roles_of
shared-lower st lim k lk us speaks j lj all =
    let ρ = roles_of st in
    let xs = candidates st.rows in
    let a = permission_set ρ j in
    let b = permission_set ρ k in
    let meet = ((candidate_iff st.rows b).0 (listed_at xs k lk)).1 in
    (subset_iff a b).1
    (λ p h.
    (meet.exactly p).1
    (λ u t.
    let lu : u < st.users = rw lim.rows_count at (item_below (length st.rows) meet.users u meet.within t) in
    let within : So (subset b (get_or st.rows u 0)) = (subset_iff b (get_or st.rows u 0)).1 (λ q g. (meet.exactly q).0 g u t) in
    let w = speaks u ((user_iff ρ k u).1 (lu, within)) in
    let same : get_or st.rows w.0 0 ≡ get_or st.rows u 0 = w.2 in
    let holds : So (subset a (get_or st.rows w.0 0)) = all w.0 w.3 w.1 (rw same within) in
    rw same at ((subset_iff a (get_or st.rows w.0 0)).0 holds p h)))

-- and there is such a user
pub someone : (st : State) → Limits st → (k : ℕ) → k < candidate_count (roles_of st) → (u : ℕ) × So (has (authorised_users (roles_of st) k) u)
unfolding candidate_count permission_set roles_of
someone st lim k lk =
    let w = candidate_within st.rows (get_or (candidates st.rows) k 0) (listed_at (candidates st.rows) k lk) in
    (w.0, (user_iff (roles_of st) k w.0).1 (rw lim.rows_count at w.1, w.2))
