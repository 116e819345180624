-- The facts that fast code rests on.
-- Assumes nothing.
use mathlib.Core.Path.{◌≡◌, refl, sym, ◌∙◌}
use mathlib.Core.Bool.{Bool, So}
use mathlib.Core.Logic.{◌↔◌, ◌≢◌, ◌⊎◌, ⊎_elim}
use Prim.Native.Nat.{ℕ, zero, suc, ◌+◌, ◌<◌, ◌≤◌, ◌^◌}
use native.Mathlib.Nat.{lt_irrefl}
use native.Mathlib.Omega.{arith}
use lib.ListN.{get_or}
use Rattle.sets.specs.Truth.{◌and◌, any, none}
use Rattle.sets.specs.Sets.{has, ◌∩◌, ◌∪◌, ◌∖◌, single, subset, proper_subset}
use Rattle.sets.proofs.Truth.{by_test, So-not, and_iff, any_iff, none_of, none_is, find, either, equal_or}
use Rattle.sets.proofs.Members.{same_set, has-zero, empty_of, item_below}
use Rattle.sets.proofs.Order.{collect_iff, ∩-iff, ∪-iff, ∖-iff, single_iff, subset_iff, subset_refl, subset_trans, proper_iff, proper_subset_lem, proper_trans}
use Rattle.model.specs.Hierarchy.{Roles, candidate_count, permission_set, authorised_users, senior, immediately_senior, immediate_juniors, direct_permissions, direct_members}
use Rattle.model.specs.Coverage.{covered}
use Rattle.model.specs.Indexes.{lower, maximal, roles_of_user, roles_of_permission, sure_roles, down_from, up_from, first_holder, first_holders}
use Rattle.model.proofs.Reading.{Ordered, user_iff, covers_iff, covered_iff, senior_iff, immediate_iff, junior_iff, permission_iff, member_iff}
use Rattle.model.proofs.Building.{stands_below, senior_trans, senior_lower, senior_stands, senior_permission, senior_user, topmost}
use Rattle.model.proofs.Changes.{between}

-- ---- the indexes, item by item

pub lower_iff : (ρ : Roles) (k j : ℕ) → So (has (lower ρ k) j) ↔ ((j < candidate_count ρ) × So (proper_subset (permission_set ρ j) (permission_set ρ k)))
unfolding lower
lower_iff ρ k j = collect_iff (candidate_count ρ) (λ j. proper_subset (permission_set ρ j) (permission_set ρ k)) j

pub maximal_iff : (ρ : Roles) (s j : ℕ)
    → So (has (maximal ρ s) j)
    ↔ ((j < candidate_count ρ) × So (has s j)
    × ((i : ℕ) → i < candidate_count ρ → So (has s i) → So (proper_subset (permission_set ρ j) (permission_set ρ i)) → ⊥))
unfolding maximal
maximal_iff ρ s j =
    let c = candidate_count ρ in
    let inner : ℕ → ℕ → Bool = λ j i. has s i and proper_subset (permission_set ρ j) (permission_set ρ i) in
    let test : ℕ → Bool = λ j. has s j and none c (inner j) in (
      λ h.
          let a = (collect_iff c test j).0 h in
          let b = (and_iff (has s j) (none c (inner j))).0 a.1 in
          (a.0, b.0, λ i l p q. none_is c (inner j) b.1 i l ((and_iff (has s i) (proper_subset (permission_set ρ j) (permission_set ρ i))).1 (p, q))),
      λ f.
          (collect_iff c test j).1 (
            f.0,
            (and_iff (has s j) (none c (inner j))).1
                (f.1, none_of c (inner j) (λ i l x. let d = (and_iff (has s i) (proper_subset (permission_set ρ j) (permission_set ρ i))).0 x in f.2 i l d.0 d.1)),
          ),
    )

pub roles_of_user_iff : (ρ : Roles) (u k : ℕ) → So (has (roles_of_user ρ u) k) ↔ ((k < candidate_count ρ) × So (has (authorised_users ρ k) u))
unfolding roles_of_user
roles_of_user_iff ρ u k = collect_iff (candidate_count ρ) (λ k. has (authorised_users ρ k) u) k

pub roles_of_permission_iff : (ρ : Roles) (p k : ℕ) → So (has (roles_of_permission ρ p) k) ↔ ((k < candidate_count ρ) × So (has (permission_set ρ k) p))
unfolding roles_of_permission
roles_of_permission_iff ρ p k = collect_iff (candidate_count ρ) (λ k. has (permission_set ρ k) p) k

pub sure_roles_iff : (ρ : Roles) (u k : ℕ) → So (has (sure_roles ρ u) k) ↔ ((k < candidate_count ρ) × So (subset (permission_set ρ k) (get_or ρ.granted u 0)))
unfolding sure_roles
sure_roles_iff ρ u k = collect_iff (candidate_count ρ) (λ k. subset (permission_set ρ k) (get_or ρ.granted u 0)) k

pub down_from_iff : (ρ : Roles) (k j : ℕ) → So (has (down_from ρ k) j) ↔ ((j < candidate_count ρ) × So (subset (permission_set ρ j) (permission_set ρ k)))
unfolding down_from
down_from_iff ρ k j = collect_iff (candidate_count ρ) (λ j. subset (permission_set ρ j) (permission_set ρ k)) j

pub up_from_iff : (ρ : Roles) (k j : ℕ) → So (has (up_from ρ k) j) ↔ ((j < candidate_count ρ) × So (subset (permission_set ρ k) (permission_set ρ j)))
unfolding up_from
up_from_iff ρ k j = collect_iff (candidate_count ρ) (λ j. subset (permission_set ρ k) (permission_set ρ j)) j

pub first_holder_iff : (ρ : Roles) (p g : ℕ)
    → So (first_holder ρ p g) ↔ (So (has (roles_of_permission ρ p) g) × ((j : ℕ) → So (has (roles_of_permission ρ p) j) → g ≤ j))
unfolding first_holder
first_holder_iff ρ p g =
    let held : ℕ → Bool = λ j. has (roles_of_permission ρ p) j in (
      λ h. let a = (and_iff (held g) (none g held)).0 h in (a.0, λ j t. either j g (λ l. absurd (none_is g held a.1 j l t)) (λ l. l)),
      λ f. (and_iff (held g) (none g held)).1 (f.0, none_of g held (λ j l t. let b = f.1 j t in lt_irrefl g (omega arith))),
    )

pub first_holders_iff : (ρ : Roles) (g : ℕ) → So (has (first_holders ρ) g) ↔ ((p : ℕ) × (p < ρ.permissions) × So (first_holder ρ p g))
unfolding first_holders
first_holders_iff ρ g =
    let c = candidate_count ρ in
    let test : ℕ → Bool = λ g. any ρ.permissions (λ p. first_holder ρ p g) in (
      λ h. (any_iff ρ.permissions (λ p. first_holder ρ p g)).0 ((collect_iff c test g).0 h).1,
      λ w.
          (collect_iff c test g).1
          (((roles_of_permission_iff ρ w.0 g).0 ((first_holder_iff ρ w.0 g).0 w.2).0).0, (any_iff ρ.permissions (λ p. first_holder ρ p g)).1 w),
    )

-- what lies within a user's role is a role of the user
pub user_down : (ρ : Roles) (u k j : ℕ) → So (has (roles_of_user ρ u) k) → So (has (down_from ρ k) j) → So (has (roles_of_user ρ u) j)
user_down ρ u k j h t =
    let S = permission_set ρ in
    let a = (user_iff ρ k u).0 ((roles_of_user_iff ρ u k).0 h).1 in
    let b = (down_from_iff ρ k j).0 t in
    (roles_of_user_iff ρ u j).1 (b.0, (user_iff ρ j u).1 (a.0, subset_trans (S j) (S k) (get_or ρ.possible u 0) b.1 a.1))

-- k with those that lie properly within it
pub down_lower : (ρ : Roles) → ((j k : ℕ) → j < candidate_count ρ → k < candidate_count ρ → permission_set ρ j ≡ permission_set ρ k → j ≡ k)
    → (k : ℕ) → k < candidate_count ρ → lower ρ k ∪ single k ≡ down_from ρ k
down_lower ρ distinct k l =
    let S = permission_set ρ in
    same_set (lower ρ k ∪ single k) (down_from ρ k)
    (λ j t.
    ⊎_elim (λ x. let a = (lower_iff ρ k j).0 x in (down_from_iff ρ k j).1 (a.0, proper_subset_lem (S j) (S k) a.1))
    (λ x. let e : k ≡ j = (single_iff k j).0 x in (down_from_iff ρ k j).1 (rw e at l, rw e (subset_refl (S j)))) ((∪-iff (lower ρ k) (single k) j).0 t))
    (λ j t.
    let a = (down_from_iff ρ k j).0 t in
    (∪-iff (lower ρ k) (single k) j).1
    (equal_or (S j) (S k) (λ e. ◌⊎◌.inr ((single_iff k j).1 (sym (distinct j k a.0 l e))))
    (λ d. ◌⊎◌.inl ((lower_iff ρ k j).1 (a.0, (proper_iff (S j) (S k)).1 (a.1, d))))))

-- a grant is covered exactly where a role of s holds both the user and the permission
pub covered_index : (ρ : Roles) (s u p : ℕ) → So (covered ρ s u p) ↔ ((k : ℕ) × So (has (roles_of_user ρ u ∩ roles_of_permission ρ p ∩ s) k))
covered_index ρ s u p = (
  λ h.
      let w = (covered_iff ρ s u p).0 h in
      let d = (covers_iff ρ w.0 u p).0 w.3 in (
        w.0,
        (∩-iff (roles_of_user ρ u ∩ roles_of_permission ρ p) s w.0).1 (
          (∩-iff (roles_of_user ρ u) (roles_of_permission ρ p) w.0).1
              ((roles_of_user_iff ρ u w.0).1 (w.1, d.0), (roles_of_permission_iff ρ p w.0).1 (w.1, d.1)),
          w.2,
        ),
      ),
  λ w.
      let a = (∩-iff (roles_of_user ρ u ∩ roles_of_permission ρ p) s w.0).0 w.1 in
      let b = (∩-iff (roles_of_user ρ u) (roles_of_permission ρ p) w.0).0 a.0 in
      let x = (roles_of_user_iff ρ u w.0).0 b.0 in
      let y = (roles_of_permission_iff ρ p w.0).0 b.1 in
      (covered_iff ρ s u p).1 (w.0, x.0, a.1, (covers_iff ρ w.0 u p).1 (x.1, y.1)),
)

-- ---- juniors

-- where R stands, the juniors of k are the lower ones in R
pub senior-lower_iff : (ρ : Roles) (R k j : ℕ) → Ordered ρ R → So (senior ρ R k j) ↔ (So (has R k) × So (has (lower ρ k ∩ R) j))
senior-lower_iff ρ R k j o = (
  λ h.
      let a = (senior_iff ρ R k j).0 h in
      (a.0, (∩-iff (lower ρ k) R j).1 ((lower_iff ρ k j).1 (item_below (candidate_count ρ) R j o.below a.1, a.2), a.1)),
  λ f.
      let a = (∩-iff (lower ρ k) R j).0 f.1 in
      (senior_iff ρ R k j).1 (f.0, a.1, ((lower_iff ρ k j).0 a.0).1),
)

-- the immediate juniors of a standing role are the maximal ones of its juniors
pub juniors_maximal : (ρ : Roles) (R k : ℕ) → Ordered ρ R → So (has R k) → immediate_juniors ρ R k ≡ maximal ρ (lower ρ k ∩ R)
juniors_maximal ρ R k o h =
    same_set (immediate_juniors ρ R k) (maximal ρ (lower ρ k ∩ R))
    (λ j t.
    let a = (junior_iff ρ R k j).0 t in
    let b = (immediate_iff ρ R k j).0 a.1 in
    (maximal_iff ρ (lower ρ k ∩ R) j).1 (
      a.0,
      ((senior-lower_iff ρ R k j o).0 b.0).1,
      λ i l s q.
          let si = (senior-lower_iff ρ R k i o).1 (h, s) in
          b.1 i l si ((senior_iff ρ R i j).1 (((senior_iff ρ R k i).0 si).1, ((senior_iff ρ R k j).0 b.0).1, q)),
    ))
    (λ j t.
    let a = (maximal_iff ρ (lower ρ k ∩ R) j).0 t in
    let sj = (senior-lower_iff ρ R k j o).1 (h, a.1) in
    (junior_iff ρ R k j).1
    (a.0, (immediate_iff ρ R k j).1 (sj, λ i l p q. a.2 i l ((senior-lower_iff ρ R k i o).0 p).1 ((senior_iff ρ R i j).0 q).2)))

-- "among any roles the highest is a maximal one": it, and the maximal ones of what is left without it and all below it, are the maximal ones
module _ (ρ : Roles) (low : (j k : ℕ) → j < candidate_count ρ → k < candidate_count ρ → So (proper_subset (permission_set ρ j) (permission_set ρ k)) → j < k) where
  pub maximal_highest : (s k : ℕ) → s < 2 ^ candidate_count ρ → So (has s k) → ((j : ℕ) → So (has s j) → j ≤ k)
      → maximal ρ s ≡ single k ∪ maximal ρ ((s ∖ lower ρ k) ∖ single k)
  maximal_highest s k b h top =
      let c = candidate_count ρ in
      let lk = item_below c s k b h in
      let rest = (s ∖ lower ρ k) ∖ single k in
      let rest_iff : (j : ℕ) → So (has rest j) ↔ (So (has s j) × (So (has (lower ρ k) j) → ⊥) × (j ≢ k)) =
      λ j. (
        λ t.
            let x = (∖-iff (s ∖ lower ρ k) (single k) j).0 t in
            let y = (∖-iff s (lower ρ k) j).0 x.0 in
            (y.0, y.1, λ e. x.1 ((single_iff k j).1 (sym e))),
        λ f. (∖-iff (s ∖ lower ρ k) (single k) j).1 ((∖-iff s (lower ρ k) j).1 (f.0, f.1), λ z. f.2 (sym ((single_iff k j).0 z))),
      ) in
      same_set (maximal ρ s) (single k ∪ maximal ρ rest)
      (λ j t.
      let a = (maximal_iff ρ s j).0 t in
      (∪-iff (single k) (maximal ρ rest) j).1
      (equal_or j k (λ e. ◌⊎◌.inl ((single_iff k j).1 (sym e)))
      (λ d.
      ◌⊎◌.inr
      ((maximal_iff ρ rest j).1
      (a.0, (rest_iff j).1 (a.1, (λ x. a.2 k lk h ((lower_iff ρ k j).0 x).1), d), λ i l p q. a.2 i l ((rest_iff i).0 p).0 q)))))
      (λ j t.
      ⊎_elim
      (λ x.
      let e : k ≡ j = (single_iff k j).0 x in
      rw e at
      ((maximal_iff ρ s k).1
      (lk, h, λ i l p q. lt_irrefl k (let u = low k i lk l q in let v = top i p in omega arith))))
      (λ x.
      let a = (maximal_iff ρ rest j).0 x in
      let r = (rest_iff j).0 a.1 in
      (maximal_iff ρ s j).1 (
        a.0,
        r.0,
        λ i l p q.
            by_test (has rest i) (λ y. a.2 i l y q)
            (λ y.
            equal_or i k (λ (e : i ≡ k). r.1 ((lower_iff ρ k j).1 (a.0, rw e at q)))
            (λ d.
            by_test (has (lower ρ k) i)
            (λ z.
            r.1 ((lower_iff ρ k j).1 (a.0, proper_trans (permission_set ρ j) (permission_set ρ i) (permission_set ρ k) q ((lower_iff ρ k i).0 z).1)))
            (λ z. So-not y ((rest_iff i).1 (p, So-not z, d))))),
      ))
      ((∪-iff (single k) (maximal ρ rest) j).0 t))

-- ---- unions over immediate neighbours

module _ (ρ : Roles) (R : ℕ) (o : Ordered ρ R) where
  -- "The union of the sets of all juniors is that of the immediate ones"
  immediate_below : (f k j : ℕ) → k < f + j → So (senior ρ R k j) → (i : ℕ) × So (immediately_senior ρ R k i) × ((i ≡ j) ⊎ So (senior ρ R i j))
  immediate_below zero k j l h = absurd (lt_irrefl k (let x = senior_lower ρ R o k j h in omega arith))
  immediate_below (suc f) k j l h =
      by_test (immediately_senior ρ R k j) (λ e. (j, e, ◌⊎◌.inl refl))
      (λ e.
      let w = between ρ R o k j h (So-not e) in
      let r = immediate_below f k w.0 (let x = senior_lower ρ R o w.0 j w.2 in omega arith) w.1 in
      (r.0, r.1, ◌⊎◌.inr (⊎_elim (λ (d : r.0 ≡ w.0). rw d w.2) (λ s. senior_trans ρ R o r.0 w.0 j s w.2) r.2)))

  pub junior_permission : (k j p : ℕ) → So (senior ρ R k j) → So (has (permission_set ρ j) p)
      → (i : ℕ) × So (immediately_senior ρ R k i) × So (has (permission_set ρ i) p)
  junior_permission k j p h t =
      let w = immediate_below (suc k) k j (omega arith) h in
      (w.0, w.1, ⊎_elim (λ (e : w.0 ≡ j). rw e t) (λ s. senior_permission ρ R o w.0 j p s t) w.2)

  immediate_above : (f k j : ℕ) → k < f + j → So (senior ρ R k j) → (i : ℕ) × So (immediately_senior ρ R i j) × ((k ≡ i) ⊎ So (senior ρ R k i))
  immediate_above zero k j l h = absurd (lt_irrefl k (let x = senior_lower ρ R o k j h in omega arith))
  immediate_above (suc f) k j l h =
      by_test (immediately_senior ρ R k j) (λ e. (k, e, ◌⊎◌.inl refl))
      (λ e.
      let w = between ρ R o k j h (So-not e) in
      let r = immediate_above f w.0 j (let x = senior_lower ρ R o k w.0 w.1 in omega arith) w.2 in
      (r.0, r.1, ◌⊎◌.inr (⊎_elim (λ (d : w.0 ≡ r.0). rw d at w.1) (λ s. senior_trans ρ R o k w.0 r.0 w.1 s) r.2)))

  -- "the union of A over all seniors is that over the immediate ones"
  pub senior_member : (k j u : ℕ) → So (senior ρ R k j) → So (has (authorised_users ρ k) u)
      → (i : ℕ) × So (immediately_senior ρ R i j) × So (has (authorised_users ρ i) u)
  senior_member k j u h t =
      let w = immediate_above (suc k) k j (omega arith) h in
      (w.0, w.1, ⊎_elim (λ (e : k ≡ w.0). rw e at t) (λ s. senior_user ρ R o k w.0 u s t) w.2)

  -- so direct permissions and members are told by the immediate neighbours alone
  pub permission_immediate : (k p : ℕ) → p < ρ.permissions → So (has R k)
      → So (has (direct_permissions ρ R k) p)
      ↔ (So (has (permission_set ρ k) p) × ((j : ℕ) → So (has (immediate_juniors ρ R k) j) → So (has (permission_set ρ j) p) → ⊥))
  permission_immediate k p lp h = (
    λ t.
        let a = (permission_iff ρ R k p).0 t in
        (a.2, λ j x q. let b = (junior_iff ρ R k j).0 x in a.3 j b.0 ((immediate_iff ρ R k j).0 b.1).0 q),
    λ f.
        (permission_iff ρ R k p).1 (
          lp,
          h,
          f.0,
          λ j l s q.
              let w = junior_permission k j p s q in
              f.1 w.0 ((junior_iff ρ R k w.0).1 (stands_below ρ R o w.0 (senior_stands ρ R o k w.0 ((immediate_iff ρ R k w.0).0 w.1).0).1, w.1)) w.2,
        ),
  )

  pub member_immediate : (k u : ℕ) → So (has R k)
      → So (has (direct_members ρ R k) u)
      ↔ (So (has (authorised_users ρ k) u) × ((i : ℕ) → i < candidate_count ρ → So (has (immediate_juniors ρ R i) k) → So (has (authorised_users ρ i) u) → ⊥))
  member_immediate k u h = (
    λ t.
        let a = (member_iff ρ R k u).0 t in
        (a.2, λ i l x q. a.3 i l ((immediate_iff ρ R i k).0 ((junior_iff ρ R i k).0 x).1).0 q),
    λ f.
        (member_iff ρ R k u).1 (
          ((user_iff ρ k u).0 f.0).0,
          h,
          f.0,
          λ i l s q.
              let w = senior_member i k u s q in
              let st = senior_stands ρ R o w.0 k ((immediate_iff ρ R w.0 k).0 w.1).0 in
              f.1 w.0 (stands_below ρ R o w.0 st.0) ((junior_iff ρ R w.0 k).1 (stands_below ρ R o k st.1, w.1)) w.2,
        ),
  )

  -- whoever is covered is so by a role of which the user is a direct member
  pub covered_direct : (u p : ℕ) → So (covered ρ R u p) ↔ ((k : ℕ) × So (has (direct_members ρ R k) u) × So (has (permission_set ρ k) p))
  covered_direct u p = (
    λ h.
        let w = (covered_iff ρ R u p).0 h in
        let d = (covers_iff ρ w.0 u p).0 w.3 in
        let i = topmost ρ R o w.0 u w.2 d.0 in
        (i.0, i.1, ⊎_elim (λ (e : i.0 ≡ w.0). rw e d.1) (λ s. senior_permission ρ R o i.0 w.0 p s d.1) i.2),
    λ w.
        let m = (member_iff ρ R w.0 u).0 w.1 in
        (covered_iff ρ R u p).1 (w.0, stands_below ρ R o w.0 m.1, m.1, (covers_iff ρ w.0 u p).1 (m.2, w.2)),
  )

-- "A user counts by the role that equals their row": the roles that hold a user are that role and all lower ones
pub user_own : (ρ : Roles) (u e : ℕ) → ((j k : ℕ) → j < candidate_count ρ → k < candidate_count ρ → permission_set ρ j ≡ permission_set ρ k → j ≡ k)
    → u < ρ.users → e < candidate_count ρ → permission_set ρ e ≡ get_or ρ.possible u 0 → roles_of_user ρ u ≡ lower ρ e ∪ single e
user_own ρ u e distinct lu le own =
    same_set (roles_of_user ρ u) (down_from ρ e)
    (λ k t. let a = (roles_of_user_iff ρ u k).0 t in (down_from_iff ρ e k).1 (a.0, rw own ((user_iff ρ k u).0 a.1).1))
    (λ k t. let a = (down_from_iff ρ e k).0 t in (roles_of_user_iff ρ u k).1 (a.0, (user_iff ρ k u).1 (lu, rw own at a.1)))
    ∙ sym (down_lower ρ distinct e le)

-- a user with an empty row is held by no role, since no candidate is empty
pub user_none : (ρ : Roles) (u : ℕ) → ((k : ℕ) → k < candidate_count ρ → permission_set ρ k ≢ 0) → get_or ρ.possible u 0 ≡ 0 → roles_of_user ρ u ≡ 0
user_none ρ u some e =
    empty_of (roles_of_user ρ u)
    (λ k t.
    let a = (roles_of_user_iff ρ u k).0 t in
    let b : So (subset (permission_set ρ k) 0) = rw e at ((user_iff ρ k u).0 a.1).1 in
    some k a.0 (empty_of (permission_set ρ k) (λ i x. So-not (has-zero i) ((subset_iff (permission_set ρ k) 0).0 b i x))))

-- every role of a set lies within a maximal one of it
pub maximal_above : (ρ : Roles) (s : ℕ) → s < 2 ^ candidate_count ρ
    → ((j k : ℕ) → j < candidate_count ρ → k < candidate_count ρ → So (proper_subset (permission_set ρ j) (permission_set ρ k)) → j < k)
    → (k : ℕ) → So (has s k) → (j : ℕ) × So (has (maximal ρ s) j) × So (subset (permission_set ρ k) (permission_set ρ j))
maximal_above ρ s b low k h = climb ρ s b low (candidate_count ρ) k (omega arith) h
  where
    climb : (ρ : Roles) (s : ℕ) → s < 2 ^ candidate_count ρ
        → ((j k : ℕ) → j < candidate_count ρ → k < candidate_count ρ → So (proper_subset (permission_set ρ j) (permission_set ρ k)) → j < k)
        → (f k : ℕ) → candidate_count ρ ≤ f + k → So (has s k) → (j : ℕ) × So (has (maximal ρ s) j) × So (subset (permission_set ρ k) (permission_set ρ j))
    climb ρ s b low zero k l h = absurd (lt_irrefl k (let x = item_below (candidate_count ρ) s k b h in omega arith))
    climb ρ s b low (suc f) k l h =
        let lk = item_below (candidate_count ρ) s k b h in
        ⊎_elim
        (λ w.
        let a = (and_iff (has s w.0) (proper_subset (permission_set ρ k) (permission_set ρ w.0))).0 w.2 in
        let r = climb ρ s b low f w.0 (let x = low k w.0 lk w.1 a.1 in omega arith) a.0 in
        (r.0, r.1, subset_trans (permission_set ρ k) (permission_set ρ w.0) (permission_set ρ r.0) (proper_subset_lem (permission_set ρ k) (permission_set ρ w.0) a.1) r.2))
        (λ none.
        (k, (maximal_iff ρ s k).1 (lk, h, λ i li x y. none i li ((and_iff (has s i) (proper_subset (permission_set ρ k) (permission_set ρ i))).1 (x, y))), subset_refl (permission_set ρ k)))
        (find (candidate_count ρ) (λ i. has s i and proper_subset (permission_set ρ k) (permission_set ρ i)))
