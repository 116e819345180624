-- Roles struck, and restored: which rows differ. R is the standing set with the roles of the set s, or the role k, in it: before a strike, after a
-- restoration.
-- Assumes nothing.
use mathlib.Core.Path.{◌≡◌, refl, sym}
use mathlib.Core.Bool.{So}
use mathlib.Core.Logic.{◌↔◌, ◌≢◌, ◌⊎◌, ⊎_elim}
use Prim.Native.Nat.{ℕ, ◌<◌}
use Rattle.sets.specs.Truth.{◌and◌}
use Rattle.sets.specs.Sets.{has, ◌∪◌, ◌∖◌, single}
use Rattle.sets.proofs.Truth.{by_test, So-not, and_iff, find}
use Rattle.sets.proofs.Members.{same_set}
use Rattle.sets.proofs.Order.{∖-iff, ∖-lt, ∪-lt, single_iff, single_lt}
use Rattle.model.specs.Hierarchy.{Roles, candidate_count, permission_set, authorised_users, senior, immediately_senior, immediate_juniors, direct_permissions, direct_members}
use Rattle.model.proofs.Direct.{NextTo, next_taker, direct_same, direct_kept}
use Rattle.model.proofs.Reading.{Ordered, senior_iff, immediate_iff, junior_iff}
use Rattle.model.proofs.Building.{stands_below, senior_trans, senior_stands, juniors_side, seniors_side}

-- the standing roles stay candidates
pub struck_ordered : (ρ : Roles) (R s : ℕ) → Ordered ρ R → Ordered ρ (R ∖ s)
struck_ordered ρ R s o = record { lower = o.lower; below = ∖-lt (candidate_count ρ) R s o.below }

pub restored_ordered : (ρ : Roles) (R k : ℕ) → k < candidate_count ρ → Ordered ρ R → Ordered ρ (R ∪ single k)
restored_ordered ρ R k lk o =
    record { lower = o.lower; below = ∪-lt (candidate_count ρ) R (single k) o.below (single_lt (candidate_count ρ) k lk) }

module _ (ρ : Roles) (R : ℕ) (o : Ordered ρ R) where
  -- a senior that is not immediate has a role between
  pub between : (i k : ℕ) → So (senior ρ R i k) → (So (immediately_senior ρ R i k) → ⊥) → (t : ℕ) × So (senior ρ R i t) × So (senior ρ R t k)
  between i k s d =
      ⊎_elim (λ w. let a = (and_iff (senior ρ R i w.0) (senior ρ R w.0 k)).0 w.2 in (w.0, a.0, a.1))
      (λ f. absurd (d ((immediate_iff ρ R i k).1 (s, λ t l p q. f t l ((and_iff (senior ρ R i t) (senior ρ R t k)).1 (p, q))))))
      (find (candidate_count ρ) (λ t. senior ρ R i t and senior ρ R t k))

  -- next on the side of the juniors, and of the seniors, is immediate
  next_junior : (j k : ℕ) → NextTo (candidate_count ρ) (λ j k. senior ρ R k j) j k → So (immediately_senior ρ R k j)
  next_junior j k h = (immediate_iff ρ R k j).1 (h.0, λ i l p q. h.1 i l q p)

  next_senior : (i k : ℕ) → NextTo (candidate_count ρ) (senior ρ R) i k → So (immediately_senior ρ R i k)
  next_senior i k h = (immediate_iff ρ R i k).1 h

  -- on the way from a senior k to j, an immediate junior of k, and an immediate senior of j
  pub immediate_below : (k j : ℕ) → So (senior ρ R k j) → (t : ℕ) × So (immediately_senior ρ R k t) × ((j ≡ t) ⊎ So (senior ρ R t j))
  immediate_below k j h =
      let w = next_taker ρ.permissions (candidate_count ρ) R (λ j k. senior ρ R k j) (permission_set ρ) (juniors_side ρ R o) j k h in
      (w.0, next_junior w.0 k w.1, w.2)

  pub immediate_above : (k j : ℕ) → So (senior ρ R k j) → (t : ℕ) × So (immediately_senior ρ R t j) × ((k ≡ t) ⊎ So (senior ρ R k t))
  immediate_above k j h =
      let w = next_taker ρ.users (candidate_count ρ) R (senior ρ R) (authorised_users ρ) (seniors_side ρ R o) k j h in
      (w.0, next_senior w.0 j w.1, w.2)

  -- ---- a set s of roles

  module _ (s : ℕ) where
    -- among those that are left, senior is as it was
    pub senior_left : (i j : ℕ) → So (senior ρ (R ∖ s) i j) ↔ (So (senior ρ R i j) × (So (has s i) → ⊥) × (So (has s j) → ⊥))
    senior_left i j = (
      λ h.
          let a = (senior_iff ρ (R ∖ s) i j).0 h in
          let x = (∖-iff R s i).0 a.0 in
          let y = (∖-iff R s j).0 a.1 in
          ((senior_iff ρ R i j).1 (x.0, y.0, a.2), x.1, y.1),
      λ f.
          let a = (senior_iff ρ R i j).0 f.0 in
          (senior_iff ρ (R ∖ s) i j).1 ((∖-iff R s i).1 (a.0, f.1), (∖-iff R s j).1 (a.1, f.2), a.2),
    )

    pub junior_left : (j k : ℕ) → So (senior ρ (R ∖ s) k j) ↔ (So (senior ρ R k j) × (So (has s j) → ⊥) × (So (has s k) → ⊥))
    junior_left j k = (λ h. let a = (senior_left k j).0 h in (a.0, a.2, a.1), λ f. (senior_left k j).1 (f.0, f.2, f.1))

    -- a link between two that are left stays
    pub immediate_stays : (i j : ℕ) → (So (has s i) → ⊥) → (So (has s j) → ⊥) → So (immediately_senior ρ R i j) → So (immediately_senior ρ (R ∖ s) i j)
    immediate_stays i j di dj h =
        let a = (immediate_iff ρ R i j).0 h in
        (immediate_iff ρ (R ∖ s) i j).1
        ((senior_left i j).1 (a.0, di, dj), λ t l p q. a.1 t l ((senior_left i t).0 p).0 ((senior_left t j).0 q).0)

    -- a new one skips roles of s: "chains of struck roles pass it on to the next that stands"
    pub immediate_new : (i j : ℕ) → So (immediately_senior ρ (R ∖ s) i j)
        → So (immediately_senior ρ R i j)
        ⊎ (((t : ℕ) × So (has s t) × So (immediately_senior ρ R i t)) × ((t : ℕ) × So (has s t) × So (immediately_senior ρ R t j)))
    immediate_new i j h =
        let a = (immediate_iff ρ (R ∖ s) i j).0 h in
        let out = (senior_left i j).0 a.0 in
        let struck : (t : ℕ) → So (senior ρ R i t) → So (senior ρ R t j) → So (has s t) =
        λ t p q.
        by_test (has s t) (λ y. y)
        (λ y. absurd (a.1 t (stands_below ρ R o t (senior_stands ρ R o i t p).1) ((senior_left i t).1 (p, out.1, So-not y)) ((senior_left t j).1 (q, So-not y, out.2)))) in
        by_test (immediately_senior ρ R i j) (λ e. ◌⊎◌.inl e)
        (λ e.
        let w = between i j out.0 (So-not e) in
        let t = w.0 in
        let x = immediate_below i t w.1 in
        let y = immediate_above t j w.2 in
        let xj : So (senior ρ R x.0 j) = ⊎_elim (λ (d : t ≡ x.0). rw d at w.2) (λ z. senior_trans ρ R o x.0 t j z w.2) x.2 in
        let iy : So (senior ρ R i y.0) = ⊎_elim (λ (d : t ≡ y.0). rw d at w.1) (λ z. senior_trans ρ R o i t y.0 w.1 z) y.2 in
        ◌⊎◌.inr (
          (x.0, struck x.0 ((immediate_iff ρ R i x.0).0 x.1).0 xj, x.1),
          (y.0, struck y.0 iy ((immediate_iff ρ R y.0 j).0 y.1).0, y.1),
        ))

    -- a role with no immediate junior in s keeps its immediate juniors and its direct permissions; one with no immediate senior in s its direct members
    pub juniors_left : (i : ℕ) → (So (has s i) → ⊥) → ((t : ℕ) → So (has s t) → So (immediately_senior ρ R i t) → ⊥)
        → immediate_juniors ρ (R ∖ s) i ≡ immediate_juniors ρ R i
    juniors_left i di apart =
        same_set (immediate_juniors ρ (R ∖ s) i) (immediate_juniors ρ R i)
        (λ j t.
        let a = (junior_iff ρ (R ∖ s) i j).0 t in
        (junior_iff ρ R i j).1 (a.0, ⊎_elim (λ h. h) (λ w. absurd (apart w.0.0 w.0.1 w.0.2)) (immediate_new i j a.1)))
        (λ j t.
        let a = (junior_iff ρ R i j).0 t in
        (junior_iff ρ (R ∖ s) i j).1 (a.0, immediate_stays i j di (λ x. apart j x a.1) a.1))

    pub permissions_left : (i : ℕ) → (So (has s i) → ⊥) → ((t : ℕ) → So (has s t) → So (immediately_senior ρ R i t) → ⊥)
        → direct_permissions ρ (R ∖ s) i ≡ direct_permissions ρ R i
    unfolding direct_permissions
    permissions_left i di apart =
        direct_same ρ.permissions (candidate_count ρ) R (λ j k. senior ρ R k j) (permission_set ρ) (juniors_side ρ R o) s (λ j k. senior ρ (R ∖ s) k j)
        junior_left i di (λ t x h. apart t x (next_junior t i h))

    pub members_left : (j : ℕ) → (So (has s j) → ⊥) → ((t : ℕ) → So (has s t) → So (immediately_senior ρ R t j) → ⊥)
        → direct_members ρ (R ∖ s) j ≡ direct_members ρ R j
    unfolding direct_members
    members_left j dj apart =
        direct_same ρ.users (candidate_count ρ) R (senior ρ R) (authorised_users ρ) (seniors_side ρ R o) s (senior ρ (R ∖ s))
        senior_left j dj (λ t x h. apart t x (next_senior t j h))

  -- ---- one role k

  module _ (k : ℕ) where
    not_one : (i : ℕ) → i ≢ k → So (has (single k) i) → ⊥
    not_one i d x = d (sym ((single_iff k i).0 x))

    pub stands_other : (i : ℕ) → So (has (R ∖ single k) i) ↔ (So (has R i) × (i ≢ k))
    stands_other i = (
      λ h. let d = (∖-iff R (single k) i).0 h in (d.0, λ e. d.1 ((single_iff k i).1 (sym e))),
      λ f. (∖-iff R (single k) i).1 (f.0, not_one i f.1),
    )

    pub senior_other : (i j : ℕ) → So (senior ρ (R ∖ single k) i j) ↔ (So (senior ρ R i j) × (i ≢ k) × (j ≢ k))
    senior_other i j = (
      λ h.
          let a = (senior_left (single k) i j).0 h in
          (a.0, (λ e. a.1 ((single_iff k i).1 (sym e))), λ e. a.2 ((single_iff k j).1 (sym e))),
      λ f. (senior_left (single k) i j).1 (f.0, not_one i f.1, not_one j f.2),
    )

    pub struck_absent : So (has (R ∖ single k) k) → ⊥
    struck_absent h = ((stands_other k).0 h).1 refl

    pub juniors_same : (i : ℕ) → i ≢ k → (So (immediately_senior ρ R i k) → ⊥) → immediate_juniors ρ (R ∖ single k) i ≡ immediate_juniors ρ R i
    juniors_same i di d = juniors_left (single k) i (not_one i di) (λ t x h. let e : k ≡ t = (single_iff k t).0 x in d (rw e h))

    pub permissions_same : (i : ℕ) → i ≢ k → (So (immediately_senior ρ R i k) → ⊥) → direct_permissions ρ (R ∖ single k) i ≡ direct_permissions ρ R i
    permissions_same i di d = permissions_left (single k) i (not_one i di) (λ t x h. let e : k ≡ t = (single_iff k t).0 x in d (rw e h))

    pub members_same : (j : ℕ) → j ≢ k → (So (immediately_senior ρ R k j) → ⊥) → direct_members ρ (R ∖ single k) j ≡ direct_members ρ R j
    members_same j dj d = members_left (single k) j (not_one j dj) (λ t x h. let e : k ≡ t = (single_iff k t).0 x in d (rw e h))

    -- where k has no direct members, those of all others are the same: whoever becomes direct elsewhere was direct with k
    pub members_kept : direct_members ρ R k ≡ 0 → (j : ℕ) → j ≢ k → direct_members ρ (R ∖ single k) j ≡ direct_members ρ R j
    unfolding direct_members
    members_kept none j dj =
        direct_kept ρ.users (candidate_count ρ) R (senior ρ R) (authorised_users ρ) (seniors_side ρ R o) (single k) (senior ρ (R ∖ single k))
        (senior_left (single k)) (λ t x. let e : k ≡ t = (single_iff k t).0 x in rw e at none) j (not_one j dj)
