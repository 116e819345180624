-- What a role that comes back takes from its neighbours: the rows with k, from those without it.
-- Assumes nothing.
use mathlib.Core.Path.{◌≡◌, refl, sym, ap, subst}
use mathlib.Core.Bool.{false, So}
use mathlib.Core.Logic.{◌≢◌, ◌⊎◌, ⊎_elim}
use Prim.Native.Nat.{ℕ, ◌+◌, ◌<◌}
use native.Mathlib.Omega.{arith}
use lib.Count.{ones}
use Rattle.sets.specs.Sets.{has, ◌∩◌, ◌∪◌, ◌∖◌, single}
use Rattle.sets.proofs.Truth.{not-So, equal_or}
use Rattle.sets.proofs.Members.{same_set}
use Rattle.sets.proofs.Order.{∪-iff, ∖-iff, single_iff}
use Rattle.sets.proofs.Counts.{ones-∖, ones_with}
use Rattle.model.specs.Hierarchy.{Roles, candidate_count, permission_set, authorised_users, senior, immediately_senior, immediate_juniors, direct_permissions, direct_members}
use Rattle.model.proofs.Reading.{Ordered, immediate_iff, junior_iff}
use Rattle.model.proofs.Building.{stands_below, senior_differs, juniors_side, seniors_side}
use Rattle.model.proofs.Direct.{direct_counted}
use Rattle.model.proofs.Changes.{senior_other, senior_left, junior_left, immediate_stays, immediate_new}

-- S is the standing set with k
module _ (ρ : Roles) (S : ℕ) (o : Ordered ρ S) (k : ℕ) (here : So (has S k)) where
  below : k < candidate_count ρ
  below = stands_below ρ S o k here

  other : (i : ℕ) → i ≢ k → So (has (single k) i) → ⊥
  other i d x = d (sym ((single_iff k i).0 x))

  -- an immediate senior's links to the juniors of k go, and one to k comes
  module _ (i : ℕ) (h : So (immediately_senior ρ S i k)) where
    s : So (senior ρ S i k)
    s = ((immediate_iff ρ S i k).0 h).0

    pub links_restored : immediate_juniors ρ S i ≡ (immediate_juniors ρ (S ∖ single k) i ∖ immediate_juniors ρ S k) ∪ single k
    links_restored =
        let old = immediate_juniors ρ (S ∖ single k) i in
        let own = immediate_juniors ρ S k in
        same_set (immediate_juniors ρ S i) ((old ∖ own) ∪ single k)
        (λ j t.
        let a = (junior_iff ρ S i j).0 t in
        (∪-iff (old ∖ own) (single k) j).1
        (equal_or j k (λ e. ◌⊎◌.inr ((single_iff k j).1 (sym e)))
        (λ d.
        ◌⊎◌.inl
        ((∖-iff old own j).1 (
          (junior_iff ρ (S ∖ single k) i j).1 (a.0, immediate_stays ρ S o (single k) i j (other i (senior_differs ρ S o i k s)) (other j d) a.1),
          λ x.
              let b = (junior_iff ρ S k j).0 x in
              ((immediate_iff ρ S i j).0 a.1).1 k below s ((immediate_iff ρ S k j).0 b.1).0,
        )))))
        (λ j t.
        ⊎_elim
        (λ x.
        let d = (∖-iff old own j).0 x in
        let a = (junior_iff ρ (S ∖ single k) i j).0 d.0 in
        ⊎_elim (λ e. (junior_iff ρ S i j).1 (a.0, e)) (λ w. let e : k ≡ w.1.0 = (single_iff k w.1.0).0 w.1.1 in absurd (d.1 ((junior_iff ρ S k j).1 (a.0, rw e w.1.2)))) (immediate_new ρ S o (single k) i j a.1))
        (λ x. subst (λ (z : ℕ). So (has (immediate_juniors ρ S i) z)) ((single_iff k j).0 x) ((junior_iff ρ S i k).1 (below, h)))
        ((∪-iff (old ∖ own) (single k) j).0 t))

    pub links_counted : ones (immediate_juniors ρ S i) + ones (immediate_juniors ρ (S ∖ single k) i ∩ immediate_juniors ρ S k) ≡ ones (immediate_juniors ρ (S ∖ single k) i) + 1
    links_counted =
        let old = immediate_juniors ρ (S ∖ single k) i in
        let own = immediate_juniors ρ S k in
        let out : has (old ∖ own) k ≡ false =
        not-So (has (old ∖ own) k)
        (λ x.
        let a = (junior_iff ρ (S ∖ single k) i k).0 ((∖-iff old own k).0 x).0 in
        ((senior_other ρ S o k i k).0 ((immediate_iff ρ (S ∖ single k) i k).0 a.1).0).2 refl) in
        let a = ap ones links_restored in
        let b = ones_with (old ∖ own) k out in
        let c = ones-∖ old own in
        omega arith

  -- a senior's direct permissions that are of k too are no longer direct, nor a junior's direct members that are users of k too
  pub permissions_counted : (i : ℕ) → So (senior ρ S i k)
      → ones (direct_permissions ρ S i) + ones (direct_permissions ρ (S ∖ single k) i ∩ permission_set ρ k) ≡ ones (direct_permissions ρ (S ∖ single k) i)
  unfolding direct_permissions
  permissions_counted i s =
      direct_counted ρ.permissions (candidate_count ρ) S (λ j i. senior ρ S i j) (permission_set ρ) (juniors_side ρ S o) k (λ j i. senior ρ (S ∖ single k) i j)
      (junior_left ρ S o (single k)) i s

  pub members_counted : (j : ℕ) → So (senior ρ S k j)
      → ones (direct_members ρ S j) + ones (direct_members ρ (S ∖ single k) j ∩ authorised_users ρ k) ≡ ones (direct_members ρ (S ∖ single k) j)
  unfolding direct_members
  members_counted j s =
      direct_counted ρ.users (candidate_count ρ) S (senior ρ S) (authorised_users ρ) (seniors_side ρ S o) k (senior ρ (S ∖ single k))
      (senior_left ρ S o (single k)) j s
