-- How large the counts and the quality can become: every product of the machine stays far below 2^64.
-- Assumes nothing.
use mathlib.Core.Path.{◌≡◌}
use mathlib.Core.Bool.{So}
use mathlib.Core.Logic.{◌↔◌}
use Prim.Native.Nat.{ℕ, zero, suc, ◌+◌, ◌*◌, ◌<◌, ◌≤◌, ◌^◌}
use native.Mathlib.Nat.{le_trans, mul-le-mul, le_refl, le_of_eq, not-suc-le-zero, mul-suc, suc-mul}
use native.Mathlib.Decide.{le_ind}
use native.Mathlib.Omega.{arith}
use lib.Count.{ones, ones-le}
use Rattle.sets.specs.Truth.{total}
use Rattle.sets.specs.Sets.{has}
use Rattle.sets.proofs.Truth.{not-So, reflect}
use Rattle.sets.proofs.Members.{below_of_items}
use Rattle.sets.proofs.Counts.{total-suc, total-≤, total_bound, total-zero}
use Rattle.model.specs.Hierarchy.{Roles, candidate_count, immediate_juniors, direct_permissions, direct_members, building}
use Rattle.model.specs.Quality.{most_weight, most_denominator, Weights, Counts, weights_allowed, counted, counts, weigh, Tolerance, tolerance_allowed}
use Rattle.model.proofs.Reading.{Ordered, immediate_iff, junior_iff}
use Rattle.model.proofs.Building.{senior_lower}
use Rattle.model.proofs.Record.{direct_permissions_lt, direct_members_lt}

pub weights_allowed_iff : (w : Weights)
    → So (weights_allowed w) ↔ ((w.per_role ≤ most_weight) × (w.per_member ≤ most_weight) × (w.per_permission ≤ most_weight) × (w.per_link ≤ most_weight))
unfolding weights_allowed
weights_allowed_iff w = (
  λ h.
      let x : (((w.per_role ≤ most_weight) × (w.per_member ≤ most_weight)) × (w.per_permission ≤ most_weight)) × (w.per_link ≤ most_weight) = simp reflect at h in
      (x.0.0.0, x.0.0.1, x.0.1, x.1),
  λ f. simp reflect (((f.0, f.1), f.2), f.3),
)

-- "b from 1 to 1,000, and a/b from 1 to 2"
pub tolerance_iff : (t : Tolerance)
    → So (tolerance_allowed t) ↔ ((1 ≤ t.denominator) × (t.denominator ≤ most_denominator) × (t.denominator ≤ t.numerator) × (t.numerator ≤ 2 * t.denominator))
unfolding tolerance_allowed
tolerance_iff t =
    let a = t.numerator in
    let b = t.denominator in (
      λ h.
          let x : (((1 ≤ b) × (b ≤ most_denominator)) × (b ≤ a)) × (a ≤ 2 * b) = simp reflect at h in
          (x.0.0.0, x.0.0.1, x.0.1, x.1),
      λ f. simp reflect (((f.0, f.1), f.2), f.3),
    )

-- "The counts are at most 128, 16,384, 32,768 and 8,128."
pub record Small (q : Counts) : Type 0 where
  pub roles : q.roles ≤ 128
  pub members : q.members ≤ 16384
  pub permissions : q.permissions ≤ 32768
  pub links : q.links ≤ 8128

total_more : (c d : ℕ) (f : ℕ → ℕ) → c ≤ d → total c f ≤ total d f
total_more c d f l = le_ind (λ (d : ℕ). total c f ≤ total d f) (le_refl (total c f)) (λ m k h. omega (arith, total-suc m f)) d l

-- the sum of the numbers below n, twice
twice_below : (n : ℕ) → 2 * total n (λ k. k) + n ≡ n * n
twice_below zero = omega (arith, total-zero 0 (λ k. k) (λ i l. absurd (not-suc-le-zero l)))
twice_below (suc n) = rw (mul-suc (suc n) n, suc-mul n n) (omega (arith, total-suc n (λ k. k), twice_below n))

links_most : total 128 (λ k. k) ≡ 8128
links_most = omega (arith, twice_below 128)

module _ (ρ : Roles) (R : ℕ) (o : Ordered ρ R) (few_users : ρ.users ≤ 128) (few_permissions : ρ.permissions ≤ 256) (few_roles : candidate_count ρ ≤ 128) where
  -- of sets of n items, one for each role, at most so many in all
  in_all : (n most : ℕ) (f : ℕ → ℕ) → ((k : ℕ) → f k < 2 ^ n) → n ≤ most → total (candidate_count ρ) (λ k. ones (f k)) ≤ 128 * most
  in_all n most f b l =
      le_trans (total_bound (candidate_count ρ) most (λ k. ones (f k)) (λ k _. le_trans (ones-le n (f k) (b k)) l)) (mul-le-mul few_roles (le_refl most))

  -- an immediate junior has a lower number
  juniors_few : (k : ℕ) → ones (immediate_juniors ρ R k) ≤ k
  juniors_few k =
      ones-le k (immediate_juniors ρ R k)
      (below_of_items k (immediate_juniors ρ R k)
      (λ j l.
      not-So (has (immediate_juniors ρ R k) j)
      (λ t.
      let x = senior_lower ρ R o k j ((immediate_iff ρ R k j).0 ((junior_iff ρ R k j).0 t).1).0 in
      let z : ⊥ = omega arith in
      z)))

  pub counts_small : Small (counts ρ R)
  unfolding counts counted building
  counts_small =
      let c = candidate_count ρ in
      record {
        roles = le_trans (ones-le c R o.below) few_roles;
        members = in_all ρ.users 128 (direct_members ρ R) (direct_members_lt ρ R) few_users;
        permissions = in_all ρ.permissions 256 (direct_permissions ρ R) (direct_permissions_lt ρ R) few_permissions;
        links = le_trans (total-≤ c (λ k. ones (immediate_juniors ρ R k)) (λ k. k) (λ k l. juniors_few k)) (le_trans (total_more c 128 (λ k. k) few_roles) (le_of_eq links_most));
      }

-- no sum or product of the weights and counts comes near 2^64
pub weigh_small : (w : Weights) (q : Counts) → So (weights_allowed w) → Small q → weigh w q ≤ 57408000
unfolding weigh
weigh_small w q a s =
    let x = (weights_allowed_iff w).0 a in
    let p1 = mul-le-mul x.0 s.roles in
    let p2 = mul-le-mul x.1 s.members in
    let p3 = mul-le-mul x.2 s.permissions in
    let p4 = mul-le-mul x.3 s.links in
    omega arith

-- b·q' and a·q, for b at most 1,000 and a at most 2b
pub trial_small : (a b q q' : ℕ) → b ≤ 1000 → a ≤ 2 * b → q ≤ 57408000 → q' ≤ 57408000 → (b * q' < 2 ^ 37) × (a * q < 2 ^ 37)
trial_small a b q q' hb ha hq hq' =
    let l : a ≤ 2000 = omega arith in
    (let p = mul-le-mul hb hq' in omega arith, let p = mul-le-mul l hq in omega arith)
