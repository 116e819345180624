-- Whether a list can be read.
-- Assumes nothing.
use mathlib.Core.Path.{◌≡◌, sym}
use mathlib.Core.Bool.{false, So}
use mathlib.Core.Logic.{◌↔◌}
use mathlib.Core.List.{List}
use Prim.Native.Nat.{ℕ, ◌*◌, ◌/◌, ◌<◌}
use lib.Dec.{eqb, ltb}
use lib.ListN.{length, get_or}
use Rattle.sets.specs.Truth.{◌and◌, all}
use Rattle.sets.proofs.Truth.{not-So, same_test, and_iff, all_iff, eqb_iff, ltb_iff}
use Rattle.calls_list.specs.Encoding.{readable}

module _ (ws out : List ℕ) where
  abbrev n : ℕ
  n = length ws / 7

  readable_iff : So (readable ws out) ↔ ((7 * n ≡ length ws) × (length out ≡ 3 * n) × ((i : ℕ) → i < n → get_or ws (7 * i) 0 < 4))
  unfolding readable
  readable_iff = (
    λ h.
        let a = (and_iff (eqb (7 * n) (length ws) and eqb (length out) (3 * n)) (all n (λ i. ltb (get_or ws (7 * i) 0) 4))).0 h in
        let b = (and_iff (eqb (7 * n) (length ws)) (eqb (length out) (3 * n))).0 a.0 in
        ((eqb_iff (7 * n) (length ws)).0 b.0, (eqb_iff (length out) (3 * n)).0 b.1, λ i l. (ltb_iff (get_or ws (7 * i) 0) 4).0 ((all_iff n (λ i. ltb (get_or ws (7 * i) 0) 4)).0 a.1 i l)),
    λ f.
        (and_iff (eqb (7 * n) (length ws) and eqb (length out) (3 * n)) (all n (λ i. ltb (get_or ws (7 * i) 0) 4))).1 (
          (and_iff (eqb (7 * n) (length ws)) (eqb (length out) (3 * n))).1 ((eqb_iff (7 * n) (length ws)).1 f.0, (eqb_iff (length out) (3 * n)).1 f.1),
          (all_iff n (λ i. ltb (get_or ws (7 * i) 0) 4)).1 (λ i l. (ltb_iff (get_or ws (7 * i) 0) 4).1 (f.2 i l)),
        ),
  )

  pub readable_sizes : So (readable ws out) → (7 * (length ws / 7) ≡ length ws) × (length out ≡ 3 * (length ws / 7))
  readable_sizes h = let a = readable_iff.0 h in (a.0, a.1)

  pub readable_not : ((7 * n ≡ length ws) × (length out ≡ 3 * n) × ((i : ℕ) → i < n → get_or ws (7 * i) 0 < 4) → ⊥) → false ≡ readable ws out
  readable_not d = sym (not-So (readable ws out) (λ h. d (readable_iff.0 h)))

  -- where the sizes are right, the kinds decide
  pub readable_kinds : 7 * n ≡ length ws → length out ≡ 3 * n → all n (λ i. ltb (get_or ws (7 * i) 0) 4) ≡ readable ws out
  readable_kinds a b =
      same_test (all n (λ i. ltb (get_or ws (7 * i) 0) 4)) (readable ws out)
      (λ h. readable_iff.1 (a, b, λ i l. (ltb_iff (get_or ws (7 * i) 0) 4).0 ((all_iff n (λ i. ltb (get_or ws (7 * i) 0) 4)).0 h i l)))
      (λ h. (all_iff n (λ i. ltb (get_or ws (7 * i) 0) 4)).1 (λ i l. (ltb_iff (get_or ws (7 * i) 0) 4).1 ((readable_iff.0 h).2 i l)))
