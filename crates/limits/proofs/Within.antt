-- The limits, test by test.
-- Assumes nothing.
use mathlib.Core.Path.{◌≡◌, refl, sym, ◌∙◌, ap₂}
use mathlib.Core.Bool.{Bool, true, false, So}
use mathlib.Core.List.{List, [], ◌∷◌, map}
use Prim.Native.Nat.{ℕ, suc, ◌^◌, ◌≤◌, ◌<◌}
use native.Mathlib.Omega.{arith}
use lib.Dec.{ltb}
use lib.ListN.{length, get_or}
use Rattle.std.specs.List.{list_all}
use Rattle.std.proofs.lemmas.List.Folds.{list_all-map, list_all_at}
use Rattle.sets.specs.Truth.{all}
use Rattle.sets.specs.Sets.{has, subset, collect}
use Rattle.sets.specs.Words.{value}
use Rattle.sets.proofs.Truth.{same_test, by_test, not-So, So-not, ltb_iff, all_iff}
use Rattle.sets.proofs.Members.{below_of_items, item_below}
use Rattle.sets.proofs.Order.{collect_iff, subset_iff}
use Rattle.model.specs.State.{within_limits, rows_within}
use Rattle.model.proofs.Record.{within_limits_iff}
use Rattle.tables.specs.Rows.{rows_of}

out_of : (n m : ℕ) → ((1 ≤ n) × (n ≤ 128) × (1 ≤ m) × (m ≤ 256) → ⊥) → false ≡ within_limits n m
out_of n m d = sym (not-So (within_limits n m) (λ h. d ((within_limits_iff n m).0 h)))

pub no_users : (n m : ℕ) → n < 1 → false ≡ within_limits n m
no_users n m l = out_of n m (λ k. let a = k.0 in let z : ⊥ = omega arith in z)

pub many_users : (n m : ℕ) → 128 < n → false ≡ within_limits n m
many_users n m l = out_of n m (λ k. let a = k.1 in let z : ⊥ = omega arith in z)

pub no_permissions : (n m : ℕ) → m < 1 → false ≡ within_limits n m
no_permissions n m l = out_of n m (λ k. let a = k.2 in let z : ⊥ = omega arith in z)

pub many_permissions : (n m : ℕ) → 256 < m → false ≡ within_limits n m
many_permissions n m l = out_of n m (λ k. let a = k.3 in let z : ⊥ = omega arith in z)

pub all_kept : (n m : ℕ) → 1 ≤ n → n ≤ 128 → 1 ≤ m → m ≤ 256 → true ≡ within_limits n m
all_kept n m n1 n128 m1 m256 = sym ((within_limits_iff n m).1 (n1, n128, m1, m256))

-- each side of each limit
pub ruleset limits = (all_kept, no_users, many_users, no_permissions, many_permissions)

-- ---- no bit at m or above

-- within the first m items is below 2 ^ m
pub within_below : (x m : ℕ) → m ≤ 256 → subset x (collect 256 (λ i. ltb i m)) ≡ ltb x (2 ^ m)
within_below x m l =
    same_test (subset x (collect 256 (λ i. ltb i m))) (ltb x (2 ^ m))
    (λ h.
    (ltb_iff x (2 ^ m)).1
    (below_of_items m x
    (λ i b.
    not-So (has x i)
    (λ t.
    let a = (ltb_iff i m).0 ((collect_iff 256 (λ i. ltb i m) i).0 ((subset_iff x (collect 256 (λ i. ltb i m))).0 h i t)).1 in
    let z : ⊥ = omega arith in z))))
    (λ h.
    (subset_iff x (collect 256 (λ i. ltb i m))).1
    (λ i t. let b = item_below m x i ((ltb_iff x (2 ^ m)).0 h) t in (collect_iff 256 (λ i. ltb i m) i).1 (omega arith, (ltb_iff i m).1 b)))

-- a list whose numbers all pass
each_passes : (p : ℕ → Bool) (xs : List ℕ) → ((u : ℕ) → u < length xs → So (p (get_or xs u 0))) → So (list_all p xs)
each_passes p [] h = refl
each_passes p (x ∷ xs) h = rw (h 0 (omega arith)) (each_passes p xs (λ u l. h (suc u) (omega arith)))

-- the rows asked one after the other
pub rows_test : (m : ℕ) (rows : List (List ℕ)) → list_all (λ row. ltb (value row) (2 ^ m)) rows ≡ rows_within m (rows_of rows)
unfolding rows_within rows_of
rows_test m rows =
    let p : ℕ → Bool = λ x. ltb x (2 ^ m) in
    let xs = map value rows in
    sym (list_all-map p value rows)
    ∙ same_test (list_all p xs) (all (length xs) (λ u. p (get_or xs u 0)))
    (λ h. (all_iff (length xs) (λ u. p (get_or xs u 0))).1 (λ u l. by_test (p (get_or xs u 0)) (λ t. t) (λ f. absurd (So-not (list_all_at p xs u 0 l f) h))))
    (λ h. each_passes p xs ((all_iff (length xs) (λ u. p (get_or xs u 0))).0 h))

-- what the test of a row tells
pub row_tested : (t : Bool) (x y s m : ℕ) → m ≤ 256 → t ≡ subset x s → x ≡ y → s ≡ collect 256 (λ i. ltb i m) → t ≡ ltb y (2 ^ m)
row_tested t x y s m l et ex es = et ∙ ap₂ subset ex es ∙ within_below y m l
