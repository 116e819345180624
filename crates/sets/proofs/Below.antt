-- The set of all items below n, as a number and as masks, for any number of words.
-- Assumes nothing.
use mathlib.Core.Path.{◌≡◌, refl, sym, ◌∙◌, ap}
use mathlib.Core.List.{List, [], ◌∷◌}
use Prim.Native.Nat.{ℕ, zero, suc, ◌+◌, ◌-◌, ◌*◌, ◌^◌, ◌≤◌, ◌<◌, min}
use native.Mathlib.Nat.{zero-add, zero-mul, mul-suc, pow-suc, sub-zero}
use native.Mathlib.Omega.{arith}
use borrow.Author.Tests.{le-ltb, lt-ltb}
use lib.Dec.{ltb}
use lib.Pow.{pow_pos, ones_split}
use lib.ListN.{length, get_or}
use Rattle.sets.specs.Truth.{bit}
use Rattle.sets.specs.Sets.{collect}
use Rattle.sets.specs.Words.{value}
use Rattle.sets.proofs.Truth.{either}
use Rattle.sets.proofs.Words.{same_words}

-- a mask of the items below n, for the items from `at` on
abbrev pub mask_from : ℕ → ℕ → ℕ
mask_from at n = 2 ^ min 64 (n - at) - 1

abbrev pub masks_from : ℕ → ℕ → ℕ → List ℕ
masks_from zero at n = []
masks_from (suc k) at n = mask_from at n ∷ masks_from k (at + 64) n

value_masks : (k at n : ℕ) → value (masks_from k at n) ≡ 2 ^ min (64 * k) (n - at) - 1
unfolding value
value_masks zero at n = let e : min 0 (n - at) ≡ 0 = omega arith in rw e refl
value_masks (suc k) at n =
    rw (value_masks k (at + 64) n)
    (either (n - at) 64
    (λ (l : n - at < 64).
    let p : min (64 * k) (n - (at + 64)) ≡ 0 = omega arith in
    let q : min 64 (n - at) ≡ n - at = omega arith in
    let r : min (64 * suc k) (n - at) ≡ n - at = omega (arith, mul-suc 64 k) in
    rw (p, q, r) (omega arith))
    (λ (l : 64 ≤ n - at).
    let q : min 64 (n - at) ≡ 64 = omega arith in
    let r : min (64 * suc k) (n - at) ≡ min (64 * k) (n - (at + 64)) + 64 = omega (arith, mul-suc 64 k) in
    rw (q, r) (sym (ones_split (min (64 * k) (n - (at + 64))) 64))))

pub collect-below : (w n : ℕ) → collect w (λ i. ltb i n) ≡ 2 ^ min w n - 1
unfolding collect bit
collect-below zero n = let e : min 0 n ≡ 0 = omega arith in rw e refl
collect-below (suc w) n =
    rw (collect-below w n)
    (either w n
    (λ (l : w < n).
    let p : min w n ≡ w = omega arith in
    let q : min (suc w) n ≡ suc w = omega arith in
    rw (p, q, lt-ltb w n l) (omega (arith, pow-suc 2 w, pow_pos w)))
    (λ (l : n ≤ w).
    let p : min w n ≡ n = omega arith in
    let q : min (suc w) n ≡ n = omega arith in
    rw (p, q, le-ltb w n l) (omega (arith, zero-mul (2 ^ w)))))

length-masks : (k at n : ℕ) → length (masks_from k at n) ≡ k
length-masks zero at n = refl
length-masks (suc k) at n = ap suc (length-masks k (at + 64) n)

get_masks : (k at n j : ℕ) → j < k → get_or (masks_from k at n) j 0 ≡ mask_from (at + 64 * j) n
get_masks zero at n j l = absurd (omega arith)
get_masks (suc k) at n zero l = ap (λ (x : ℕ). mask_from x n) (omega arith)
get_masks (suc k) at n (suc j) l = get_masks k (at + 64) n j (omega arith) ∙ ap (λ (x : ℕ). mask_from x n) (omega arith)

below_masks : (k n : ℕ) → value (masks_from k 0 n) ≡ collect (64 * k) (λ i. ltb i n)
below_masks k n = value_masks k 0 n ∙ ap (λ (x : ℕ). 2 ^ min (64 * k) x - 1) (sub-zero n) ∙ sym (collect-below (64 * k) n)

-- a place that is a number of the machine or its largest
pub mask_capped : (j n : ℕ) → n < 2 ^ 64 → 2 ^ min 64 (n - min (j * 64) (2 ^ 64 - 1)) - 1 ≡ mask_from (64 * j) n
mask_capped j n l = let e : n - min (j * 64) (2 ^ 64 - 1) ≡ n - 64 * j = omega arith in ap (λ (x : ℕ). 2 ^ min 64 x - 1) e

-- the words of all items below n
pub below_words : (k n : ℕ) (ws : List ℕ) → length ws ≡ k → ((j : ℕ) → j < k → get_or ws j 0 ≡ mask_from (64 * j) n) → value ws ≡ collect (64 * k) (λ i. ltb i n)
below_words k n ws e h =
    ap value (same_words ws (masks_from k 0 n) (e ∙ sym (length-masks k 0 n)) (λ j l. let q : j < k = rw e at l in h j q ∙ sym (get_masks k 0 n j q ∙ ap (λ (x : ℕ). mask_from x n) (zero-add (64 * j)))))
    ∙ below_masks k n
