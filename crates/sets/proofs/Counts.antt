-- How many items a set has. `ones` is the language's count of ones.
-- Assumes nothing.
use mathlib.Core.Path.{◌≡◌, refl, sym, ◌∙◌, ap, ap₂}
use mathlib.Core.Bool.{Bool, true, false, So}
use mathlib.Core.Logic.{◌≢◌}
use Prim.Native.Nat.{ℕ, zero, suc, ◌+◌, ◌*◌, ◌/◌, ◌%◌, ◌^◌, ◌≤◌, ◌<◌}
use native.Mathlib.Nat.{le_step, lt-suc_self, add-zero, one-mul, zero-mul, mod-lt, lt_of_lt_of_le, not-suc-le-zero, add_comm, le_trans, suc-mul, not-suc-le_self}
use native.Mathlib.Numerals.{add-one}
use native.Mathlib.Omega.{arith}
use lib.Dec.{eqb}
use lib.Pow.{pow_pos, pow_mono, split, shr_lt}
use lib.Count.{ones, ones_cat}
use Rattle.sets.specs.Truth.{◌and◌, ◌or◌, isnt, bit, total}
use Rattle.sets.specs.Sets.{has, ◌∩◌, ◌∪◌, ◌∖◌, single, subset, proper_subset, collect}
use Rattle.sets.proofs.Truth.{So-not, equal_or, below_suc, total_same}
use Rattle.sets.proofs.Members.{digit, has_top, has-∩, has-∪, has-∖, has_low, empty_of, below_power}
use Rattle.sets.proofs.Order.{∩-iff, single_iff, has_with, with_without, ∖-iff, ∖-lt, ∩-lt, ∪-lt, subset_iff, subset-∩-eq, ∩-comm, proper_iff, proper_lacks, has-collect, collect_lt}

-- ---- sums

pub total-suc : (n : ℕ) (f : ℕ → ℕ) → total (suc n) f ≡ f n + total n f
unfolding total
total-suc n f = refl

pub total_add : (n : ℕ) (f g : ℕ → ℕ) → total n (λ i. f i + g i) ≡ total n f + total n g
unfolding total
total_add zero f g = refl
total_add (suc n) f g = let h = total_add n f g in omega arith

pub total-≤ : (n : ℕ) (f g : ℕ → ℕ) → ((i : ℕ) → i < n → f i ≤ g i) → total n f ≤ total n g
unfolding total
total-≤ zero f g h = omega arith
total-≤ (suc n) f g h = let r = total-≤ n f g (λ i l. h i (le_step l)) in let t = h n (lt-suc_self n) in omega arith

-- a sum of terms that are at most b
pub total_bound : (n b : ℕ) (f : ℕ → ℕ) → ((i : ℕ) → i < n → f i ≤ b) → total n f ≤ n * b
unfolding total
total_bound zero b f h = omega (arith, zero-mul b)
total_bound (suc n) b f h = let r = total_bound n b f (λ i l. h i (le_step l)) in let t = h n (lt-suc_self n) in rw (suc-mul n b) (omega arith)

pub total-zero : (n : ℕ) (f : ℕ → ℕ) → ((i : ℕ) → i < n → f i ≡ 0) → total n f ≡ 0
unfolding total
total-zero zero f h = refl
total-zero (suc n) f h = let r = total-zero n f (λ i l. h i (le_step l)) in let t = h n (lt-suc_self n) in omega arith

-- two sums that differ in the term k only
pub total_except : (n k : ℕ) (f g : ℕ → ℕ) → k < n → ((i : ℕ) → i < n → i ≢ k → f i ≡ g i) → total n f + g k ≡ total n g + f k
unfolding total
total_except zero k f g l h = absurd (not-suc-le-zero l)
total_except (suc n) k f g l h =
    below_suc k n l
    (λ (e : k ≡ n). let r : total n f ≡ total n g = total_same n f g (λ i b. h i (le_step b) (λ (d : i ≡ k). omega arith)) in rw e (omega arith))
    (λ b. let r = total_except n k f g b (λ i c. h i (le_step c)) in let t = h n (lt-suc_self n) (λ (d : n ≡ k). omega arith) in omega arith)

-- ---- the count of ones is the sum of the items' digits

ones_digit : (d : ℕ) → d < 2 → ones d ≡ bit (eqb (d % 2) 1)
unfolding bit ones
ones_digit d h = digit d h (λ (e : d ≡ 0). rw e refl) (λ (e : d ≡ 1). rw e refl)

pub ones-total : (n s : ℕ) → s < 2 ^ n → ones s ≡ total n (λ i. bit (has s i))
unfolding total ones
ones-total zero s h = let e : s ≡ 0 = omega arith in rw e refl
ones-total (suc n) s h =
    let d : s / 2 ^ n < 2 = shr_lt 1 n (rw (add_comm 1 n ∙ add-one n) h) in
    let l : s % 2 ^ n < 2 ^ n = mod-lt s (pow_pos n) in
    let parts : ones s ≡ ones (s / 2 ^ n) + ones (s % 2 ^ n) = ap ones (sym (split s n)) ∙ ones_cat n (s / 2 ^ n) (s % 2 ^ n) l in
    let top : ones (s / 2 ^ n) ≡ bit (has s n) = ones_digit (s / 2 ^ n) d ∙ ap bit (sym (has_top s n)) in
    let rest : ones (s % 2 ^ n) ≡ total n (λ i. bit (has s i)) =
    ones-total n (s % 2 ^ n) l ∙ total_same n (λ i. bit (has (s % 2 ^ n) i)) (λ i. bit (has s i)) (λ i b. ap bit (has_low n s i b)) in
    omega arith

-- ---- counts of the operations

-- a bound that serves two sets
both_below : (a b : ℕ) → (a < 2 ^ (a + b)) × (b < 2 ^ (a + b))
both_below a b = (lt_of_lt_of_le (below_power a) (pow_mono (omega arith)), lt_of_lt_of_le (below_power b) (pow_mono (omega arith)))

bits_or-and : (a b : Bool) → bit (a or b) + bit (a and b) ≡ bit a + bit b
unfolding bit ◌or◌ ◌and◌
bits_or-and true true = refl
bits_or-and true false = refl
bits_or-and false true = refl
bits_or-and false false = refl

bits_without : (a b : Bool) → bit (a and isnt b) + bit (a and b) ≡ bit a
unfolding bit ◌and◌ isnt
bits_without true true = refl
bits_without true false = refl
bits_without false true = refl
bits_without false false = refl

pub ones-∪ : (a b : ℕ) → ones (a ∪ b) + ones (a ∩ b) ≡ ones a + ones b
ones-∪ a b =
    let n = a + b in
    let h = both_below a b in
    ap₂ ◌+◌ (ones-total n (a ∪ b) (∪-lt n a b h.0 h.1)) (ones-total n (a ∩ b) (∩-lt n a b h.1))
    ∙ sym (total_add n (λ i. bit (has (a ∪ b) i)) (λ i. bit (has (a ∩ b) i)))
    ∙ total_same n (λ i. bit (has (a ∪ b) i) + bit (has (a ∩ b) i)) (λ i. bit (has a i) + bit (has b i))
    (λ i l. rw (has-∪ a b i, has-∩ a b i) (bits_or-and (has a i) (has b i)))
    ∙ total_add n (λ i. bit (has a i)) (λ i. bit (has b i))
    ∙ ap₂ ◌+◌ (sym (ones-total n a h.0)) (sym (ones-total n b h.1))

pub ones-∖ : (a b : ℕ) → ones (a ∖ b) + ones (a ∩ b) ≡ ones a
ones-∖ a b =
    let n = a + b in
    let h = both_below a b in
    ap₂ ◌+◌ (ones-total n (a ∖ b) (∖-lt n a b h.0)) (ones-total n (a ∩ b) (∩-lt n a b h.1))
    ∙ sym (total_add n (λ i. bit (has (a ∖ b) i)) (λ i. bit (has (a ∩ b) i)))
    ∙ total_same n (λ i. bit (has (a ∖ b) i) + bit (has (a ∩ b) i)) (λ i. bit (has a i))
    (λ i l. rw (has-∖ a b i, has-∩ a b i) (bits_without (has a i) (has b i)))
    ∙ sym (ones-total n a h.0)

pub ones-zero : ones 0 ≡ 0
unfolding ones
ones-zero = refl

pub ones-single : (i : ℕ) → ones (single i) ≡ 1
unfolding single ones
ones-single i = ap ones (sym (add-zero (2 ^ i)) ∙ ap (λ (x : ℕ). x + 0) (sym (one-mul (2 ^ i)))) ∙ ones_cat i 1 0 (pow_pos i)

-- one item out is one fewer
pub ones_without : (s i : ℕ) → So (has s i) → suc (ones (s ∖ single i)) ≡ ones s
ones_without s i h =
    let e : s ∩ single i ≡ single i = ∩-comm s (single i) ∙ subset-∩-eq (single i) s ((subset_iff (single i) s).1 (λ j t. let d : i ≡ j = (single_iff i j).0 t in rw d at h)) in
    let k : ones (s ∩ single i) ≡ 1 = ap ones e ∙ ones-single i in
    omega (arith, ones-∖ s (single i))

-- one item in is one more
pub ones_with : (s i : ℕ) → has s i ≡ false → ones (s ∪ single i) ≡ suc (ones s)
ones_with s i h = sym (ones_without (s ∪ single i) i (has_with s i)) ∙ ap (λ (x : ℕ). suc (ones x)) (with_without s i h)

pub ones_none : (s : ℕ) → ones s ≡ 0 → s ≡ 0
ones_none s h = empty_of s (λ i t. omega (arith, ones_without s i t))

pub ones_some : (s i : ℕ) → So (has s i) → 0 < ones s
ones_some s i t = omega (arith, ones_without s i t)

pub ones-subset : (a b : ℕ) → So (subset a b) → ones a ≤ ones b
ones-subset a b h =
    let e : ones (b ∩ a) ≡ ones a = ap ones (∩-comm b a ∙ subset-∩-eq a b h) in
    omega (arith, ones-∖ b a)

pub ones_proper : (a b : ℕ) → So (proper_subset a b) → ones a < ones b
ones_proper a b h =
    let w = proper_lacks a b h in
    let e : ones (b ∩ a) ≡ ones a = ap ones (∩-comm b a ∙ subset-∩-eq a b ((proper_iff a b).0 h).0) in
    let k : 0 < ones (b ∖ a) = ones_some (b ∖ a) w.0 ((∖-iff b a w.0).1 (w.1, So-not w.2)) in
    omega (arith, ones-∖ b a)

-- a set with as many items as one that holds it is that set
pub ones_same : (a b : ℕ) → So (subset a b) → ones b ≤ ones a → a ≡ b
ones_same a b h l = equal_or a b (λ e. e) (λ d. let k = ones_proper a b ((proper_iff a b).1 (h, d)) in absurd (not-suc-le_self (ones a) (le_trans k l)))

pub ones_disjoint : (a b : ℕ) → a ∩ b ≡ 0 → ones (a ∪ b) ≡ ones a + ones b
ones_disjoint a b e = let k : ones (a ∩ b) ≡ 0 = ap ones e ∙ ones-zero in omega (arith, ones-∪ a b)

pub ones-collect : (n : ℕ) (f : ℕ → Bool) → ones (collect n f) ≡ total n (λ i. bit (f i))
ones-collect n f =
    ones-total n (collect n f) (collect_lt n f)
    ∙ total_same n (λ i. bit (has (collect n f) i)) (λ i. bit (f i)) (λ i l. ap bit (has-collect n f i l))

-- what is left has fewer items where something is taken away
pub dropped_fewer : (s d i : ℕ) → So (has s i) → So (has d i) → ones (s ∖ d) < ones s
dropped_fewer s d i h t = let a = ones-∖ s d in let b = ones_some (s ∩ d) i ((∩-iff s d i).1 (h, t)) in omega arith
