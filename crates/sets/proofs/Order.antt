-- Subsets: as implications, as an order, and beside the order of numbers. Comprehension. One item.
-- Assumes nothing.
use mathlib.Core.Path.{◌≡◌, refl, sym, ◌∙◌, ap}
use mathlib.Core.Bool.{Bool, true, false, So}
use mathlib.Core.Logic.{◌↔◌, ◌≢◌, ◌⊎◌, ⊎_elim}
use Prim.Native.Nat.{ℕ, zero, suc, ◌+◌, ◌-◌, ◌*◌, ◌/◌, ◌%◌, ◌^◌, ◌≤◌, ◌<◌, min}
use native.Mathlib.Nat.{pow-suc, suc_inj, pow-succ', lt_of_le_of_lt, not-suc-le-zero, zero-mul, add_comm, add_assoc, add-mul, mul_assoc}
use native.Mathlib.Omega.{arith}
use lib.Dec.{eqb, ltb}
use lib.Pow.{pow_pos, pow-lt, pow-add, high, low}
use lib.Bits.{bit_and, and_le_r, or_lt, and_comm, and_self, and_zero_l, or_zero_l, or_zero_r}
use lib.Arith.{lt_of_le-ne, digits_lt}
use borrow.Author.Tests.{ne_eqb}
use Rattle.sets.specs.Truth.{isnt, when◌then◌else◌, bit}
use Rattle.sets.specs.Sets.{has, ◌∩◌, ◌∪◌, ◌∖◌, single, subset, proper_subset, collect}
use Rattle.sets.proofs.Truth.{by_test, either, same_test, not-So, So-not, and_iff, or_iff, isnt_iff, eqb_iff, ltb_iff, below_suc, equal_or, when-true, when-false}
use Rattle.sets.proofs.Members.{has_top, same_below, has-zero, has_first, has_rest, empty_of, has-∩, has-∪, has-∖, has_low, has_above, item_below, same_set, below_of_items, item_of}

-- ---- the operations as statements

pub ∩-iff : (a b i : ℕ) → So (has (a ∩ b) i) ↔ (So (has a i) × So (has b i))
∩-iff a b i = rw (has-∩ a b i) (and_iff (has a i) (has b i))

pub ∪-iff : (a b i : ℕ) → So (has (a ∪ b) i) ↔ (So (has a i) ⊎ So (has b i))
∪-iff a b i = rw (has-∪ a b i) (or_iff (has a i) (has b i))

pub ∖-iff : (a b i : ℕ) → So (has (a ∖ b) i) ↔ (So (has a i) × (So (has b i) → ⊥))
∖-iff a b i =
    rw (has-∖ a b i) (
      λ h. let k = (and_iff (has a i) (isnt (has b i))).0 h in (k.0, (isnt_iff (has b i)).0 k.1),
      λ k. (and_iff (has a i) (isnt (has b i))).1 (k.0, (isnt_iff (has b i)).1 k.1),
    )

-- ---- one item

eqb_suc : (i j : ℕ) → eqb i j ≡ eqb (suc i) (suc j)
eqb_suc i j =
    same_test (eqb i j) (eqb (suc i) (suc j)) (λ h. (eqb_iff (suc i) (suc j)).1 (ap suc ((eqb_iff i j).0 h)))
    (λ h. (eqb_iff i j).1 (suc_inj ((eqb_iff (suc i) (suc j)).0 h)))

pub has-single : (i j : ℕ) → has (single i) j ≡ eqb i j
unfolding single
has-single zero zero = has_first 1
has-single zero (suc j) = has_rest 1 j ∙ has-zero j ∙ sym (ne_eqb 0 (suc j) (λ e. let h : 0 ≡ suc j = e in omega arith))
has-single (suc i) zero =
    let e : 2 ^ suc i % 2 ≡ 0 = omega (arith, pow-suc 2 i) in
    has_first (2 ^ suc i) ∙ ap (λ (x : ℕ). eqb x 1) e ∙ sym (ne_eqb (suc i) 0 (λ e. let h : suc i ≡ 0 = e in omega arith))
has-single (suc i) (suc j) =
    let e : 2 ^ suc i / 2 ≡ 2 ^ i = omega (arith, pow-suc 2 i) in
    has_rest (2 ^ suc i) j ∙ ap (λ (x : ℕ). has x j) e ∙ has-single i j ∙ eqb_suc i j

pub single_iff : (i j : ℕ) → So (has (single i) j) ↔ (i ≡ j)
single_iff i j = rw (has-single i j) (eqb_iff i j)

pub single_lt : (n i : ℕ) → i < n → single i < 2 ^ n
unfolding single
single_lt n i h = pow-lt h

pub has_with : (s i : ℕ) → So (has (s ∪ single i) i)
has_with s i = (∪-iff s (single i) i).1 (◌⊎◌.inr ((single_iff i i).1 refl))

-- putting in what is there, and taking out what is not, changes nothing
pub with_present : (s i : ℕ) → So (has s i) → s ∪ single i ≡ s
with_present s i h =
    same_set (s ∪ single i) s (λ j t. ⊎_elim (λ p. p) (λ p. let e : i ≡ j = (single_iff i j).0 p in rw e at h) ((∪-iff s (single i) j).0 t))
    (λ j t. (∪-iff s (single i) j).1 (◌⊎◌.inl t))

pub without_absent : (s i : ℕ) → has s i ≡ false → s ∖ single i ≡ s
without_absent s i h =
    same_set (s ∖ single i) s (λ j t. ((∖-iff s (single i) j).0 t).0)
    (λ j t. (∖-iff s (single i) j).1 (t, λ p. let e : i ≡ j = (single_iff i j).0 p in So-not (rw e at h) t))

-- out and in again, in and out again
pub without_with : (s i : ℕ) → So (has s i) → s ∖ single i ∪ single i ≡ s
without_with s i h =
    same_set (s ∖ single i ∪ single i) s
    (λ j t. ⊎_elim (λ p. ((∖-iff s (single i) j).0 p).0) (λ p. let e : i ≡ j = (single_iff i j).0 p in rw e at h) ((∪-iff (s ∖ single i) (single i) j).0 t))
    (λ j t.
    by_test (has (single i) j) (λ p. (∪-iff (s ∖ single i) (single i) j).1 (◌⊎◌.inr p))
    (λ p. (∪-iff (s ∖ single i) (single i) j).1 (◌⊎◌.inl ((∖-iff s (single i) j).1 (t, So-not p)))))

pub with_without : (s i : ℕ) → has s i ≡ false → (s ∪ single i) ∖ single i ≡ s
with_without s i h =
    same_set ((s ∪ single i) ∖ single i) s
    (λ j t. let k = (∖-iff (s ∪ single i) (single i) j).0 t in ⊎_elim (λ p. p) (λ p. absurd (k.1 p)) ((∪-iff s (single i) j).0 k.0))
    (λ j t. (∖-iff (s ∪ single i) (single i) j).1 ((∪-iff s (single i) j).1 (◌⊎◌.inl t), λ p. let e : i ≡ j = (single_iff i j).0 p in So-not (rw e at h) t))

-- ---- bounds

pub ∩-lt : (n a b : ℕ) → b < 2 ^ n → a ∩ b < 2 ^ n
unfolding ◌∩◌
∩-lt n a b h = lt_of_le_of_lt (and_le_r a b) h

pub ∪-lt : (n a b : ℕ) → a < 2 ^ n → b < 2 ^ n → a ∪ b < 2 ^ n
unfolding ◌∪◌
∪-lt n a b ha hb = or_lt n a b ha hb

pub ∖-lt : (n a b : ℕ) → a < 2 ^ n → a ∖ b < 2 ^ n
∖-lt n a b h = below_of_items n (a ∖ b) (λ i l. not-So (has (a ∖ b) i) (λ t. So-not (has_above n a i h l) ((∖-iff a b i).0 t).0))

-- ---- subset

pub subset_iff : (a b : ℕ) → So (subset a b) ↔ ((i : ℕ) → So (has a i) → So (has b i))
unfolding subset
subset_iff a b = (
  λ h i t. let e : a ∩ b ≡ a = (eqb_iff (a ∩ b) a).0 h in ((∩-iff a b i).0 (rw e t)).1,
  λ f. (eqb_iff (a ∩ b) a).1 (same_set (a ∩ b) a (λ i t. ((∩-iff a b i).0 t).0) (λ i t. (∩-iff a b i).1 (t, f i t))),
)

pub subset_refl : (a : ℕ) → So (subset a a)
subset_refl a = (subset_iff a a).1 (λ i t. t)

pub subset_trans : (a b c : ℕ) → So (subset a b) → So (subset b c) → So (subset a c)
subset_trans a b c p q = (subset_iff a c).1 (λ i t. (subset_iff b c).0 q i ((subset_iff a b).0 p i t))

pub subset_antisym : (a b : ℕ) → So (subset a b) → So (subset b a) → a ≡ b
subset_antisym a b p q = same_set a b ((subset_iff a b).0 p) ((subset_iff b a).0 q)

pub subset-≤ : (a b : ℕ) → So (subset a b) → a ≤ b
unfolding subset ◌∩◌
subset-≤ a b h = rw ((eqb_iff (bit_and a b) a).0 h) at (and_le_r a b)

pub ∩-subset_left : (a b : ℕ) → So (subset (a ∩ b) a)
∩-subset_left a b = (subset_iff (a ∩ b) a).1 (λ i t. ((∩-iff a b i).0 t).0)

pub ∩-subset_right : (a b : ℕ) → So (subset (a ∩ b) b)
∩-subset_right a b = (subset_iff (a ∩ b) b).1 (λ i t. ((∩-iff a b i).0 t).1)

pub subset-∩ : (x a b : ℕ) → So (subset x a) → So (subset x b) → So (subset x (a ∩ b))
subset-∩ x a b p q = (subset_iff x (a ∩ b)).1 (λ i t. (∩-iff a b i).1 ((subset_iff x a).0 p i t, (subset_iff x b).0 q i t))

pub subset-∩-eq : (a b : ℕ) → So (subset a b) → a ∩ b ≡ a
unfolding subset
subset-∩-eq a b h = (eqb_iff (a ∩ b) a).0 h

pub ∩-comm : (a b : ℕ) → a ∩ b ≡ b ∩ a
unfolding ◌∩◌
∩-comm a b = and_comm a b

pub ∩-self : (a : ℕ) → a ∩ a ≡ a
unfolding ◌∩◌
∩-self a = and_self a

pub ∩-assoc : (a b c : ℕ) → a ∩ b ∩ c ≡ a ∩ (b ∩ c)
∩-assoc a b c =
    same_set (a ∩ b ∩ c) (a ∩ (b ∩ c))
    (λ i t. let k = (∩-iff (a ∩ b) c i).0 t in let l = (∩-iff a b i).0 k.0 in (∩-iff a (b ∩ c) i).1 (l.0, (∩-iff b c i).1 (l.1, k.1)))
    (λ i t. let k = (∩-iff a (b ∩ c) i).0 t in let l = (∩-iff b c i).0 k.1 in (∩-iff (a ∩ b) c i).1 ((∩-iff a b i).1 (k.0, l.0), l.1))

pub zero-∩ : (a : ℕ) → 0 ∩ a ≡ 0
unfolding ◌∩◌
zero-∩ a = and_zero_l a

pub ∪-zero : (a : ℕ) → a ∪ 0 ≡ a
unfolding ◌∪◌
∪-zero a = or_zero_r a

pub zero-∪ : (a : ℕ) → 0 ∪ a ≡ a
unfolding ◌∪◌
zero-∪ a = or_zero_l a

-- disjoint: no item is in both
pub disjoint_iff : (a b : ℕ) → (a ∩ b ≡ 0) ↔ ((i : ℕ) → So (has a i) → So (has b i) → ⊥)
disjoint_iff a b =
    (λ e i p q. So-not (has-zero i) (rw e at ((∩-iff a b i).1 (p, q))), λ f. empty_of (a ∩ b) (λ i t. let k = (∩-iff a b i).0 t in f i k.0 k.1))

-- ---- proper subset

pub proper_iff : (a b : ℕ) → So (proper_subset a b) ↔ (So (subset a b) × (a ≢ b))
unfolding proper_subset
proper_iff a b = (
  λ h. let k = (and_iff (subset a b) (isnt (eqb a b))).0 h in (k.0, λ e. (isnt_iff (eqb a b)).0 k.1 ((eqb_iff a b).1 e)),
  λ k. (and_iff (subset a b) (isnt (eqb a b))).1 (k.0, (isnt_iff (eqb a b)).1 (λ h. k.1 ((eqb_iff a b).0 h))),
)

pub proper_subset_lem : (a b : ℕ) → So (proper_subset a b) → So (subset a b)
proper_subset_lem a b h = ((proper_iff a b).0 h).0

pub proper-< : (a b : ℕ) → So (proper_subset a b) → a < b
proper-< a b h = let k = (proper_iff a b).0 h in lt_of_le-ne (subset-≤ a b k.0) k.1

pub proper_irrefl : (a : ℕ) → So (proper_subset a a) → ⊥
proper_irrefl a h = ((proper_iff a a).0 h).1 refl

pub proper_trans : (a b c : ℕ) → So (proper_subset a b) → So (proper_subset b c) → So (proper_subset a c)
proper_trans a b c p q =
    let l = proper-< a b p in
    let r = proper-< b c q in
    (proper_iff a c).1 (subset_trans a b c (proper_subset_lem a b p) (proper_subset_lem b c q), λ (e : a ≡ c). omega arith)

pub proper_subset_trans : (a b c : ℕ) → So (proper_subset a b) → So (subset b c) → So (proper_subset a c)
proper_subset_trans a b c p q =
    let l = proper-< a b p in
    let r = subset-≤ b c q in
    (proper_iff a c).1 (subset_trans a b c (proper_subset_lem a b p) q, λ (e : a ≡ c). omega arith)

pub subset_proper_trans : (a b c : ℕ) → So (subset a b) → So (proper_subset b c) → So (proper_subset a c)
subset_proper_trans a b c p q =
    let l = subset-≤ a b p in
    let r = proper-< b c q in
    (proper_iff a c).1 (subset_trans a b c p (proper_subset_lem b c q), λ (e : a ≡ c). omega arith)

-- a proper subset lacks an item of the other
pub proper_lacks : (a b : ℕ) → So (proper_subset a b) → (i : ℕ) × So (has b i) × (has a i ≡ false)
proper_lacks a b h =
    let k = (proper_iff a b).0 h in
    let w = item_of (b ∖ a) (λ (e : b ∖ a ≡ 0). k.1 (subset_antisym a b k.0 ((subset_iff b a).1 (λ i t. by_test (has a i) (λ p. p) (λ p. absurd (So-not (has-zero i) (rw e at ((∖-iff b a i).1 (t, So-not p))))))))) in
    let l = (∖-iff b a w.0).0 w.1 in
    (w.0, l.0, not-So (has a w.0) l.1)

-- ---- comprehension

bit_lt : (t : Bool) → bit t < 2
unfolding bit
bit_lt true = omega arith
bit_lt false = omega arith

bit_test : (t : Bool) → eqb (bit t % 2) 1 ≡ t
unfolding bit
bit_test true = refl
bit_test false = refl

pub collect_lt : (n : ℕ) (f : ℕ → Bool) → collect n f < 2 ^ n
unfolding collect
collect_lt zero f = omega arith
collect_lt (suc n) f = rw (pow-succ' 2 n) (digits_lt (bit_lt (f n)) (collect_lt n f))

pub collect-zero : (f : ℕ → Bool) → collect 0 f ≡ 0
unfolding collect
collect-zero f = refl

pub has-collect : (n : ℕ) (f : ℕ → Bool) (i : ℕ) → i < n → has (collect n f) i ≡ f i
unfolding collect
has-collect zero f i h = absurd (not-suc-le-zero h)
has-collect (suc n) f i h =
    let rest : has (collect (suc n) f % 2 ^ n) i ≡ has (collect n f) i = ap (λ (x : ℕ). has x i) (low (bit (f n)) n (collect_lt n f)) in
    below_suc i n h
    (λ (e : i ≡ n). rw e (has_top (collect (suc n) f) n ∙ ap (λ (x : ℕ). eqb (x % 2) 1) (high (bit (f n)) n (collect_lt n f)) ∙ bit_test (f n)))
    (λ l. sym (has_low n (collect (suc n) f) i l) ∙ rest ∙ has-collect n f i l)

pub collect_iff : (n : ℕ) (f : ℕ → Bool) (i : ℕ) → So (has (collect n f) i) ↔ ((i < n) × So (f i))
collect_iff n f i =
    (λ t. let l = item_below n (collect n f) i (collect_lt n f) t in (l, rw (has-collect n f i l) at t), λ k. rw (has-collect n f i k.0) k.1)

-- the items below c
pub first_iff : (n c i : ℕ) → c ≤ n → So (has (collect n (λ i. ltb i c)) i) ↔ (i < c)
first_iff n c i l =
    (λ t. (ltb_iff i c).0 ((collect_iff n (λ i. ltb i c) i).0 t).1, λ b. (collect_iff n (λ i. ltb i c) i).1 (omega arith, (ltb_iff i c).1 b))

pub collect-none : (n : ℕ) (f : ℕ → Bool) → ((i : ℕ) → i < n → f i ≡ false) → collect n f ≡ 0
collect-none n f h = empty_of (collect n f) (λ i t. let a = (collect_iff n f i).0 t in So-not (h i a.0) a.1)

pub collect_same : (n : ℕ) (f g : ℕ → Bool) → ((i : ℕ) → i < n → f i ≡ g i) → collect n f ≡ collect n g
collect_same n f g h =
    same_below n (collect n f) (collect n g) (collect_lt n f) (collect_lt n g) (λ i l. has-collect n f i l ∙ h i l ∙ sym (has-collect n g i l))

-- a set is the set of its own items
pub collect-has : (n s : ℕ) → s < 2 ^ n → collect n (has s) ≡ s
collect-has n s h = same_below n (collect n (has s)) s (collect_lt n (has s)) h (λ i l. has-collect n (has s) i l)

pub collect-all : (n : ℕ) → collect n (λ i. true) ≡ 2 ^ n - 1
unfolding collect bit
collect-all zero = refl
collect-all (suc n) = rw (collect-all n) (omega (arith, pow-suc 2 n, pow_pos n))

-- one index more
pub collect_more : (n s : ℕ) (f : ℕ → Bool) → s ≡ collect n f → (when f n then s ∪ single n else s) ≡ collect (n + 1) f
collect_more n s f e =
    same_set (when f n then s ∪ single n else s) (collect (n + 1) f)
    (λ i t.
    by_test (f n)
    (λ h.
    ⊎_elim (λ x. old i (rw e at x)) (λ x. let d : n ≡ i = (single_iff n i).0 x in (collect_iff (n + 1) f i).1 (omega arith, rw d at h))
    ((∪-iff s (single n) i).0 (rw (when-true (f n) (s ∪ single n) s h) at t)))
    (λ h. old i (rw (when-false (f n) (s ∪ single n) s h, e) at t)))
    (λ i t.
    let a = (collect_iff (n + 1) f i).0 t in
    equal_or i n
    (λ (d : i ≡ n). let h : So (f n) = rw d at a.1 in rw (when-true (f n) (s ∪ single n) s h) ((∪-iff s (single n) i).1 (◌⊎◌.inr ((single_iff n i).1 (sym d)))))
    (λ d.
    let x : So (has s i) = rw e ((collect_iff n f i).1 (omega arith, a.1)) in
    by_test (f n) (λ h. rw (when-true (f n) (s ∪ single n) s h) ((∪-iff s (single n) i).1 (◌⊎◌.inl x))) (λ h. rw (when-false (f n) (s ∪ single n) s h) x)))
  where
    old : (i : ℕ) → So (has (collect n f) i) → So (has (collect (n + 1) f) i)
    old i x = let a = (collect_iff n f i).0 x in (collect_iff (n + 1) f i).1 (omega (arith, a.0), a.1)

-- the same gathered in one word
pub collect-bit : (n s : ℕ) (f : ℕ → Bool) → n < 64 → s ≡ collect n f → (when f n then s ∪ single (n % 64) else s) ≡ collect (n + 1) f
collect-bit n s f l e = let d : n % 64 ≡ n = omega arith in rw d (collect_more n s f e)

-- the first k, and the rest from k on
pub collect_parts : (k n : ℕ) (f : ℕ → Bool) → collect (n - k) (λ i. f (k + i)) * 2 ^ k + collect (min n k) f ≡ collect n f
unfolding collect
collect_parts k zero f =
    let a : 0 - k ≡ 0 = omega arith in
    let b : min 0 k ≡ 0 = omega arith in
    rw (a, b) (omega (arith, zero-mul (2 ^ k)))
collect_parts k (suc n) f =
    either n k
    (λ l.
    let a : suc n - k ≡ 0 = omega arith in
    let b : min (suc n) k ≡ suc n = omega arith in
    rw (a, b) (omega (arith, zero-mul (2 ^ k))))
    (λ l.
    let a : suc n - k ≡ suc (n - k) = omega arith in
    let b : min (suc n) k ≡ k = omega arith in
    let d : min n k ≡ k = omega arith in
    let e : k + (n - k) ≡ n = omega arith in
    let p : 2 ^ (n - k) * 2 ^ k ≡ 2 ^ n = sym (pow-add 2 (n - k) k) ∙ ap (λ (x : ℕ). 2 ^ x) (add_comm (n - k) k ∙ e) in
    let h = rw d at (collect_parts k n f) in
    rw (a, b, e)
    (ap (λ (x : ℕ). x + collect k f) (add-mul (bit (f n) * 2 ^ (n - k)) (collect (n - k) (λ i. f (k + i))) (2 ^ k) ∙ ap (λ (x : ℕ). x + collect (n - k) (λ i. f (k + i)) * 2 ^ k) (mul_assoc (bit (f n)) (2 ^ (n - k)) (2 ^ k) ∙ ap (λ (x : ℕ). bit (f n) * x) p))
    ∙ add_assoc (bit (f n) * 2 ^ n) (collect (n - k) (λ i. f (k + i)) * 2 ^ k) (collect k f)
    ∙ ap (λ (x : ℕ). bit (f n) * 2 ^ n + x) h))

-- an item put in where a test holds: what an insertion below the width gives, and what leaving it out does
pub put_in : (t : Bool) (r s i w : ℕ) → i < w → So t → r ≡ (when ltb i w then s ∪ single i else s) → r ≡ (when t then s ∪ single i else s)
put_in t r s i w l h e = e ∙ when-true (ltb i w) (s ∪ single i) s ((ltb_iff i w).1 l) ∙ sym (when-true t (s ∪ single i) s h)

pub left_out : (t : Bool) (s i : ℕ) → t ≡ false → s ≡ (when t then s ∪ single i else s)
left_out t s i h = sym (when-false t (s ∪ single i) s h)
