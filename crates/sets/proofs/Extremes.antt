-- The lowest and the highest item of a set: what they are, when there is none, and where to find them in a list of words.
-- Assumes nothing.
use mathlib.Core.Path.{◌≡◌, refl, sym, ◌∙◌, ap, ap₂, subst}
use mathlib.Core.Bool.{Bool, true, false, So}
use mathlib.Core.List.{List, [], ◌∷◌}
use mathlib.Core.Logic.{◌↔◌, ◌≢◌, ◌⊎◌, ⊎_elim}
use Prim.Native.Nat.{ℕ, zero, suc, ◌+◌, ◌-◌, ◌*◌, ◌/◌, ◌%◌, ◌^◌, ◌≤◌, ◌<◌}
use native.Mathlib.Nat.{not-suc-le-zero, le_step, lt-suc_self, add-zero, add-suc, add_assoc, add_comm, mul-suc, zero-add, pow-suc, pos_of_ne-zero, one-mul, le-div_iff_mul-le, div-lt_iff_lt-mul, pow-succ'}
use native.Mathlib.Omega.{arith}
use lib.Dec.{eqb}
use borrow.Author.Tests.{ne_eqb}
use lib.Pow.{pow_pos, high, low}
use lib.Count.{count_trailing_zeros, count_leading_zeros, leading_top}
use lib.ListN.{length}
use Rattle.std.specs.Prelude.{Option, Some, None}
use Rattle.sets.specs.Truth.{when◌then◌else◌}
use Rattle.sets.specs.Sets.{has}
use Rattle.sets.specs.Words.{value}
use Rattle.sets.specs.Extremes.{◌otherwise◌, item_at, lowest, highest, LowestItem, HighestItem}
use Rattle.sets.proofs.Truth.{by_test, So-not, eqb_iff, either, equal_or, below_suc, when-true, when-false}
use Rattle.sets.proofs.Members.{digit, has-zero, has_first, has_rest, has_low, has_above, item_below, empty_of}
use Rattle.sets.proofs.Words.{Words, has_shift}

-- ---- one step

item_at_lem : (s n : ℕ) → So (has s n) → item_at s n ≡ Some n
unfolding item_at
item_at_lem s n h = when-true (has s n) (Some n) None h

no_item : (s n : ℕ) → has s n ≡ false → item_at s n ≡ None
unfolding item_at
no_item s n h = when-false (has s n) (Some n) None h

or_else_nothing : (a : Option ℕ) → (a otherwise None) ≡ a
unfolding ◌otherwise◌
or_else_nothing (Some i) = refl
or_else_nothing None = refl

nothing_or_else : (a : Option ℕ) → (None otherwise a) ≡ a
unfolding ◌otherwise◌
nothing_or_else a = refl

at_or_else : (i : ℕ) (a : Option ℕ) → (Some i otherwise a) ≡ Some i
unfolding ◌otherwise◌
at_or_else i a = refl

or_else_assoc : (a b c : Option ℕ) → (a otherwise b otherwise c) ≡ (a otherwise (b otherwise c))
unfolding ◌otherwise◌
or_else_assoc (Some i) b c = refl
or_else_assoc None b c = refl

pub at_same : (i j : ℕ) → ◌≡◌ {A = Option ℕ} (Some i) (Some j) → i ≡ j
at_same i j e = cc

pub not_nothing : (i : ℕ) → ◌≡◌ {A = Option ℕ} (Some i) None → ⊥
not_nothing i e = let z : ◌≡◌ {A = ℕ} 0 1 = cc in omega arith

-- ---- from the items to the answer

pub lowest-none : (n s : ℕ) → ((i : ℕ) → i < n → has s i ≡ false) → lowest n s ≡ None
unfolding lowest
lowest-none zero s h = refl
lowest-none (suc n) s h =
    ap₂ ◌otherwise◌ (lowest-none n s (λ i l. h i (le_step l))) (no_item s n (h n (lt-suc_self n))) ∙ or_else_nothing None

pub highest-none : (n s : ℕ) → ((i : ℕ) → i < n → has s i ≡ false) → highest n s ≡ None
unfolding highest
highest-none zero s h = refl
highest-none (suc n) s h =
    ap₂ ◌otherwise◌ (no_item s n (h n (lt-suc_self n))) (highest-none n s (λ i l. h i (le_step l))) ∙ or_else_nothing None

pub lowest_of : (n s i : ℕ) → i < n → So (has s i) → ((j : ℕ) → j < i → has s j ≡ false) → lowest n s ≡ Some i
unfolding lowest
lowest_of zero s i l t f = absurd (not-suc-le-zero l)
lowest_of (suc n) s i l t f =
    below_suc i n l
    (λ (e : i ≡ n). rw (← e) (ap₂ ◌otherwise◌ (lowest-none i s f) (item_at_lem s i t) ∙ nothing_or_else (Some i)))
    (λ b. ap (λ (x : Option ℕ). x otherwise item_at s n) (lowest_of n s i b t f) ∙ at_or_else i (item_at s n))

pub highest_of : (n s i : ℕ) → i < n → So (has s i) → ((j : ℕ) → i < j → j < n → has s j ≡ false) → highest n s ≡ Some i
unfolding highest
highest_of zero s i l t f = absurd (not-suc-le-zero l)
highest_of (suc n) s i l t f =
    below_suc i n l
    (λ (e : i ≡ n). rw (← e) (ap (λ (x : Option ℕ). x otherwise highest i s) (item_at_lem s i t) ∙ at_or_else i (highest i s)))
    (λ b. ap (λ (x : Option ℕ). x otherwise highest n s) (no_item s n (f n b (lt-suc_self n))) ∙ nothing_or_else (highest n s) ∙ highest_of n s i b t (λ j p q. f j p (le_step q)))

-- sets that have the same items below n have the same extremes there
item_same : (s t n : ℕ) → has s n ≡ has t n → item_at s n ≡ item_at t n
unfolding item_at
item_same s t n e = rw e refl

lowest_same : (n s t : ℕ) → ((i : ℕ) → i < n → has s i ≡ has t i) → lowest n s ≡ lowest n t
unfolding lowest
lowest_same zero s t h = refl
lowest_same (suc n) s t h = ap₂ ◌otherwise◌ (lowest_same n s t (λ i l. h i (le_step l))) (item_same s t n (h n (lt-suc_self n)))

highest_same : (n s t : ℕ) → ((i : ℕ) → i < n → has s i ≡ has t i) → highest n s ≡ highest n t
unfolding highest
highest_same zero s t h = refl
highest_same (suc n) s t h = ap₂ ◌otherwise◌ (item_same s t n (h n (lt-suc_self n))) (highest_same n s t (λ i l. h i (le_step l)))

-- ---- from the answer to the items

-- i is an item of s below n, and none is lower
abbrev pub IsLowest : ℕ → ℕ → ℕ → Type 0
IsLowest n s i = (i < n) × So (has s i) × ((j : ℕ) → j < i → has s j ≡ false)

-- i is an item of s below n, and none below n is higher
abbrev pub IsHighest : ℕ → ℕ → ℕ → Type 0
IsHighest n s i = (i < n) × So (has s i) × ((j : ℕ) → i < j → j < n → has s j ≡ false)

least : (n s : ℕ) → ((i : ℕ) × IsLowest n s i) ⊎ ((i : ℕ) → i < n → has s i ≡ false)
least zero s = ◌⊎◌.inr (λ i l. absurd (not-suc-le-zero l))
least (suc n) s =
    ⊎_elim (λ w. ◌⊎◌.inl (w.0, (le_step w.1.0, w.1.1, w.1.2)))
    (λ f.
    by_test (has s n) (λ t. ◌⊎◌.inl (n, (lt-suc_self n, t, f)))
    (λ t. ◌⊎◌.inr (λ i l. below_suc i n l (λ (e : i ≡ n). rw e t) (f i))))
    (least n s)

greatest : (n s : ℕ) → ((i : ℕ) × IsHighest n s i) ⊎ ((i : ℕ) → i < n → has s i ≡ false)
greatest zero s = ◌⊎◌.inr (λ i l. absurd (not-suc-le-zero l))
greatest (suc n) s =
    by_test (has s n) (λ t. ◌⊎◌.inl (n, (lt-suc_self n, t, λ j p q. absurd (omega arith))))
    (λ t.
    ⊎_elim (λ w. ◌⊎◌.inl (w.0, (le_step w.1.0, w.1.1, λ j p q. below_suc j n q (λ (e : j ≡ n). rw e t) (w.1.2 j p))))
    (λ f. ◌⊎◌.inr (λ i l. below_suc i n l (λ (e : i ≡ n). rw e t) (f i)))
    (greatest n s))

pub lowest_iff : (n s i : ℕ) → (lowest n s ≡ Some i) ↔ IsLowest n s i
lowest_iff n s i = (
  λ e.
      ⊎_elim (λ w. let d : w.0 ≡ i = at_same w.0 i (sym (lowest_of n s w.0 w.1.0 w.1.1 w.1.2) ∙ e) in subst (IsLowest n s) d w.1)
      (λ f. absurd (not_nothing i (sym e ∙ lowest-none n s f))) (least n s),
  λ k. lowest_of n s i k.0 k.1 k.2,
)

pub highest_iff : (n s i : ℕ) → (highest n s ≡ Some i) ↔ IsHighest n s i
highest_iff n s i = (
  λ e.
      ⊎_elim (λ w. let d : w.0 ≡ i = at_same w.0 i (sym (highest_of n s w.0 w.1.0 w.1.1 w.1.2) ∙ e) in subst (IsHighest n s) d w.1)
      (λ f. absurd (not_nothing i (sym e ∙ highest-none n s f))) (greatest n s),
  λ k. highest_of n s i k.0 k.1 k.2,
)

-- nothing is the answer for the empty set and for no other of the width
empty_below : (n s : ℕ) → s < 2 ^ n → ((i : ℕ) → i < n → has s i ≡ false) → s ≡ 0
empty_below n s l f = empty_of s (λ i t. So-not (f i (item_below n s i l t)) t)

pub lowest-none_iff : (n s : ℕ) → s < 2 ^ n → (lowest n s ≡ None) ↔ (s ≡ 0)
lowest-none_iff n s l = (
  λ e. ⊎_elim (λ w. absurd (not_nothing w.0 (sym ((lowest_iff n s w.0).1 w.1) ∙ e))) (empty_below n s l) (least n s),
  λ (e : s ≡ 0). rw e (lowest-none n 0 (λ i h. has-zero i)),
)

pub highest-none_iff : (n s : ℕ) → s < 2 ^ n → (highest n s ≡ None) ↔ (s ≡ 0)
highest-none_iff n s l = (
  λ e. ⊎_elim (λ w. absurd (not_nothing w.0 (sym ((highest_iff n s w.0).1 w.1) ∙ e))) (empty_below n s l) (greatest n s),
  λ (e : s ≡ 0). rw e (highest-none n 0 (λ i h. has-zero i)),
)

-- a set of the width is empty, or has a lowest and a highest item
pub lowest-or {ℓ} : {C : Type ℓ} (n s : ℕ) → s < 2 ^ n → (s ≡ 0 → lowest n s ≡ None → C) → ((i : ℕ) → lowest n s ≡ Some i → IsLowest n s i → C) → C
lowest-or n s l z o =
    ⊎_elim (λ w. o w.0 ((lowest_iff n s w.0).1 w.1) w.1) (λ f. z (empty_below n s l f) (lowest-none n s f)) (least n s)

pub highest-or {ℓ} : {C : Type ℓ} (n s : ℕ) → s < 2 ^ n → (s ≡ 0 → highest n s ≡ None → C) → ((i : ℕ) → highest n s ≡ Some i → IsHighest n s i → C) → C
highest-or n s l z o =
    ⊎_elim (λ w. o w.0 ((highest_iff n s w.0).1 w.1) w.1) (λ f. z (empty_below n s l f) (highest-none n s f)) (greatest n s)

-- of a set of the width, no item stands beyond an extreme one
pub lowest-≤ : (n s i j : ℕ) → lowest n s ≡ Some i → So (has s j) → i ≤ j
lowest-≤ n s i j e t = either j i (λ l. absurd (So-not (((lowest_iff n s i).0 e).2 j l) t)) (λ l. l)

pub highest-≥ : (n s i j : ℕ) → s < 2 ^ n → highest n s ≡ Some i → So (has s j) → j ≤ i
highest-≥ n s i j l e t = either i j (λ h. absurd (So-not (((highest_iff n s i).0 e).2 j h (item_below n s j l t)) t)) (λ h. h)

-- so an item that is found is the lowest, or the highest, in plain words; and one is found where the set is not empty
pub lowest_known : (n s i : ℕ) → lowest n s ≡ Some i → LowestItem n s i
lowest_known n s i e = let a = (lowest_iff n s i).0 e in record { there = a.1; small = a.0; least = λ j t. lowest-≤ n s i j e t }

pub highest_known : (n s i : ℕ) → s < 2 ^ n → highest n s ≡ Some i → HighestItem n s i
highest_known n s i b e = let a = (highest_iff n s i).0 e in record { there = a.1; small = a.0; most = λ j t. highest-≥ n s i j b e t }

pub lowest_some : (n s : ℕ) → s < 2 ^ n → s ≢ 0 → lowest n s ≡ None → ⊥
lowest_some n s b d e = d ((lowest-none_iff n s b).0 e)

pub highest_some : (n s : ℕ) → s < 2 ^ n → s ≢ 0 → highest n s ≡ None → ⊥
highest_some n s b d e = d ((highest-none_iff n s b).0 e)

-- ---- two parts of a set: w below k, and X above

-- an item k places further up
abbrev moved : ℕ → Option ℕ → Option ℕ
moved k (Some i) = Some (k + i)
moved k None = None

moved_or_else : (k : ℕ) (a b : Option ℕ) → moved k (a otherwise b) ≡ (moved k a otherwise moved k b)
unfolding ◌otherwise◌
moved_or_else k (Some i) b = refl
moved_or_else k None b = refl

moved-moved : (j k : ℕ) (a : Option ℕ) → moved j (moved k a) ≡ moved (j + k) a
moved-moved j k (Some i) = ap (λ (k : ℕ). Some k) (sym (add_assoc j k i))
moved-moved j k None = refl

moved_none : (a : Option ℕ) → moved 0 a ≡ a
moved_none (Some i) = ap (λ (k : ℕ). Some k) (zero-add i)
moved_none None = refl

module _ (k X w : ℕ) (h : w < 2 ^ k) where
  has_lower : (i : ℕ) → i < k → has (X * 2 ^ k + w) i ≡ has w i
  has_lower i l = sym (has_low k (X * 2 ^ k + w) i l) ∙ ap (λ (x : ℕ). has x i) (low X k h)

  has_upper : (i : ℕ) → has (X * 2 ^ k + w) (k + i) ≡ has X i
  has_upper i = sym (has_shift (X * 2 ^ k + w) k i) ∙ ap (λ (x : ℕ). has x i) (high X k h)

  upper_item : (i : ℕ) → item_at (X * 2 ^ k + w) (k + i) ≡ moved k (item_at X i)
  upper_item i =
      by_test (has X i)
      (λ t. item_at_lem (X * 2 ^ k + w) (k + i) (has_upper i ∙ t) ∙ ap (moved k) (sym (item_at_lem X i t)))
      (λ t. no_item (X * 2 ^ k + w) (k + i) (has_upper i ∙ t) ∙ ap (moved k) (sym (no_item X i t)))

  lowest_parts : (n : ℕ) → lowest (k + n) (X * 2 ^ k + w) ≡ (lowest k w otherwise moved k (lowest n X))
  unfolding lowest
  lowest_parts zero = rw (add-zero k) (lowest_same k (X * 2 ^ k + w) w has_lower ∙ sym (or_else_nothing (lowest k w)))
  lowest_parts (suc n) =
      rw (add-suc k n)
      (ap₂ ◌otherwise◌ (lowest_parts n) (upper_item n) ∙ or_else_assoc (lowest k w) (moved k (lowest n X)) (moved k (item_at X n))
      ∙ ap (λ (x : Option ℕ). lowest k w otherwise x) (sym (moved_or_else k (lowest n X) (item_at X n))))

  highest_parts : (n : ℕ) → highest (k + n) (X * 2 ^ k + w) ≡ (moved k (highest n X) otherwise highest k w)
  unfolding highest
  highest_parts zero = rw (add-zero k) (highest_same k (X * 2 ^ k + w) w has_lower ∙ sym (nothing_or_else (highest k w)))
  highest_parts (suc n) =
      rw (add-suc k n)
      (ap₂ ◌otherwise◌ (upper_item n) (highest_parts n) ∙ sym (or_else_assoc (moved k (item_at X n)) (moved k (highest n X)) (highest k w))
      ∙ ap (λ (x : Option ℕ). x otherwise highest k w) (sym (moved_or_else k (item_at X n) (highest n X))))

-- ---- one word

-- the zeros below the lowest set digit
trailing_is : (k w : ℕ) → w ≢ 0 → w < 2 ^ k → IsLowest k w (count_trailing_zeros k w)
unfolding count_trailing_zeros
trailing_is zero w d h = absurd (d (omega arith))
trailing_is (suc k) w d h =
    digit (w % 2) (omega arith)
    (λ (e : w % 2 ≡ 0).
    let r = trailing_is k (w / 2) (λ (z : w / 2 ≡ 0). d (omega arith)) (omega (arith, pow-suc 2 k)) in
    rw e (omega (arith, r.0), has_rest w (count_trailing_zeros k (w / 2)) ∙ r.1, below e r.2))
    (λ (e : w % 2 ≡ 1). rw e (omega arith, has_first w ∙ ap (λ (x : ℕ). eqb x 1) e, λ j l. absurd (not-suc-le-zero l)))
  where
    below : {t : ℕ} → w % 2 ≡ 0 → ((j : ℕ) → j < t → has (w / 2) j ≡ false) → (j : ℕ) → j < suc t → has w j ≡ false
    below e f zero l = has_first w ∙ ap (λ (x : ℕ). eqb x 1) e
    below e f (suc j) l = has_rest w j ∙ f j (omega arith)

pub lowest-word : (k w : ℕ) → w < 2 ^ k → lowest k w ≡ (when eqb w 0 then None else Some (count_trailing_zeros k w))
lowest-word k w h =
    equal_or w 0
    (λ e. (lowest-none_iff k w h).1 e ∙ sym (when-true (eqb w 0) None (Some (count_trailing_zeros k w)) ((eqb_iff w 0).1 e)))
    (λ d. (lowest_iff k w (count_trailing_zeros k w)).1 (trailing_is k w d h) ∙ sym (when-false (eqb w 0) None (Some (count_trailing_zeros k w)) (ne_eqb w 0 d)))

top_digit : (j w : ℕ) → 2 ^ j ≤ w → w < 2 ^ suc j → w / 2 ^ j ≡ 1
top_digit j w l h =
    let a : 1 ≤ w / 2 ^ j = (le-div_iff_mul-le (pow_pos j)).1 (rw (one-mul (2 ^ j)) l) in
    let b : w / 2 ^ j < 2 = (div-lt_iff_lt-mul (pow_pos j)).1 (rw (← (pow-succ' 2 j)) h) in
    omega arith

-- the place of the highest set digit
leading_is : (k w : ℕ) → w ≢ 0 → w < 2 ^ k → IsHighest k w (k - 1 - count_leading_zeros k w)
unfolding has
leading_is k w d h =
    let t = leading_top k w (pos_of_ne-zero d) h in
    let j : k - 1 - count_leading_zeros k w ≡ t.0 = omega (arith, t.1) in
    rw j (omega (arith, t.1), rw (top_digit t.0 w t.2 t.3) refl, λ i p q. has_above (suc t.0) w i t.3 p)

pub leading_lt : (k w : ℕ) → w ≢ 0 → w < 2 ^ k → count_leading_zeros k w < k
leading_lt k w d h = let t = leading_top k w (pos_of_ne-zero d) h in omega (arith, t.1)

pub highest-word : (k w : ℕ) → w < 2 ^ k → highest k w ≡ (when eqb w 0 then None else Some (k - 1 - count_leading_zeros k w))
highest-word k w h =
    equal_or w 0
    (λ e. (highest-none_iff k w h).1 e ∙ sym (when-true (eqb w 0) None (Some (k - 1 - count_leading_zeros k w)) ((eqb_iff w 0).1 e)))
    (λ d. (highest_iff k w (k - 1 - count_leading_zeros k w)).1 (leading_is k w d h) ∙ sym (when-false (eqb w 0) None (Some (k - 1 - count_leading_zeros k w)) (ne_eqb w 0 d)))

-- ---- a list of words, the first of which stands at `at`

abbrev pub lowest_from : ℕ → List ℕ → Option ℕ
lowest_from at [] = None
lowest_from at (w ∷ ws) = when eqb w 0 then lowest_from (at + 64) ws else Some (at + count_trailing_zeros 64 w)

abbrev pub highest_from : ℕ → Option ℕ → List ℕ → Option ℕ
highest_from at below [] = below
highest_from at below (w ∷ ws) = highest_from (at + 64) (when eqb w 0 then below else Some (at + (63 - count_leading_zeros 64 w))) ws

in_word : (at i : ℕ) (a : Option ℕ) (t : Bool) → (moved at (when t then None else Some i) otherwise a) ≡ (when t then a else Some (at + i))
unfolding ◌otherwise◌ when◌then◌else◌
in_word at i a true = refl
in_word at i a false = refl

wider : (n : ℕ) → 64 * suc n ≡ 64 + 64 * n
wider n = mul-suc 64 n ∙ add_comm (64 * n) 64

lowest-from : (at : ℕ) (ws : List ℕ) → Words ws → lowest_from at ws ≡ moved at (lowest (64 * length ws) (value ws))
unfolding value lowest
lowest-from at [] h = refl
lowest-from at (w ∷ ws) h =
    let rest : Option ℕ = lowest (64 * length ws) (value ws) in
    let whole : lowest (64 * suc (length ws)) (value ws * 2 ^ 64 + w) ≡ (lowest 64 w otherwise moved 64 rest) =
    ap (λ (n : ℕ). lowest n (value ws * 2 ^ 64 + w)) (wider (length ws)) ∙ lowest_parts 64 (value ws) w (h 0) (64 * length ws) in
    sym (in_word at (count_trailing_zeros 64 w) (lowest_from (at + 64) ws) (eqb w 0))
    ∙ ap₂ (λ (a b : Option ℕ). moved at a otherwise b) (sym (lowest-word 64 w (h 0))) (lowest-from (at + 64) ws (λ i. h (suc i)) ∙ sym (moved-moved at 64 rest))
    ∙ sym (moved_or_else at (lowest 64 w) (moved 64 rest)) ∙ ap (moved at) (sym whole)

highest-from : (at : ℕ) (below : Option ℕ) (ws : List ℕ) → Words ws → highest_from at below ws ≡ (moved at (highest (64 * length ws) (value ws)) otherwise below)
unfolding value highest
highest-from at below [] h = sym (nothing_or_else below)
highest-from at below (w ∷ ws) h =
    let rest : Option ℕ = highest (64 * length ws) (value ws) in
    let top : ℕ = 63 - count_leading_zeros 64 w in
    let whole : highest (64 * suc (length ws)) (value ws * 2 ^ 64 + w) ≡ (moved 64 rest otherwise highest 64 w) =
    ap (λ (n : ℕ). highest n (value ws * 2 ^ 64 + w)) (wider (length ws)) ∙ highest_parts 64 (value ws) w (h 0) (64 * length ws) in
    highest-from (at + 64) (when eqb w 0 then below else Some (at + top)) ws (λ i. h (suc i))
    ∙ ap₂ ◌otherwise◌ (sym (moved-moved at 64 rest)) (sym (in_word at top below (eqb w 0)) ∙ ap (λ (a : Option ℕ). moved at a otherwise below) (sym (highest-word 64 w (h 0))))
    ∙ sym (or_else_assoc (moved at (moved 64 rest)) (moved at (highest 64 w)) below)
    ∙ ap (λ (a : Option ℕ). a otherwise below) (sym (moved_or_else at (moved 64 rest) (highest 64 w)) ∙ ap (moved at) (sym whole))

pub value-lowest : (ws : List ℕ) → Words ws → lowest_from 0 ws ≡ lowest (64 * length ws) (value ws)
value-lowest ws h = lowest-from 0 ws h ∙ moved_none (lowest (64 * length ws) (value ws))

pub value-highest : (ws : List ℕ) → Words ws → highest_from 0 None ws ≡ highest (64 * length ws) (value ws)
value-highest ws h =
    highest-from 0 None ws h ∙ or_else_nothing (moved 0 (highest (64 * length ws) (value ws))) ∙ moved_none (highest (64 * length ws) (value ws))
