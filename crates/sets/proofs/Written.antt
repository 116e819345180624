-- The laws of Words, Compare, Below and Extremes as the code writes them out, for any number n of words. A method cites one at its own n.
-- Assumes nothing.
use mathlib.Core.Path.{◌≡◌, refl, sym, ◌∙◌, ap}
use mathlib.Core.Bool.{Bool, true, false, So, ◌&&◌, ◌||◌, not}
use mathlib.Core.List.{List}
use Prim.Native.Nat.{ℕ, ◌+◌, ◌-◌, ◌*◌, ◌/◌, ◌%◌, ◌^◌, ◌≤◌, ◌<◌, min}
use native.Mathlib.Nat.{one-mul, zero-mul, mod-eq_of_lt, mul-mod_left}
use native.Mathlib.Omega.{arith}
use borrow.Author.Rules.{rules}
use borrow.Author.Tests.{lt-ltb, le-ltb, ltb-false, eq-eqb, ne_eqb}
use mir.Syntax.{w64}
use mir.Val.{Fits, bool_byte}
use lib.Dec.{eqb, ltb}
use lib.Pointwise.{pointwise}
use lib.Pow.{pow_pos, pow-lt, shl-shr}
use Rattle.std.specs.Cmp.Lexicographic.{same_text, other_text}
use lib.Bits.{bit_and, bit_or, and_mask, or_zero_r}
use lib.ListN.{length, get_or, get_or-eq_default}
use Rattle.sets.specs.Truth.{◌and◌, ◌or◌, isnt, when◌then◌else◌}
use Rattle.sets.specs.Sets.{has, ◌∩◌, ◌∪◌, ◌∖◌, single, subset, proper_subset}
use Rattle.sets.specs.Words.{value, word}
use Rattle.sets.proofs.Truth.{by_test, either, when-true, when-false}
use Rattle.sets.proofs.Members.{same_below, has-zero, has-∩, has-∪, has-∖, has_low, has_above}
use Rattle.sets.proofs.Order.{has-single, single_lt, ∪-zero, without_absent}
use Rattle.sets.proofs.Words.{Words, value_lt, value_same, word_lt, word-zero, word_value, value_words, has_shift, has_word, ∖-zero, masked, and_turned}
use Rattle.sets.proofs.Compare.{test_same, ∖-none}

-- a list of n words
abbrev pub Arr : ℕ → List ℕ → Type 0
Arr n ws = (length ws ≡ n) × Words ws

pub fits_lt : {n : ℕ} → Fits w64 n → n < 2 ^ 64
fits_lt f = f.fits

-- `search words` finds that a struct's list is an `Arr`, from what owning the struct says
pub ruleset words = (rules, fits_lt)

-- ---- one set

module _ (n : ℕ) (ws : List ℕ) (a : Arr n ws) where
  pub arr_lt : value ws < 2 ^ (64 * n)
  arr_lt = rw a.0 at (value_lt ws a.1)

  pub word_in : (j : ℕ) → get_or ws j 0 ≡ word (value ws) j
  word_in j = sym (word_value ws j a.1)

  pub word_past : (j : ℕ) → n ≤ j → 0 ≡ word (value ws) j
  word_past j l = sym (get_or-eq_default ws 0 (rw a.0 l)) ∙ word_in j

-- ---- two sets

-- the words tell whether two sets are equal
pub same_words_test : (xs ys : List ℕ) → Words xs → Words ys → length xs ≡ length ys → pointwise eqb xs ys ≡ eqb (value xs) (value ys)
same_words_test xs ys a b e =
    by_test (pointwise eqb xs ys)
    (λ (t : So (pointwise eqb xs ys)). t ∙ sym (eq-eqb (value xs) (value ys) (ap value (same_text xs ys (sym t)))))
    (λ (f : pointwise eqb xs ys ≡ false). f ∙ sym (ne_eqb (value xs) (value ys) (λ v. other_text xs ys (sym f) (value_same xs ys a b e v))))

-- ---- one item

-- the test of its bit, in a word and in a set
pub test_item : (w b : ℕ) → eqb (bit_and (w / 2 ^ b) 1) 1 ≡ has w b
unfolding has
test_item w b = ap (λ (x : ℕ). eqb x 1) (and_mask (w / 2 ^ b) 1)

pub test_bit : (s i : ℕ) → eqb (bit_and (word s (i / 64) / 2 ^ (i % 64)) 1) 1 ≡ has s i
test_bit s i = test_item (word s (i / 64)) (i % 64) ∙ has_word s i

shifted_one : (b : ℕ) → b < 64 → 1 * 2 ^ b % 2 ^ 64 ≡ 2 ^ b
shifted_one b h = ap (λ (x : ℕ). x % 2 ^ 64) (one-mul (2 ^ b)) ∙ mod-eq_of_lt (pow-lt h)

-- its bit put into a word where a test holds
pub bit_in : (w i : ℕ) (t : Bool) → i < 64 → bit_or w (bool_byte t * 2 ^ i % 2 ^ 64) ≡ (when t then w ∪ single i else w)
unfolding ◌∪◌ single when◌then◌else◌
bit_in w i true h = ap (bit_or w) (shifted_one i h)
bit_in w i false h = rw (zero-mul (2 ^ i)) (or_zero_r w)

-- the items of what a word is made of: both of two, either, the first without the second, shifted down, shifted up
pub has-and : (a b i : ℕ) → has (bit_and a b) i ≡ (has a i and has b i)
unfolding ◌∩◌
has-and a b i = has-∩ a b i

pub has-or : (a b i : ℕ) → has (bit_or a b) i ≡ (has a i or has b i)
unfolding ◌∪◌
has-or a b i = has-∪ a b i

pub has-masked : (a b i : ℕ) → a < 2 ^ 64 → b < 2 ^ 64 → has (masked a b) i ≡ (has a i and isnt (has b i))
has-masked a b i ha hb = ap (λ (x : ℕ). has x i) (and_turned 64 a b ha hb) ∙ has-∖ a b i

pub has-up : (a s i : ℕ) → i < 64 → s ≤ i → has (a * 2 ^ s % 2 ^ 64) i ≡ has a (i - s)
has-up a s i h l =
    let e : s + (i - s) ≡ i = omega arith in
    has_low 64 (a * 2 ^ s) i h ∙ ap (has (a * 2 ^ s)) (sym e) ∙ sym (has_shift (a * 2 ^ s) s (i - s)) ∙ ap (λ (x : ℕ). has x (i - s)) (shl-shr a s)

pub none-up : (a s i : ℕ) → i < 64 → i < s → has (a * 2 ^ s % 2 ^ 64) i ≡ false
none-up a s i h l = has_low 64 (a * 2 ^ s) i h ∙ sym (has_low s (a * 2 ^ s) i l) ∙ ap (λ (x : ℕ). has x i) (mul-mod_left a (2 ^ s)) ∙ has-zero i

-- ---- one item as a set

has_in_word : (s j b : ℕ) → b < 64 → has (word s j) b ≡ has s (64 * j + b)
has_in_word s j b l =
    let p : (64 * j + b) / 64 ≡ j = omega arith in
    let q : (64 * j + b) % 64 ≡ b = omega arith in
    rw (p, q) at (has_word s (64 * j + b))

-- its bit in the word where it stands, and in any other
pub bit_there : (i j : ℕ) → i / 64 ≡ j → 1 * 2 ^ (i % 64) % 2 ^ 64 ≡ word (single i) j
unfolding single
bit_there i j e =
    let small : i % 64 < 64 = omega arith in
    shifted_one (i % 64) small
    ∙ same_below 64 (2 ^ (i % 64)) (word (single i) j) (pow-lt small) (word_lt (single i) j)
    (λ b l.
    has-single (i % 64) b ∙ test_same (i % 64) b i (64 * j + b) (λ (h : i % 64 ≡ b). omega arith, λ (h : i ≡ 64 * j + b). omega arith)
    ∙ sym (has-single i (64 * j + b)) ∙ sym (has_in_word (single i) j b l))

pub bit_elsewhere : (i j : ℕ) → (i / 64 ≡ j → ⊥) → 0 ≡ word (single i) j
bit_elsewhere i j d =
    same_below 64 0 (word (single i) j) (omega arith) (word_lt (single i) j)
    (λ b l.
    has-zero b ∙ sym (ne_eqb i (64 * j + b) (λ (e : i ≡ 64 * j + b). d (omega arith)))
    ∙ sym (has-single i (64 * j + b)) ∙ sym (has_in_word (single i) j b l))

-- the words of the one item, if it is below the width
pub only_words : (n i : ℕ) (ws : List ℕ) → length ws ≡ n → ((j : ℕ) → j < n → get_or ws j 0 ≡ word (single i) j) → value ws ≡ (when ltb i (64 * n) then single i else 0)
only_words n i ws e h =
    either i (64 * n)
    (λ l.
    value_words ws (single i) (rw e (single_lt (64 * n) i l)) (λ q b. h q (rw e at b))
    ∙ sym (when-true (ltb i (64 * n)) (single i) 0 (lt-ltb i (64 * n) l)))
    (λ l.
    value_words ws 0 (pow_pos (64 * length ws))
    (λ q b. h q (rw e at b) ∙ sym (bit_elsewhere i q (λ (d : i / 64 ≡ q). let b' : q < n = rw e at b in omega arith)) ∙ sym (word-zero q))
    ∙ sym (when-false (ltb i (64 * n)) (single i) 0 (le-ltb i (64 * n) l)))

-- put in and taken out
pub with_only : (s i w : ℕ) → s ∪ (when ltb i w then single i else 0) ≡ (when ltb i w then s ∪ single i else s)
with_only s i w =
    by_test (ltb i w) (λ h. rw (when-true (ltb i w) (single i) 0 h, when-true (ltb i w) (s ∪ single i) s h) refl)
    (λ h. rw (when-false (ltb i w) (single i) 0 h, when-false (ltb i w) (s ∪ single i) s h) (∪-zero s))

pub without_only : (s i w : ℕ) → s < 2 ^ w → s ∖ (when ltb i w then single i else 0) ≡ s ∖ single i
without_only s i w b =
    by_test (ltb i w) (λ h. rw (when-true (ltb i w) (single i) 0 h) refl)
    (λ h. rw (when-false (ltb i w) (single i) 0 h) (∖-zero s ∙ sym (without_absent s i (has_above w s i b (ltb-false i w h)))))

-- ---- one mask: of the items from `at` on, those below n

pub mask_none : (n at : ℕ) → n ≤ at → 0 ≡ 2 ^ min 64 (n - at) - 1
mask_none n at l = let e : min 64 (n - at) ≡ 0 = omega arith in rw e refl

pub mask_all : (n at : ℕ) → 64 ≤ n - at → 2 ^ 64 - 1 ≡ 2 ^ min 64 (n - at) - 1
mask_all n at l = let e : min 64 (n - at) ≡ 64 = omega arith in rw e refl

pub mask_pos : (n at : ℕ) → n - at < 64 → 1 ≤ 1 * 2 ^ (n - at) % 2 ^ 64
mask_pos n at l = rw (shifted_one (n - at) l) (pow_pos (n - at))

pub mask_some : (n at : ℕ) → n - at < 64 → 1 * 2 ^ (n - at) % 2 ^ 64 - 1 ≡ 2 ^ min 64 (n - at) - 1
mask_some n at l = let e : min 64 (n - at) ≡ n - at = omega arith in rw (e, shifted_one (n - at) l) refl

-- ---- tests

-- a choice by whether two numbers are equal, each way
pub when_equal {ℓ} : {A : Type ℓ} (a b : ℕ) (x y : A) → a ≡ b → x ≡ (when eqb a b then x else y)
when_equal a b x y e = sym (when-true (eqb a b) x y (eq-eqb a b e))

pub when_other {ℓ} : {A : Type ℓ} (a b : ℕ) (x y : A) → (a ≡ b → ⊥) → y ≡ (when eqb a b then x else y)
when_other a b x y d = sym (when-false (eqb a b) x y (ne_eqb a b d))

-- the connectives of the code
pub both_test : (p q : Bool) → (p && q) ≡ (p and q)
unfolding ◌and◌
both_test true q = refl
both_test false q = refl

pub either_test : (p q : Bool) → (p || q) ≡ (p or q)
unfolding ◌or◌
either_test true q = refl
either_test false q = refl

but_not : (p q : Bool) → (p && not q) ≡ (p and isnt q)
unfolding ◌and◌ isnt
but_not true true = refl
but_not true false = refl
but_not false true = refl
but_not false false = refl

-- nothing is left of a subset
pub subset_test : (t : Bool) (a b d : ℕ) → t ≡ eqb d 0 → d ≡ a ∖ b → t ≡ subset a b
unfolding subset
subset_test t a b d e f = e ∙ ap (λ (x : ℕ). eqb x 0) f ∙ test_same (a ∖ b) 0 (a ∩ b) a (∖-none a b)

pub proper_test : (s t : Bool) (a b : ℕ) → s ≡ subset a b → t ≡ eqb a b → (s && not t) ≡ proper_subset a b
unfolding proper_subset
proper_test s t a b e f = rw (e, f) (but_not (subset a b) (eqb a b))
