-- What each operation on sets means item by item, and that sets with the same items are equal.
-- Assumes nothing.
use mathlib.Core.Path.{◌≡◌, refl, sym, ◌∙◌, ap}
use mathlib.Core.Bool.{Bool, true, false, So, false≢true}
use mathlib.Core.Logic.{◌≢◌, ⊎_elim}
use Prim.Native.Nat.{ℕ, zero, suc, ◌+◌, ◌-◌, ◌*◌, ◌/◌, ◌%◌, ◌^◌, ◌≤◌, ◌<◌, min, max}
use native.Mathlib.Nat.{pow-suc, div-one, mod-lt, zero-div, div-eq_of_lt, lt_of_lt_of_le, add_comm}
use native.Mathlib.Numerals.{add-one}
use native.Mathlib.Omega.{arith}
use lib.Dec.{eqb}
use lib.Pow.{pow_pos, pow_mono, shr-shr, shr_lt, mod-mod-pow, field}
use lib.Bits.{bit_and, bit_or, bit_xor, differ, and_shr, or_shr, xor_shr, and_step, or_step, xor_step}
use Rattle.sets.specs.Truth.{◌and◌, ◌or◌, isnt}
use Rattle.sets.specs.Sets.{has, ◌∩◌, ◌∪◌, ◌∖◌}
use Rattle.sets.proofs.Truth.{same_test, not-So, So-not, eqb_iff, either, equal_or, find}

-- ---- one binary digit

pub digit {ℓ} : {C : Type ℓ} (p : ℕ) → p < 2 → (p ≡ 0 → C) → (p ≡ 1 → C) → C
digit p h z o = equal_or p 0 z (λ d. o (omega arith))

mod2 : (n : ℕ) → n % 2 < 2
mod2 n = omega arith

same_digit : (p q : ℕ) → p < 2 → q < 2 → eqb p 1 ≡ eqb q 1 → p ≡ q
same_digit p q hp hq e =
    digit p hp (λ (a : p ≡ 0). digit q hq (λ (b : q ≡ 0). a ∙ sym b)
    (λ (b : q ≡ 1). let z : eqb p 1 ≡ true = e ∙ (eqb_iff q 1).1 b in absurd (false≢true (rw a at z))))
    (λ (a : p ≡ 1). a ∙ sym ((eqb_iff q 1).0 (sym e ∙ (eqb_iff p 1).1 a)))

-- an operation on two digits is an operation on two tests, shown at the four pairs of digits
table : (f : ℕ → ℕ → ℕ) (g : Bool → Bool → Bool) → eqb (f 0 0) 1 ≡ g false false → eqb (f 0 1) 1 ≡ g false true
    → eqb (f 1 0) 1 ≡ g true false → eqb (f 1 1) 1 ≡ g true true
    → (a b : ℕ) → a < 2 → b < 2 → eqb (f a b) 1 ≡ g (eqb a 1) (eqb b 1)
table f g e00 e01 e10 e11 a b ha hb =
    digit a ha (λ (p : a ≡ 0). digit b hb (λ (q : b ≡ 0). rw (p, q) e00) (λ (q : b ≡ 1). rw (p, q) e01))
    (λ (p : a ≡ 1). digit b hb (λ (q : b ≡ 0). rw (p, q) e10) (λ (q : b ≡ 1). rw (p, q) e11))

-- the lowest digit of x * 2 + y is y
lowest_digit : (x y : ℕ) → y < 2 → (x * 2 + y) % 2 ≡ y
lowest_digit x y h = omega arith

bit-and : (p q : ℕ) → eqb (bit_and p q % 2) 1 ≡ (eqb (p % 2) 1 and eqb (q % 2) 1)
unfolding ◌and◌
bit-and p q =
    ap (λ (x : ℕ). eqb x 1) (ap (λ (x : ℕ). x % 2) (and_step p q) ∙ lowest_digit (bit_and (p / 2) (q / 2)) (min (p % 2) (q % 2)) (omega arith))
    ∙ table min ◌and◌ refl refl refl refl (p % 2) (q % 2) (mod2 p) (mod2 q)

bit-or : (p q : ℕ) → eqb (bit_or p q % 2) 1 ≡ (eqb (p % 2) 1 or eqb (q % 2) 1)
unfolding ◌or◌
bit-or p q =
    ap (λ (x : ℕ). eqb x 1) (ap (λ (x : ℕ). x % 2) (or_step p q) ∙ lowest_digit (bit_or (p / 2) (q / 2)) (max (p % 2) (q % 2)) (omega arith))
    ∙ table max ◌or◌ refl refl refl refl (p % 2) (q % 2) (mod2 p) (mod2 q)

-- exactly one of the two
abbrev one_of : Bool → Bool → Bool
one_of true b = isnt b
one_of false b = b

differ_lt : (a b : ℕ) → a < 2 → b < 2 → differ a b < 2
differ_lt a b ha hb =
    digit a ha (λ (p : a ≡ 0). digit b hb (λ (q : b ≡ 0). rw (p, q) (omega arith)) (λ (q : b ≡ 1). rw (p, q) (omega arith)))
    (λ (p : a ≡ 1). digit b hb (λ (q : b ≡ 0). rw (p, q) (omega arith)) (λ (q : b ≡ 1). rw (p, q) (omega arith)))

bit_xor_lem : (p q : ℕ) → eqb (bit_xor p q % 2) 1 ≡ one_of (eqb (p % 2) 1) (eqb (q % 2) 1)
unfolding isnt
bit_xor_lem p q =
    ap (λ (x : ℕ). eqb x 1)
    (ap (λ (x : ℕ). x % 2) (xor_step p q) ∙ lowest_digit (bit_xor (p / 2) (q / 2)) (differ (p % 2) (q % 2)) (differ_lt (p % 2) (q % 2) (mod2 p) (mod2 q)))
    ∙ table differ one_of refl refl refl refl (p % 2) (q % 2) (mod2 p) (mod2 q)

-- ---- the operations, item by item

pub has-zero : (i : ℕ) → has 0 i ≡ false
unfolding has
has-zero i = rw (zero-div (2 ^ i)) refl

pub has-∩ : (a b i : ℕ) → has (a ∩ b) i ≡ (has a i and has b i)
unfolding has ◌∩◌
has-∩ a b i = ap (λ (x : ℕ). eqb (x % 2) 1) (and_shr a b i) ∙ bit-and (a / 2 ^ i) (b / 2 ^ i)

pub has-∪ : (a b i : ℕ) → has (a ∪ b) i ≡ (has a i or has b i)
unfolding has ◌∪◌
has-∪ a b i = ap (λ (x : ℕ). eqb (x % 2) 1) (or_shr a b i) ∙ bit-or (a / 2 ^ i) (b / 2 ^ i)

one_of_and : (a b : Bool) → one_of a (a and b) ≡ (a and isnt b)
unfolding ◌and◌ isnt
one_of_and true b = refl
one_of_and false b = refl

pub has-∖ : (a b i : ℕ) → has (a ∖ b) i ≡ (has a i and isnt (has b i))
unfolding has ◌∖◌
has-∖ a b i =
    ap (λ (x : ℕ). eqb (x % 2) 1) (xor_shr a (a ∩ b) i) ∙ bit_xor_lem (a / 2 ^ i) ((a ∩ b) / 2 ^ i)
    ∙ ap (λ (x : Bool). one_of (eqb (a / 2 ^ i % 2) 1) x) (has-∩ a b i) ∙ one_of_and (eqb (a / 2 ^ i % 2) 1) (eqb (b / 2 ^ i % 2) 1)

-- ---- the lowest item, and the rest

pub has_first : (s : ℕ) → has s 0 ≡ eqb (s % 2) 1
unfolding has
has_first s = rw (div-one s) refl

pub has_rest : (s i : ℕ) → has s (suc i) ≡ has (s / 2) i
unfolding has
has_rest s i = ap (λ (x : ℕ). eqb (x % 2) 1) (ap (λ (x : ℕ). s / 2 ^ x) (sym (add-one i) ∙ add_comm i 1) ∙ sym (shr-shr s 1 i))

pub has_top : (s n : ℕ) → has s n ≡ eqb (s / 2 ^ n % 2) 1
unfolding has
has_top s n = refl

-- ---- sets with the same items are equal

half_lt : (n s : ℕ) → s < 2 ^ suc n → s / 2 < 2 ^ n
half_lt n s h = shr_lt n 1 (rw (add-one n) h)

pub same_below : (n a b : ℕ) → a < 2 ^ n → b < 2 ^ n → ((i : ℕ) → i < n → has a i ≡ has b i) → a ≡ b
same_below zero a b ha hb h = omega arith
same_below (suc n) a b ha hb h =
    let low : a % 2 ≡ b % 2 = same_digit (a % 2) (b % 2) (mod2 a) (mod2 b) (sym (has_first a) ∙ h 0 (omega arith) ∙ has_first b) in
    let rest : a / 2 ≡ b / 2 =
    same_below n (a / 2) (b / 2) (half_lt n a ha) (half_lt n b hb) (λ i l. sym (has_rest a i) ∙ h (suc i) (omega arith) ∙ has_rest b i) in
    omega arith

pub below_power : (s : ℕ) → s < 2 ^ s
below_power zero = omega arith
below_power (suc s) = rw (pow-suc 2 s) (omega (arith, below_power s))

pub same_items : (a b : ℕ) → ((i : ℕ) → has a i ≡ has b i) → a ≡ b
same_items a b h =
    same_below (a + b) a b (lt_of_lt_of_le (below_power a) (pow_mono (omega arith))) (lt_of_lt_of_le (below_power b) (pow_mono (omega arith))) (λ i l. h i)

-- the same by implications
pub same_set : (a b : ℕ) → ((i : ℕ) → So (has a i) → So (has b i)) → ((i : ℕ) → So (has b i) → So (has a i)) → a ≡ b
same_set a b f g = same_items a b (λ i. same_test (has a i) (has b i) (f i) (g i))

-- ---- a bound on the number is a bound on its items

pub has_above : (n s i : ℕ) → s < 2 ^ n → n ≤ i → has s i ≡ false
unfolding has
has_above n s i h l = rw (div-eq_of_lt (lt_of_lt_of_le h (pow_mono l))) refl

pub item_below : (n s i : ℕ) → s < 2 ^ n → So (has s i) → i < n
item_below n s i h t = either i n (λ l. l) (λ l. absurd (So-not (has_above n s i h l) t))

low_digit : (s j i : ℕ) → s % 2 ^ (j + 1 + i) / 2 ^ i % 2 ≡ s / 2 ^ i % 2
low_digit s j i = ap (λ (x : ℕ). x % 2) (field s (j + 1) i) ∙ mod-mod-pow (s / 2 ^ i) j 1

pub has_low : (n s i : ℕ) → i < n → has (s % 2 ^ n) i ≡ has s i
unfolding has
has_low n s i h =
    let e : n - suc i + 1 + i ≡ n = omega arith in
    ap (λ (x : ℕ). eqb x 1) (rw e at (low_digit s (n - suc i) i))

pub below_of_items : (n s : ℕ) → ((i : ℕ) → n ≤ i → has s i ≡ false) → s < 2 ^ n
below_of_items n s h =
    let e : s ≡ s % 2 ^ n =
    same_items s (s % 2 ^ n)
    (λ i. either i n (λ l. sym (has_low n s i l)) (λ l. h i l ∙ sym (has_above n (s % 2 ^ n) i (mod-lt s (pow_pos n)) l))) in
    rw e (mod-lt s (pow_pos n))

-- a set that is not empty has an item
pub item_of : (s : ℕ) → s ≢ 0 → (i : ℕ) × So (has s i)
item_of s d =
    ⊎_elim (λ w. (w.0, w.2))
    (λ f. absurd (d (same_items s 0 (λ i. not-So (has s i) (λ t. f i (item_below s s i (below_power s) t) t) ∙ sym (has-zero i)))))
    (find s (has s))

pub empty_of : (s : ℕ) → ((i : ℕ) → So (has s i) → ⊥) → s ≡ 0
empty_of s h = same_items s 0 (λ i. not-So (has s i) (h i) ∙ sym (has-zero i))
