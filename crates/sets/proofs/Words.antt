-- Lists of 64-bit words as numbers, for any number of words: bounds, single words and items, operations done word by word.
-- Assumes nothing.
use mathlib.Core.Path.{◌≡◌, refl, sym, ◌∙◌, ap, ap₂}
use mathlib.Core.Bool.{Bool}
use mathlib.Core.List.{List, [], ◌∷◌}
use Prim.Native.Nat.{ℕ, zero, suc, ◌+◌, ◌-◌, ◌*◌, ◌/◌, ◌%◌, ◌^◌, ◌<◌, min}
use native.Mathlib.Nat.{not-suc-le-zero, add_comm, mul-suc, div-one, zero-div, pow-suc, suc_inj}
use native.Mathlib.Omega.{arith}
use lib.Dec.{eqb}
use lib.Arith.{digits_lt}
use lib.Pow.{pow_pos, pow-add, shr-shr, shr_lt, high, low}
use lib.Bits.{bit_and, bit_or, bit_xor, and_lt, and_block, or_block, xor_block, and_zero_r, or_zero_r, xor_zero_r}
use lib.ListN.{length, get_or, replicate}
use lib.Seq.{ext_get_or}
use Rattle.sets.specs.Truth.{◌and◌, isnt}
use Rattle.sets.specs.Sets.{has, ◌∩◌, ◌∪◌, ◌∖◌, collect}
use Rattle.sets.specs.Words.{value, word}
use Rattle.sets.proofs.Members.{digit, has_first, has_rest, has_low, same_below, has-∩, has-∖}
use Rattle.sets.proofs.Order.{∖-lt, collect_parts}

-- every element is a word
abbrev pub Words : List ℕ → Type 0
Words ws = (i : ℕ) → get_or ws i 0 < 2 ^ 64

-- ---- powers of a word's width

power_suc : (n : ℕ) → 2 ^ (64 * suc n) ≡ 2 ^ (64 * n) * 2 ^ 64
power_suc n = ap (λ (x : ℕ). 2 ^ x) (mul-suc 64 n) ∙ pow-add 2 (64 * n) 64

-- ---- the number of a list of words

pub value-nil : value [] ≡ 0
unfolding value
value-nil = refl

pub value-cons : (w : ℕ) (ws : List ℕ) → value (w ∷ ws) ≡ value ws * 2 ^ 64 + w
unfolding value
value-cons w ws = refl

pub value_one : (w : ℕ) → value (w ∷ []) ≡ w
unfolding value
value_one w = omega arith

-- a comprehension gathered word by word: its first word, and what its other words hold
pub value-collect : (n w : ℕ) (ws : List ℕ) (f : ℕ → Bool) → w ≡ collect (min n 64) f → value ws ≡ collect (n - 64) (λ i. f (64 + i)) → value (w ∷ ws) ≡ collect n f
value-collect n w ws f a b = value-cons w ws ∙ ap₂ (λ (x y : ℕ). x * 2 ^ 64 + y) b a ∙ collect_parts 64 n f

pub value_lt : (ws : List ℕ) → Words ws → value ws < 2 ^ (64 * length ws)
unfolding value
value_lt [] h = omega arith
value_lt (w ∷ ws) h = rw (power_suc (length ws)) (digits_lt (value_lt ws (λ i. h (suc i))) (h 0))

-- ---- word j of the number is word j of the list

pub word_quotient : (s j : ℕ) → word s j ≡ s / 2 ^ (64 * j) % 2 ^ 64
unfolding word
word_quotient s j = refl

pub word_first : (s : ℕ) → word s 0 ≡ s % 2 ^ 64
unfolding word
word_first s = rw (div-one s) refl

pub word_next : (s j : ℕ) → word s (suc j) ≡ word (s / 2 ^ 64) j
unfolding word
word_next s j = ap (λ (x : ℕ). s / 2 ^ x % 2 ^ 64) (mul-suc 64 j ∙ add_comm (64 * j) 64) ∙ ap (λ (x : ℕ). x % 2 ^ 64) (sym (shr-shr s 64 (64 * j)))

pub word-zero : (j : ℕ) → word 0 j ≡ 0
unfolding word
word-zero j = rw (zero-div (2 ^ (64 * j))) refl

pub word_lt : (s j : ℕ) → word s j < 2 ^ 64
unfolding word
word_lt s j = omega arith

pub word_value : (ws : List ℕ) (j : ℕ) → Words ws → word (value ws) j ≡ get_or ws j 0
unfolding value
word_value [] j h = word-zero j
word_value (w ∷ ws) zero h = word_first (value ws * 2 ^ 64 + w) ∙ low (value ws) 64 (h 0)
word_value (w ∷ ws) (suc j) h =
    word_next (value ws * 2 ^ 64 + w) j ∙ ap (λ (s : ℕ). word s j) (high (value ws) 64 (h 0)) ∙ word_value ws j (λ i. h (suc i))

-- a list of the words of s has the number s
pub value_words : (ws : List ℕ) (s : ℕ) → s < 2 ^ (64 * length ws) → ((j : ℕ) → j < length ws → get_or ws j 0 ≡ word s j) → value ws ≡ s
unfolding value
value_words [] s h e = omega arith
value_words (w ∷ ws) s h e =
    let bound : s / 2 ^ 64 < 2 ^ (64 * length ws) = shr_lt (64 * length ws) 64 (rw (sym (mul-suc 64 (length ws))) h) in
    let rest : value ws ≡ s / 2 ^ 64 = value_words ws (s / 2 ^ 64) bound (λ j l. e (suc j) (omega arith) ∙ word_next s j) in
    let first : w ≡ s % 2 ^ 64 = e 0 (omega arith) ∙ word_first s in
    omega arith

-- words are what their number says: lists of one length with the same number are the same
-- a list of numbers is told by its length and what stands at its places
pub same_words : (xs ys : List ℕ) → length xs ≡ length ys → ((k : ℕ) → k < length xs → get_or xs k 0 ≡ get_or ys k 0) → xs ≡ ys
same_words [] [] e h = refl
same_words [] (y ∷ ys) e h = absurd (omega arith)
same_words (x ∷ xs) [] e h = absurd (omega arith)
same_words (x ∷ xs) (y ∷ ys) e h = rw (h 0 (omega arith), same_words xs ys (omega arith) (λ k l. h (suc k) (omega arith))) refl

pub value_same : (xs ys : List ℕ) → Words xs → Words ys → length xs ≡ length ys → value xs ≡ value ys → xs ≡ ys
value_same xs ys hx hy l e =
    ext_get_or 0 xs ys l (λ j b. sym (word_value xs j hx) ∙ ap (λ (s : ℕ). word s j) e ∙ word_value ys j hy)

pub value_zeros : (ws : List ℕ) → ((j : ℕ) → get_or ws j 0 ≡ 0) → value ws ≡ 0
unfolding value
value_zeros [] h = refl
value_zeros (w ∷ ws) h = let r = value_zeros ws (λ j. h (suc j)) in let z = h 0 in omega arith

pub value_blank : (n : ℕ) → value (replicate {A = ℕ} n 0) ≡ 0
unfolding value
value_blank zero = refl
value_blank (suc n) = rw (value_blank n) refl

-- ---- item i is bit i mod 64 of word i / 64

pub has_shift : (s k i : ℕ) → has (s / 2 ^ k) i ≡ has s (k + i)
unfolding has
has_shift s k i = ap (λ (x : ℕ). eqb (x % 2) 1) (shr-shr s k i)

pub has_word : (s i : ℕ) → has (word s (i / 64)) (i % 64) ≡ has s i
unfolding word
has_word s i =
    let e : 64 * (i / 64) + i % 64 ≡ i = omega arith in
    has_low 64 (s / 2 ^ (64 * (i / 64))) (i % 64) (omega arith) ∙ has_shift s (64 * (i / 64)) (i % 64) ∙ ap (has s) e

pub has_value : (ws : List ℕ) (i : ℕ) → Words ws → has (value ws) i ≡ has (get_or ws (i / 64) 0) (i % 64)
has_value ws i h = sym (has_word (value ws) i) ∙ ap (λ (x : ℕ). has x (i % 64)) (word_value ws (i / 64) h)

-- ---- word by word

-- f of each two words, one after another
abbrev pub zip : (ℕ → ℕ → ℕ) → List ℕ → List ℕ → List ℕ
zip f [] ys = []
zip f (x ∷ xs) [] = []
zip f (x ∷ xs) (y ∷ ys) = f x y ∷ zip f xs ys

-- g on numbers does to each word what f does
abbrev pub Wordwise : (f g : ℕ → ℕ → ℕ) → Type 0
Wordwise f g = (g 0 0 ≡ 0) × ((a b x y : ℕ) → x < 2 ^ 64 → y < 2 ^ 64 → g (a * 2 ^ 64 + x) (b * 2 ^ 64 + y) ≡ g a b * 2 ^ 64 + f x y)

pub value-zip : (f g : ℕ → ℕ → ℕ) → Wordwise f g → (xs ys : List ℕ) → Words xs → Words ys → length xs ≡ length ys → value (zip f xs ys) ≡ g (value xs) (value ys)
unfolding value
value-zip f g k [] [] hx hy e = sym k.0
value-zip f g k [] (y ∷ ys) hx hy e = omega arith
value-zip f g k (x ∷ xs) [] hx hy e = omega arith
value-zip f g k (x ∷ xs) (y ∷ ys) hx hy e =
    ap (λ (v : ℕ). v * 2 ^ 64 + f x y) (value-zip f g k xs ys (λ i. hx (suc i)) (λ i. hy (suc i)) (suc_inj e))
    ∙ sym (k.1 (value xs) (value ys) x y (hx 0) (hy 0))

pub wordwise-∩ : Wordwise bit_and ◌∩◌
unfolding ◌∩◌
wordwise-∩ = (and_zero_r 0, and_block 64)

pub wordwise-∪ : Wordwise bit_or ◌∪◌
unfolding ◌∪◌
wordwise-∪ = (or_zero_r 0, or_block 64)

-- the bits of a number of k bits turned over
has_turned : (k b i : ℕ) → b < 2 ^ k → i < k → has (2 ^ k - 1 - b) i ≡ isnt (has b i)
unfolding isnt
has_turned zero b i hb hi = absurd (not-suc-le-zero hi)
has_turned (suc k) b zero hb hi =
    rw (has_first (2 ^ suc k - 1 - b), has_first b)
    (digit (b % 2) (omega arith)
    (λ (e : b % 2 ≡ 0). let d : (2 ^ suc k - 1 - b) % 2 ≡ 1 = omega (arith, pow-suc 2 k) in rw (e, d) refl)
    (λ (e : b % 2 ≡ 1). let d : (2 ^ suc k - 1 - b) % 2 ≡ 0 = omega (arith, pow-suc 2 k) in rw (e, d) refl))
has_turned (suc k) b (suc i) hb hi =
    let e : (2 ^ suc k - 1 - b) / 2 ≡ 2 ^ k - 1 - b / 2 = omega (arith, pow-suc 2 k) in
    has_rest (2 ^ suc k - 1 - b) i ∙ ap (λ (x : ℕ). has x i) e ∙ has_turned k (b / 2) i (omega (arith, pow-suc 2 k)) (omega arith) ∙ ap isnt (sym (has_rest b i))

-- the mask that takes out the items of b
pub and_turned : (k a b : ℕ) → a < 2 ^ k → b < 2 ^ k → bit_and a (2 ^ k - 1 - b) ≡ a ∖ b
unfolding ◌∩◌
and_turned k a b ha hb =
    let l : 2 ^ k - 1 - b < 2 ^ k = omega (arith, pow_pos k) in
    same_below k (bit_and a (2 ^ k - 1 - b)) (a ∖ b) (and_lt k a (2 ^ k - 1 - b) ha l) (∖-lt k a b ha)
    (λ i h. has-∩ a (2 ^ k - 1 - b) i ∙ ap (λ (t : Bool). has a i and t) (has_turned k b i hb h) ∙ sym (has-∖ a b i))

pub ∖-zero : (a : ℕ) → a ∖ 0 ≡ a
unfolding ◌∖◌ ◌∩◌
∖-zero a = ap (bit_xor a) (and_zero_r a) ∙ xor_zero_r a

-- the first word without the bits of the second
abbrev pub masked : ℕ → ℕ → ℕ
masked x y = bit_and x (2 ^ 64 - 1 - y)

∖-block : (a b x y : ℕ) → x < 2 ^ 64 → y < 2 ^ 64 → (a * 2 ^ 64 + x) ∖ (b * 2 ^ 64 + y) ≡ (a ∖ b) * 2 ^ 64 + (x ∖ y)
unfolding ◌∖◌ ◌∩◌
∖-block a b x y hx hy =
    ap (bit_xor (a * 2 ^ 64 + x)) (and_block 64 a b x y hx hy)
    ∙ xor_block 64 a (bit_and a b) x (bit_and x y) hx (and_lt 64 x y hx hy)

pub wordwise-∖ : Wordwise masked ◌∖◌
wordwise-∖ = (∖-zero 0, λ a b x y hx hy. ∖-block a b x y hx hy ∙ ap (λ (r : ℕ). (a ∖ b) * 2 ^ 64 + r) (sym (and_turned 64 x y hx hy)))
