-- Sets in hexadecimal: the digits that stand there, and the value that they make.
-- Assumes nothing.
use mathlib.Core.Path.{◌≡◌, refl, sym, ◌∙◌, ap}
use mathlib.Core.Bool.{true, false, So}
use mathlib.Core.List.{List, [], ◌∷◌, ◌++◌}
use mathlib.Core.Logic.{◌↔◌}
use Prim.Native.Nat.{ℕ, zero, suc, ◌+◌, ◌-◌, ◌*◌, ◌/◌, ◌%◌, ◌^◌, ◌≤◌, ◌<◌}
use native.Mathlib.Nat.{add-zero, zero-add, add-suc, add_assoc, pow-suc, mul_assoc, div-div-eq-div-mul}
use native.Mathlib.Omega.{arith}
use native.Mathlib.Numerals.{add-one}
use lib.Dec.{leb, ltb}
use lib.ListN.{length, get_or, set}
use lib.Pow.{pow-add, pow_mono, field, mod-mod-pow, shr-shr}
use lib.Bits.{bit_and, and_mask}
use Rattle.sets.specs.Truth.{◌and◌, all}
use Rattle.sets.specs.Words.{value, word}
use Rattle.sets.proofs.Words.{value-nil, value-cons, value_words, word_quotient}
use Rattle.sets.proofs.Truth.{not-So, when-true, when-false, and_iff, all_of, all_is, ltb_iff, leb_iff, either}
use Rattle.text.specs.Digits.{digit_of, digit_at, digit_byte}
use Rattle.text.specs.Rest.{moved}
use Rattle.text.specs.declared.rest.Rest.{Rest}
use Rattle.text.proofs.Digits.{digit-cases}
use Rattle.text.proofs.Bytes.{field_there, field_missing}
use Rattle.text.proofs.Rests.{after_there, after_missing}
use Rattle.stores.specs.Stores.{put_at}
use Rattle.stores.proofs.Stores.{put_at-append}
use Rattle.std.specs.Prelude.{Option, Some, None, MatchOption, is_some}
use Rattle.text_sets.specs.Hexadecimal.{hexadecimal_at, hexadecimal_field, after_digits, hexadecimal_value, hexadecimal}

-- 16 to the d is 2 to the 4 d
pub sixteen : (d : ℕ) → 16 ^ d ≡ 2 ^ (4 * d)
sixteen zero = refl
sixteen (suc d) =
    let e : 4 * suc d ≡ 4 * d + 4 = omega arith in
    pow-suc 16 d ∙ ap (λ (x : ℕ). x * 16) (sixteen d) ∙ sym (ap (λ (x : ℕ). 2 ^ x) e ∙ pow-add 2 (4 * d) 4)

-- ---- the digits that stand there

module _ (d : ℕ) (text : List ℕ) (at : ℕ) where
  pub hex_iff : So (hexadecimal_at d text at) ↔ ((at + d ≤ length text) × ((i : ℕ) → i < d → digit_at text (at + i) < 16))
  unfolding hexadecimal_at
  hex_iff = (
    λ s.
        let k = (and_iff (leb (at + d) (length text)) (all d (λ i. ltb (digit_at text (at + i)) 16))).0 s in
        ((leb_iff (at + d) (length text)).0 k.0, λ i l. (ltb_iff (digit_at text (at + i)) 16).0 (all_is d (λ i. ltb (digit_at text (at + i)) 16) k.1 i l)),
    λ k.
        (and_iff (leb (at + d) (length text)) (all d (λ i. ltb (digit_at text (at + i)) 16))).1
        ((leb_iff (at + d) (length text)).1 k.0, all_of d (λ i. ltb (digit_at text (at + i)) 16) (λ i l. (ltb_iff (digit_at text (at + i)) 16).1 (k.1 i l))),
  )

  pub hex_end : So (hexadecimal_at d text at) → at + d ≤ length text
  hex_end s = (hex_iff.0 s).0

  pub hex_digit : So (hexadecimal_at d text at) → (i : ℕ) → i < d → digit_at text (at + i) < 16
  hex_digit s = (hex_iff.0 s).1

  pub hex_short : length text < at + d → hexadecimal_at d text at ≡ false
  hex_short h = not-So (hexadecimal_at d text at) (λ s. let l : at + d ≤ length text = hex_end s in omega arith)

  -- where the text is long enough, the places tell it
  pub hex_asked : at + d ≤ length text → all d (λ i. ltb (digit_at text (at + i)) 16) ≡ hexadecimal_at d text at
  unfolding hexadecimal_at ◌and◌
  hex_asked h = let e : leb (at + d) (length text) ≡ true = (leb_iff (at + d) (length text)).1 h in rw e refl

-- a digit that is there is one below 16
there : (r : Option (ℕ × Rest)) (d : ℕ) (next : Rest) → MatchOption r (d ≡ 16) (λ x. (x.0 < 16) × (x.0 ≡ d) × (x.1 ≡ next)) → is_some r ≡ ltb d 16
there None d next e = rw e refl
there (Some x) d next e = let l : d < 16 = rw e.1 at e.0 in sym ((ltb_iff d 16).1 l)

pub digit_told : (rest s : Rest) (i : ℕ) (r : Option (ℕ × Rest)) → s ≡ moved rest i
    → MatchOption r (digit_at s.text.now s.at ≡ 16) (λ x. (x.0 < 16) × (x.0 ≡ digit_at s.text.now s.at) × (x.1 ≡ moved s 1))
    → is_some r ≡ ltb (digit_at rest.text.now (rest.at + i)) 16
unfolding moved
digit_told rest s i r e m = there r (digit_at s.text.now s.at) (moved s 1) m ∙ ap (λ (x : Rest). ltb (digit_at x.text.now x.at) 16) e

-- a part of them
pub hex_part : (d : ℕ) (text : List ℕ) (at a k : ℕ) → So (hexadecimal_at d text at) → a + k ≤ d → So (hexadecimal_at k text (at + a))
hex_part d text at a k s h =
    let b : at + d ≤ length text = hex_end d text at s in
    (hex_iff k text (at + a)).1 (omega arith, λ i l. rw (add_assoc at a i) (hex_digit d text at s (a + i) (omega arith)))

pub hex_first : (d : ℕ) (text : List ℕ) (at k : ℕ) → So (hexadecimal_at d text at) → k ≤ d → So (hexadecimal_at k text at)
hex_first d text at k s h =
    let b : at + d ≤ length text = hex_end d text at s in
    (hex_iff k text at).1 (omega arith, λ i l. hex_digit d text at s i (omega arith))

-- the value of a byte that is a digit, without asking which it is
pub digit_bits : (b : ℕ) → digit_of b < 16 → bit_and b 15 + 9 * (b / 2 ^ 6) ≡ digit_of b
digit_bits b h =
    rw (and_mask b 4)
    (digit-cases b (λ l m e. rw e (omega arith)) (λ l m e. rw e (omega arith)) (λ e. let n : 16 < 16 = rw e at h in absurd (omega arith)))

-- ---- the value that they make

pub hex_more : (i : ℕ) (text : List ℕ) (at : ℕ) → hexadecimal_value (i + 1) text at ≡ hexadecimal_value i text at * 16 + digit_at text (at + i)
unfolding hexadecimal_value
hex_more i text at = ap (λ (k : ℕ). hexadecimal_value k text at) (add-one i)

pub hex_lt : (d : ℕ) (text : List ℕ) (at : ℕ) → ((i : ℕ) → i < d → digit_at text (at + i) < 16) → hexadecimal_value d text at < 2 ^ (4 * d)
unfolding hexadecimal_value
hex_lt zero text at h = omega arith
hex_lt (suc d) text at h =
    let e : 4 * suc d ≡ 4 * d + 4 = omega arith in
    let b : hexadecimal_value d text at < 2 ^ (4 * d) = hex_lt d text at (λ i l. h i (omega arith)) in
    let k : digit_at text (at + d) < 16 = h d (omega arith) in
    rw (e, pow-add 2 (4 * d) 4) (omega arith)

-- fewer than 16 digits leave room for one more in a word
pub hex_room : (i d : ℕ) (text : List ℕ) (at : ℕ) → i < d → d ≤ 16 → So (hexadecimal_at d text at) → hexadecimal_value i text at < 2 ^ 60
hex_room i d text at l h s =
    let a : hexadecimal_value i text at < 2 ^ (4 * i) = hex_lt i text at (λ j b. hex_digit d text at s j (omega arith)) in
    let f : 4 * i ≤ 60 = omega arith in
    let b : 2 ^ (4 * i) ≤ 2 ^ 60 = pow_mono f in
    omega arith

pub ruleset value_laws = (hex_end, hex_digit, hex_more, hex_room)

-- the digits after the first a, and the first a above them
pub hex_split : (a k : ℕ) (text : List ℕ) (at : ℕ)
    → hexadecimal_value (a + k) text at ≡ hexadecimal_value a text at * 16 ^ k + hexadecimal_value k text (at + a)
unfolding hexadecimal_value
hex_split a zero text at =
    rw (add-zero a)
    (let e : hexadecimal_value a text at * 1 + 0 ≡ hexadecimal_value a text at = omega arith in sym e)
hex_split a (suc k) text at =
    let e : hexadecimal_value (a + k) text at ≡ hexadecimal_value a text at * 16 ^ k + hexadecimal_value k text (at + a) = hex_split a k text at in
    let m : hexadecimal_value a text at * (16 ^ k * 16) ≡ hexadecimal_value a text at * 16 ^ k * 16 =
    sym (mul_assoc (hexadecimal_value a text at) (16 ^ k) 16) in
    rw (add-suc a k)
    (rw (pow-suc 16 k, add_assoc at a k, e, m) (omega arith))

hex_alone : (d : ℕ) (text : List ℕ) (at : ℕ) → hexadecimal_value d text at ≡ hexadecimal_value 0 text at * 2 ^ 64 + hexadecimal_value d text at
unfolding hexadecimal_value
hex_alone d text at = omega arith

-- the last 16 digits are the lowest word
pub hex_word : (d : ℕ) (text : List ℕ) (at : ℕ)
    → hexadecimal_value d text at ≡ hexadecimal_value (d - 16) text at * 2 ^ 64 + hexadecimal_value (d - (d - 16)) text (at + (d - 16))
hex_word d text at =
    either d 16
    (λ l.
    let z : d - 16 ≡ 0 = omega arith in
    let y : d - 0 ≡ d = omega arith in
    rw (z, y, add-zero at) (hex_alone d text at))
    (λ l.
    let z : d - 16 + 16 ≡ d = omega arith in
    let y : d - (d - 16) ≡ 16 = omega arith in
    rw y (ap (λ (x : ℕ). hexadecimal_value x text at) (sym z) ∙ hex_split (d - 16) 16 text at))

-- up to 64 digits, a word at a time
pub hex_words : (d : ℕ) (text : List ℕ) (at a b c w0 w1 w2 w3 : ℕ) → d ≤ 64 → a ≡ d - 16 → b ≡ a - 16 → c ≡ b - 16
    → w0 ≡ hexadecimal_value (d - a) text (at + a) → w1 ≡ hexadecimal_value (a - b) text (at + b) → w2 ≡ hexadecimal_value (b - c) text (at + c)
    → w3 ≡ hexadecimal_value c text at
    → value (w0 ∷ w1 ∷ w2 ∷ w3 ∷ []) ≡ hexadecimal_value d text at
hex_words d text at a b c w0 w1 w2 w3 h ea eb ec e0 e1 e2 e3 =
    let p : hexadecimal_value d text at ≡ hexadecimal_value a text at * 2 ^ 64 + w0 = rw (e0, ea) (hex_word d text at) in
    let q : hexadecimal_value a text at ≡ hexadecimal_value b text at * 2 ^ 64 + w1 = rw (e1, eb) (hex_word a text at) in
    let r : hexadecimal_value b text at ≡ hexadecimal_value c text at * 2 ^ 64 + w2 = rw (e2, ec) (hex_word b text at) in
    let z : hexadecimal_value c text at ≡ 0 * 2 ^ 64 + w3 = omega arith in
    rw (value-cons w0 (w1 ∷ w2 ∷ w3 ∷ []), value-cons w1 (w2 ∷ w3 ∷ []), value-cons w2 (w3 ∷ []), value-cons w3 [], value-nil)
    (sym (p ∙ ap (λ (x : ℕ). x * 2 ^ 64 + w0) (q ∙ ap (λ (x : ℕ). x * 2 ^ 64 + w1) (r ∙ ap (λ (x : ℕ). x * 2 ^ 64 + w2) z))))

pub ruleset set_laws = (hex_end, hex_part, hex_first, hex_words)

-- ---- the digits of a set

nibble_in : (n e f : ℕ) → e + f ≡ 60 → n % 2 ^ 64 / 2 ^ e % 2 ^ 4 ≡ n / 2 ^ e % 2 ^ 4
nibble_in n e f h =
    let w : 64 ≡ f + 4 + e = omega arith in
    ap (λ (k : ℕ). n % 2 ^ k / 2 ^ e % 2 ^ 4) w ∙ ap (λ (x : ℕ). x % 2 ^ 4) (field n (f + 4) e) ∙ mod-mod-pow (n / 2 ^ e) f 4

-- digit k of a word
pub word_nibble : (w k : ℕ) → bit_and (w / 2 ^ (4 * k)) 15 ≡ w / 16 ^ k % 16
word_nibble w k = and_mask (w / 2 ^ (4 * k)) 4 ∙ ap (λ (x : ℕ). w / x % 16) (sym (sixteen k))

pub word_nibble_lt : (w k : ℕ) → bit_and (w / 2 ^ (4 * k)) 15 < 16
word_nibble_lt w k = let e : bit_and (w / 2 ^ (4 * k)) 15 ≡ w / 16 ^ k % 16 = word_nibble w k in omega arith

-- digit k of a set, from the word that holds it
pub hex_nibble : (s k : ℕ) → bit_and (word s (k / 16) / 2 ^ (4 * (k % 16))) 15 ≡ s / 16 ^ k % 16
hex_nibble s k =
    let p : 64 * (k / 16) + 4 * (k % 16) ≡ 4 * k = omega arith in
    and_mask (word s (k / 16) / 2 ^ (4 * (k % 16))) 4
    ∙ ap (λ (w : ℕ). w / 2 ^ (4 * (k % 16)) % 2 ^ 4) (word_quotient s (k / 16))
    ∙ nibble_in (s / 2 ^ (64 * (k / 16))) (4 * (k % 16)) (60 - 4 * (k % 16)) (omega arith)
    ∙ ap (λ (x : ℕ). x % 16) (shr-shr s (64 * (k / 16)) (4 * (k % 16)) ∙ ap (λ (x : ℕ). s / 2 ^ x) p ∙ ap (λ (x : ℕ). s / x) (sym (sixteen k)))

pub hex_nibble_lt : (s k : ℕ) → bit_and (word s (k / 16) / 2 ^ (4 * (k % 16))) 15 < 16
hex_nibble_lt s k = let e : bit_and (word s (k / 16) / 2 ^ (4 * (k % 16))) 15 ≡ s / 16 ^ k % 16 = hex_nibble s k in omega arith

-- the digits of a word are those of the set, from its place on
word_digits : (s k d : ℕ) → d ≤ 16 → hexadecimal d (word s k) ≡ hexadecimal d (s / 16 ^ (16 * k))
unfolding hexadecimal
word_digits s k zero h = refl
word_digits s k (suc d) h =
    let e : 4 * (16 * k) ≡ 64 * k = omega arith in
    let p : 16 ^ (16 * k) ≡ 2 ^ (64 * k) = sixteen (16 * k) ∙ ap (λ (x : ℕ). 2 ^ x) e in
    let digit : word s k / 16 ^ d % 16 ≡ s / 16 ^ (16 * k) / 16 ^ d % 16 =
    ap (λ (x : ℕ). x / 16 ^ d % 16) (word_quotient s k) ∙ ap (λ (x : ℕ). s / 2 ^ (64 * k) % 2 ^ 64 / x % 16) (sixteen d)
    ∙ nibble_in (s / 2 ^ (64 * k)) (4 * d) (60 - 4 * d) (omega arith) ∙ sym (λ i. s / p i / sixteen d i % 16) in
    (λ i. digit_byte (digit i) ∷ word_digits s k d (omega arith) i)

-- digits above and digits below
hex_parts : (a b s : ℕ) → hexadecimal (a + b) s ≡ hexadecimal a (s / 16 ^ b) ++ hexadecimal b s
unfolding hexadecimal
hex_parts zero b s = ap (λ (x : ℕ). hexadecimal x s) (zero-add b)
hex_parts (suc a) b s =
    let e : suc a + b ≡ suc (a + b) = omega arith in
    let f : a + b ≡ b + a = omega arith in
    let digit : s / 16 ^ (a + b) ≡ s / 16 ^ b / 16 ^ a =
    ap (λ (x : ℕ). s / 16 ^ x) f ∙ ap (λ (x : ℕ). s / x) (pow-add 16 b a) ∙ sym (div-div-eq-div-mul s (16 ^ b) (16 ^ a)) in
    ap (λ (x : ℕ). hexadecimal x s) e ∙ (λ i. digit_byte (digit i % 16) ∷ hex_parts a b s i)

pub length-hexadecimal : (d s : ℕ) → length (hexadecimal d s) ≡ d
unfolding hexadecimal
length-hexadecimal zero s = refl
length-hexadecimal (suc d) s = ap suc (length-hexadecimal d s)

-- digits of the word above k whole words are written, and these are left
pub hex_front : (l l' : List ℕ) (at a k s r w : ℕ) → a ≤ 16 → w ≡ word s k → (r ≡ at + a) × (l' ≡ put_at l at (hexadecimal a w))
    → put_at l' r (hexadecimal (16 * k) s) ≡ put_at l at (hexadecimal (a + 16 * k) s)
hex_front l l' at a k s r w h e p =
    let n : length (hexadecimal a (word s k)) ≡ a = length-hexadecimal a (word s k) in
    let q : l' ≡ put_at l at (hexadecimal a (word s k)) = p.1 ∙ ap (λ (x : ℕ). put_at l at (hexadecimal a x)) e in
    (λ i. put_at (q i) ((p.0 ∙ ap (λ (x : ℕ). at + x) (sym n)) i) (hexadecimal (16 * k) s)) ∙ sym (put_at-append l at (hexadecimal a (word s k)) (hexadecimal (16 * k) s))
    ∙ ap (put_at l at) ((λ i. word_digits s k a h i ++ hexadecimal (16 * k) s) ∙ sym (hex_parts a (16 * k) s))

pub hex_none : (l l' : List ℕ) (at k s : ℕ) → k ≡ 0 → put_at l at (hexadecimal (16 * k) s) ≡ l' → l ≡ l'
unfolding put_at hexadecimal
hex_none l l' at k s z e = rw z at e

-- the digits that are left to write, and one of them written
pub hex_store : (l l' : List ℕ) (at d i k v s : ℕ) → i < d → k ≡ d - 1 - i → v ≡ digit_byte (s / 16 ^ k % 16)
    → put_at l (at + i) (hexadecimal (d - i) s) ≡ l' → put_at (set l (at + i) v) (at + (i + 1)) (hexadecimal (d - (i + 1)) s) ≡ l'
unfolding put_at hexadecimal
hex_store l l' at d i k v s h ek ev e =
    let a : d - i ≡ suc k = omega arith in
    let b : d - (i + 1) ≡ k = omega arith in
    let f : at + (i + 1) ≡ suc (at + i) = omega arith in
    rw (b, f, ev) (rw a at e)

pub hex_stored : (l l' : List ℕ) (at d i s : ℕ) → d ≤ i → put_at l (at + i) (hexadecimal (d - i) s) ≡ l' → l ≡ l'
unfolding put_at hexadecimal
hex_stored l l' at d i s h e = let z : d - i ≡ 0 = omega arith in rw z at e

-- the words of a set of items below 128, with none above them
pub wider : (s : ℕ) → s < 2 ^ 128 → value (word s 0 ∷ word s 1 ∷ 0 ∷ 0 ∷ []) ≡ s
wider s h =
    let two : value (word s 0 ∷ word s 1 ∷ []) ≡ s = value_words (word s 0 ∷ word s 1 ∷ []) s h there in
    rw (value-cons (word s 0) (word s 1 ∷ 0 ∷ 0 ∷ []), value-cons (word s 1) (0 ∷ 0 ∷ []), value-cons 0 (0 ∷ []), value-cons 0 [], value-nil)
    (rw (value-cons (word s 0) (word s 1 ∷ []), value-cons (word s 1) [], value-nil) at two)
  where
    there : (j : ℕ) → j < 2 → get_or (word s 0 ∷ word s 1 ∷ []) j 0 ≡ word s j
    there zero l = refl
    there (suc zero) l = refl
    there (suc (suc j)) l = absurd (omega arith)

-- ---- the field of d digits

pub field_is : (d : ℕ) (text : List ℕ) (at : ℕ) → So (hexadecimal_at d text at) → Some (at + d) ≡ hexadecimal_field d text at
unfolding hexadecimal_field
field_is d text at s = sym (when-true (hexadecimal_at d text at) (Some (at + d)) None s)

pub field_is_not : (d : ℕ) (text : List ℕ) (at : ℕ) → hexadecimal_at d text at ≡ false → None ≡ hexadecimal_field d text at
unfolding hexadecimal_field
field_is_not d text at e = sym (when-false (hexadecimal_at d text at) (Some (at + d)) None e)

pub ruleset field_laws = (hex_end, field_is, field_is_not)

module _ (d : ℕ) (text : List ℕ) (at : ℕ) {r : Option ℕ} (h : r ≡ hexadecimal_field d text at) where
  pub hexadecimal_there : {k : ℕ} → r ≡ Some k → (hexadecimal_at d text at ≡ true) × (k ≡ at + d)
  unfolding hexadecimal_field
  hexadecimal_there = field_there (at + d) h

  pub hexadecimal_missing : r ≡ None → hexadecimal_at d text at ≡ false
  unfolding hexadecimal_field
  hexadecimal_missing = field_missing (at + d) h

-- what is left after the digits, of what is left of this text from this place on
module _ (rest : Rest) (d : ℕ) (text : List ℕ) (at : ℕ) (t : rest.text.now ≡ text) (a : rest.at ≡ at) where
  field_same : hexadecimal_field d rest.text.now rest.at ≡ hexadecimal_field d text at
  field_same = λ i. hexadecimal_field d (t i) (a i)

  pub rest_digits : {r : Rest} → after_digits rest d ≡ Some r → (hexadecimal_field d text at ≡ Some r.at) × (r.text.now ≡ text) × (r.text ≡ rest.text)
  unfolding after_digits
  rest_digits e = let w = after_there rest (hexadecimal_field d rest.text.now rest.at) e in (sym field_same ∙ w.0, ap (λ b. b.now) w.1 ∙ t, w.1)

  pub no_digits : after_digits rest d ≡ None → hexadecimal_field d text at ≡ None
  unfolding after_digits
  no_digits e = sym field_same ∙ after_missing rest (hexadecimal_field d rest.text.now rest.at) e

-- where something is left after the digits, they stand there
pub digits_there : (rest : Rest) (d : ℕ) {r : Rest} → after_digits rest d ≡ Some r → hexadecimal_at d rest.text.now rest.at ≡ true
digits_there rest d e = (hexadecimal_there d rest.text.now rest.at refl (rest_digits rest d rest.text.now rest.at refl refl e).0).0
