-- Emptiness, equality, order and count of sets held in lists of words, for any number of words.
-- Assumes nothing.
use mathlib.Core.Path.{◌≡◌, refl, sym, ◌∙◌, ap, ap₂}
use mathlib.Core.Bool.{Bool, false}
use mathlib.Core.List.{List, [], ◌∷◌}
use mathlib.Core.Logic.{◌↔◌}
use Prim.Native.Nat.{ℕ, zero, suc, ◌+◌, ◌*◌, ◌^◌, ◌≤◌, ◌<◌}
use native.Mathlib.Nat.{suc_inj, zero-add, add-zero, add_assoc, add_comm}
use native.Mathlib.Omega.{arith}
use borrow.Author.Tests.{ne_eqb, le-ltb}
use lib.Dec.{eqb, ltb}
use lib.Arith.{lt_of_le-ne}
use lib.Bits.{bit_or, bit_xor, xor_self, and_le_l, and_le_r, or_add_and, xor_add_and}
use lib.Count.{ones, ones_cat, ones-le}
use lib.ListN.{length, get_or}
use Rattle.std.specs.Prelude.{fold, sum_by}
use Rattle.sets.specs.Truth.{when◌then◌else◌, all}
use Rattle.sets.specs.Sets.{◌∩◌, ◌∖◌}
use Rattle.sets.specs.Words.{value}
use Rattle.sets.proofs.Truth.{same_test, eqb_iff, ltb_iff, equal_or, when-true, when-false, all_of, all_is, all_more}
use Rattle.sets.proofs.Words.{Words, value_lt}

-- ---- two words

pub test_same : (a b c d : ℕ) → (a ≡ b) ↔ (c ≡ d) → eqb a b ≡ eqb c d
test_same a b c d k =
    same_test (eqb a b) (eqb c d) (λ h. (eqb_iff c d).1 (k.0 ((eqb_iff a b).0 h))) (λ h. (eqb_iff a b).1 (k.1 ((eqb_iff c d).0 h)))

pub xor_none : (a b : ℕ) → (bit_xor a b ≡ 0) ↔ (a ≡ b)
xor_none a b =
    (λ (e : bit_xor a b ≡ 0). omega (arith, xor_add_and a b, and_le_l a b, and_le_r a b), λ (e : a ≡ b). rw e (xor_self b))

-- ---- all words at once

pub or-none : (x y : ℕ) → (bit_or x y ≡ 0) ↔ ((x ≡ 0) × (y ≡ 0))
or-none x y = (
  λ (e : bit_or x y ≡ 0). omega (arith, or_add_and x y, and_le_l x y, and_le_r x y),
  λ k. omega (arith, k.0, k.1, or_add_and x y),
)

-- each word is zero
abbrev pub AllZero : List ℕ → Type 0
AllZero ws = (k : ℕ) → k < length ws → get_or ws k 0 ≡ 0

zero_first : (w : ℕ) (ws : List ℕ) → w ≡ 0 → AllZero ws → AllZero (w ∷ ws)
zero_first w ws e h zero l = e
zero_first w ws e h (suc k) l = h k (omega arith)

zero_rest : (w : ℕ) (ws : List ℕ) → AllZero (w ∷ ws) → AllZero ws
zero_rest w ws h k l = h (suc k) (omega arith)

joined-zero : (x : ℕ) (ws : List ℕ) → (fold bit_or x ws ≡ 0) ↔ ((x ≡ 0) × AllZero ws)
joined-zero x [] = (λ e. (e, λ k l. absurd (omega arith)), λ h. h.0)
joined-zero x (w ∷ ws) =
    let r = joined-zero (bit_or x w) ws in (
      λ e. let h = r.0 e in let o = (or-none x w).0 h.0 in (o.0, zero_first w ws o.1 h.1),
      λ h. r.1 ((or-none x w).1 (h.0, h.1 0 (omega arith)), zero_rest w ws h.1),
    )

-- joined, they are zero where each is
pub join-zero : (ws : List ℕ) → (fold bit_or 0 ws ≡ 0) ↔ AllZero ws
join-zero ws = let r = joined-zero 0 ws in (λ e. (r.0 e).1, λ h. r.1 (refl, h))

value-zero : (ws : List ℕ) → (value ws ≡ 0) ↔ AllZero ws
unfolding value
value-zero [] = (λ e k l. absurd (omega arith), λ h. refl)
value-zero (w ∷ ws) =
    let r = value-zero ws in (
      λ e. let a : value ws ≡ 0 = omega (arith, e) in let b : w ≡ 0 = omega (arith, e) in zero_first w ws b (r.0 a),
      λ h. let a : value ws ≡ 0 = r.1 (zero_rest w ws h) in let b : w ≡ 0 = h 0 (omega arith) in omega (arith, a, b),
    )

pub test_join : (ws : List ℕ) → eqb (fold bit_or 0 ws) 0 ≡ eqb (value ws) 0
test_join ws =
    let a = join-zero ws in
    let b = value-zero ws in
    test_same (fold bit_or 0 ws) 0 (value ws) 0 (λ e. b.1 (a.0 e), λ e. a.1 (b.0 e))

-- words compared one after the other: d has a bit wherever two of the first i differ, and x and y are the next
pub differ_more : (d x y i : ℕ) (f : ℕ → Bool) → eqb d 0 ≡ all i f → eqb x y ≡ f i → eqb (bit_or d (bit_xor x y)) 0 ≡ all (i + 1) f
differ_more d x y i f ed ef =
    same_test (eqb (bit_or d (bit_xor x y)) 0) (all (i + 1) f)
    (λ h.
    let k = (or-none d (bit_xor x y)).0 ((eqb_iff (bit_or d (bit_xor x y)) 0).0 h) in
    all_more i f (sym ed ∙ (eqb_iff d 0).1 k.0) (sym ef ∙ (eqb_iff x y).1 ((xor_none x y).0 k.1)))
    (λ h.
    let z : d ≡ 0 = (eqb_iff d 0).0 (ed ∙ all_of i f (λ k l. all_is (i + 1) f h k (omega arith))) in
    let e : x ≡ y = (eqb_iff x y).0 (ef ∙ all_is (i + 1) f h i (omega arith)) in
    (eqb_iff (bit_or d (bit_xor x y)) 0).1 ((or-none d (bit_xor x y)).1 (z, (xor_none x y).1 e)))

-- ---- equality

pub ∖-none : (a b : ℕ) → (a ∖ b ≡ 0) ↔ (a ∩ b ≡ a)
unfolding ◌∖◌
∖-none a b = let r = xor_none a (a ∩ b) in (λ e. sym (r.0 e), λ e. r.1 (sym e))

-- ---- comparison, from the highest word down

-- the highest words that differ decide, and t where none do
abbrev pub less_from : Bool → List ℕ → List ℕ → Bool
less_from t [] ys = t
less_from t (x ∷ xs) [] = t
less_from t (x ∷ xs) (y ∷ ys) = less_from (when eqb x y then t else ltb x y) xs ys

order_same : (a b c d : ℕ) → (a < b) ↔ (c < d) → ltb a b ≡ ltb c d
order_same a b c d k =
    same_test (ltb a b) (ltb c d) (λ h. (ltb_iff c d).1 (k.0 ((ltb_iff a b).0 h))) (λ h. (ltb_iff a b).1 (k.1 ((ltb_iff c d).0 h)))

-- the numbers A and B, of the words x and y and what stands above them
less-step : (t : Bool) (X Y x y A B : ℕ) → x < 2 ^ 64 → y < 2 ^ 64 → A ≡ X * 2 ^ 64 + x → B ≡ Y * 2 ^ 64 + y
    → (when eqb X Y then (when eqb x y then t else ltb x y) else ltb X Y) ≡ (when eqb A B then t else ltb A B)
less-step t X Y x y A B hx hy ea eb =
    equal_or X Y
    (λ (e : X ≡ Y).
    let p : eqb x y ≡ eqb A B = test_same x y A B (λ (h : x ≡ y). omega arith, λ (h : A ≡ B). omega arith) in
    let q : ltb x y ≡ ltb A B = order_same x y A B (λ (h : x < y). omega arith, λ (h : A < B). omega arith) in
    when-true (eqb X Y) (when eqb x y then t else ltb x y) (ltb X Y) ((eqb_iff X Y).1 e) ∙ ap₂ (λ (u v : Bool). when u then t else v) p q)
    (λ d.
    let q : ltb X Y ≡ ltb A B = order_same X Y A B (λ (h : X < Y). omega arith, λ (h : A < B). lt_of_le-ne (omega arith) d) in
    when-false (eqb X Y) (when eqb x y then t else ltb x y) (ltb X Y) (ne_eqb X Y d)
    ∙ q ∙ sym (when-false (eqb A B) t (ltb A B) (ne_eqb A B (λ (h : A ≡ B). d (omega arith)))))

pub value-less : (t : Bool) (xs ys : List ℕ) → Words xs → Words ys → length xs ≡ length ys
    → less_from t xs ys ≡ (when eqb (value xs) (value ys) then t else ltb (value xs) (value ys))
unfolding value
value-less t [] [] hx hy e = sym (when-true (eqb 0 0) t (ltb 0 0) refl)
value-less t [] (y ∷ ys) hx hy e = absurd (omega arith)
value-less t (x ∷ xs) [] hx hy e = absurd (omega arith)
value-less t (x ∷ xs) (y ∷ ys) hx hy e =
    value-less (when eqb x y then t else ltb x y) xs ys (λ i. hx (suc i)) (λ i. hy (suc i)) (suc_inj e)
    ∙ less-step t (value xs) (value ys) x y (value (x ∷ xs)) (value (y ∷ ys)) (hx 0) (hy 0) refl refl

-- with `false` where all words are equal, it is the order of the numbers
pub less_none : (a b : ℕ) → (when eqb a b then false else ltb a b) ≡ ltb a b
less_none a b =
    equal_or a b
    (λ (e : a ≡ b). when-true (eqb a b) false (ltb a b) ((eqb_iff a b).1 e) ∙ sym (le-ltb a b (omega arith)))
    (λ d. when-false (eqb a b) false (ltb a b) (ne_eqb a b d))

-- ---- count: summed word after word

summed : (k : ℕ) (ws : List ℕ) → Words ws → fold (λ a w. a + ones w) k ws ≡ k + ones (value ws)
unfolding value ones
summed k [] h = sym (add-zero k)
summed k (w ∷ ws) h =
    summed (k + ones w) ws (λ i. h (suc i)) ∙ add_assoc k (ones w) (ones (value ws))
    ∙ ap (λ (x : ℕ). k + x) (add_comm (ones w) (ones (value ws)) ∙ sym (ones_cat 64 (value ws) w (h 0)))

pub value-count : (ws : List ℕ) → Words ws → sum_by ones ws ≡ ones (value ws)
value-count ws h = summed 0 ws h ∙ zero-add (ones (value ws))

-- a set has no more items than its width
pub count_le : (n : ℕ) (ws : List ℕ) → Words ws → length ws ≡ n → sum_by ones ws ≤ 64 * n
count_le n ws h e = rw (value-count ws h, ← e) (ones-le (64 * length ws) (value ws) (value_lt ws h))
