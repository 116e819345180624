-- Decimals: the cases of reading one.
-- Assumes nothing.
use mathlib.Core.Path.{◌≡◌, refl, sym, ◌∙◌, ap}
use mathlib.Core.Bool.{true, false}
use mathlib.Core.List.{List, [], ◌∷◌, ◌++◌}
use mathlib.Core.Logic.{◌≢◌}
use Prim.Native.Nat.{ℕ, zero, suc, ◌+◌, ◌*◌, ◌/◌, ◌%◌, ◌^◌, ◌≤◌, ◌<◌}
use native.Mathlib.Nat.{pow-suc}
use native.Mathlib.Omega.{arith}
use lib.Dec.{ltb}
use lib.ListN.{length, set, length-append}
use borrow.Author.Tests.{lt-ltb, le-ltb, eq-eqb, ne_eqb}
use Rattle.sets.specs.Truth.{when◌then◌else◌}
use Rattle.sets.proofs.Truth.{when-true, when-false, when-passes, when_stops, either}
use Rattle.std.specs.Prelude.{None}
use Rattle.text.specs.Digits.{digit_at, digit_byte}
use Rattle.text.specs.Decimal.{number, decimal_digit, decimal_at, decimal_of, decimal}
use Rattle.stores.specs.Stores.{put_at}
use Rattle.text.proofs.Digits.{digit_inside}
use Rattle.stores.proofs.Stores.{put_at_more}

decimal_yes : (text : List ℕ) (at : ℕ) → digit_at text at < 10 → decimal_digit text at ≡ true
unfolding decimal_digit
decimal_yes text at h = lt-ltb (digit_at text at) 10 h

decimal_no : (text : List ℕ) (at : ℕ) → 10 ≤ digit_at text at → decimal_digit text at ≡ false
unfolding decimal_digit
decimal_no text at h = le-ltb (digit_at text at) 10 h

-- the digits from a place on, as far as they were looked at
module _ (text : List ℕ) (at : ℕ) where
  pub decimal_none : 10 ≤ digit_at text at → None ≡ decimal_at text at
  unfolding decimal_at
  decimal_none h = sym (when_stops _ _ _ (decimal_no text at h))

  -- the first digit
  module _ (ha : digit_at text at < 10) where
    pub decimal_one : 10 ≤ digit_at text (at + 1) → number (digit_at text at) (at + 1) ≡ decimal_at text at
    unfolding decimal_at
    decimal_one hb = sym (when-passes _ _ _ (decimal_yes text at ha) ∙ when_stops _ _ _ (decimal_no text (at + 1) hb))

    -- and the second
    module _ (hb : digit_at text (at + 1) < 10) where
      pub decimal_leading : digit_at text at ≡ 0 → None ≡ decimal_at text at
      unfolding decimal_at
      decimal_leading z =
          sym
          (when-passes _ _ _ (decimal_yes text at ha) ∙ when-passes _ _ _ (decimal_yes text (at + 1) hb)
          ∙ when-true _ _ _ (eq-eqb (digit_at text at) 0 z))

      module _ (na : digit_at text at ≢ 0) where
        pub decimal_two : 10 ≤ digit_at text (at + 2) → number (10 * digit_at text at + digit_at text (at + 1)) (at + 2) ≡ decimal_at text at
        unfolding decimal_at
        decimal_two hc =
            sym
            (when-passes _ _ _ (decimal_yes text at ha) ∙ when-passes _ _ _ (decimal_yes text (at + 1) hb)
            ∙ when-false _ _ _ (ne_eqb (digit_at text at) 0 na) ∙ when_stops _ _ _ (decimal_no text (at + 2) hc))

        module _ (hc : digit_at text (at + 2) < 10) where
          pub decimal_three : 10 ≤ digit_at text (at + 3)
              → number (100 * digit_at text at + 10 * digit_at text (at + 1) + digit_at text (at + 2)) (at + 3) ≡ decimal_at text at
          unfolding decimal_at
          decimal_three hd =
              sym
              (when-passes _ _ _ (decimal_yes text at ha) ∙ when-passes _ _ _ (decimal_yes text (at + 1) hb)
              ∙ when-false _ _ _ (ne_eqb (digit_at text at) 0 na) ∙ when-passes _ _ _ (decimal_yes text (at + 2) hc)
              ∙ when_stops _ _ _ (decimal_no text (at + 3) hd))

          pub decimal_four : digit_at text (at + 3) < 10 → None ≡ decimal_at text at
          unfolding decimal_at
          decimal_four hd =
              sym
              (when-passes _ _ _ (decimal_yes text at ha) ∙ when-passes _ _ _ (decimal_yes text (at + 1) hb)
              ∙ when-false _ _ _ (ne_eqb (digit_at text at) 0 na) ∙ when-passes _ _ _ (decimal_yes text (at + 2) hc)
              ∙ when-passes _ _ _ (decimal_yes text (at + 3) hd))

-- each way to a decimal, or to none; and each digit lies inside the text
pub ruleset decimal_laws = (decimal_none, decimal_one, decimal_leading, decimal_two, decimal_three, decimal_four, digit_inside)

-- ---- the bytes of a decimal

one_digit : (k v : ℕ) → v < 10 → decimal_of (suc k) v ≡ digit_byte (v % 10) ∷ []
unfolding decimal_of
one_digit k v h = ap (λ (xs : List ℕ). xs ++ (digit_byte (v % 10) ∷ [])) (when-true (ltb v 10) [] (decimal_of k (v / 10)) (lt-ltb v 10 h))

one_more : (k v : ℕ) → 10 ≤ v → decimal_of (suc k) v ≡ decimal_of k (v / 10) ++ (digit_byte (v % 10) ∷ [])
unfolding decimal_of
one_more k v h = ap (λ (xs : List ℕ). xs ++ (digit_byte (v % 10) ∷ [])) (when-false (ltb v 10) [] (decimal_of k (v / 10)) (le-ltb v 10 h))

-- more digits than enough make no difference
decimal_enough : (k v : ℕ) → v < 10 ^ suc k → decimal_of (suc (suc k)) v ≡ decimal_of (suc k) v
unfolding decimal_of
decimal_enough zero v h = one_digit 1 v (omega arith) ∙ sym (one_digit 0 v (omega arith))
decimal_enough (suc k) v h =
    let p : 10 ^ suc (suc k) ≡ 10 ^ suc k * 10 = pow-suc 10 (suc k) in
    ap (λ (xs : List ℕ). (when ltb v 10 then [] else xs) ++ (digit_byte (v % 10) ∷ [])) (decimal_enough k (v / 10) (omega arith))

pub decimal_short : (v : ℕ) → v < 10 → decimal v ≡ digit_byte v ∷ []
unfolding decimal
decimal_short v h = let e : v % 10 ≡ v = omega arith in one_digit 19 v h ∙ ap (λ (x : ℕ). digit_byte x ∷ []) e

pub decimal_long : (v : ℕ) → 10 ≤ v → v < 2 ^ 64 → decimal v ≡ decimal (v / 10) ++ (digit_byte (v % 10) ∷ [])
unfolding decimal
decimal_long v h b = one_more 19 v h ∙ ap (λ (xs : List ℕ). xs ++ (digit_byte (v % 10) ∷ [])) (sym (decimal_enough 18 (v / 10) (omega arith)))

-- ---- writing one

pub length_short : (v : ℕ) → v < 10 → length (decimal v) ≡ 1
length_short v h = ap length (decimal_short v h)

pub length_long : (v : ℕ) → 10 ≤ v → v < 2 ^ 64 → length (decimal v) ≡ length (decimal (v / 10)) + 1
length_long v h b = ap length (decimal_long v h b) ∙ length-append (decimal (v / 10)) (digit_byte (v % 10) ∷ [])

pub put_short : (l : List ℕ) (at v b : ℕ) → v < 10 → b ≡ digit_byte v → (at + 1 ≡ at + length (decimal v)) × (set l at b ≡ put_at l at (decimal v))
unfolding put_at
put_short l at v b h e = (ap (λ (x : ℕ). at + x) (sym (length_short v h)), rw (decimal_short v h, e) refl)

pub put_long : (l l' : List ℕ) (at v r b : ℕ) → 10 ≤ v → v < 2 ^ 64 → r ≡ at + length (decimal (v / 10)) → l' ≡ put_at l at (decimal (v / 10))
    → b ≡ digit_byte (v % 10)
    → (r + 1 ≡ at + length (decimal v)) × (set l' r b ≡ put_at l at (decimal v))
put_long l l' at v r b h w er el eb =
    let n : length (decimal v) ≡ length (decimal (v / 10)) + 1 = length_long v h w in
    (omega arith, rw (decimal_long v h w, put_at_more l at (decimal (v / 10)) (digit_byte (v % 10)), er, el, eb) refl)

pub ruleset put_laws = (length_short, length_long, put_short, put_long)

few_digits : (k v : ℕ) → length (decimal_of k v) ≤ k
unfolding decimal_of
few_digits zero v = omega arith
few_digits (suc k) v =
    either v 10
    (λ h. rw (one_digit k v h) (omega arith))
    (λ h. rw (one_more k v h) (let e : length (decimal_of k (v / 10) ++ (digit_byte (v % 10) ∷ [])) ≡ length (decimal_of k (v / 10)) + 1 = length-append (decimal_of k (v / 10)) (digit_byte (v % 10) ∷ []) in omega (arith, few_digits k (v / 10))))

-- room enough for any
pub length-decimal : (v : ℕ) → length (decimal v) ≤ 20
unfolding decimal
length-decimal v = few_digits 20 v

-- by the power of ten that v reaches
pub length_between : (k v : ℕ) → 10 ^ k ≤ v → v < 10 * 10 ^ k → v < 2 ^ 64 → length (decimal v) ≡ k + 1
length_between zero v l h b = length_short v (omega arith)
length_between (suc k) v l h b =
    let p : 10 ^ suc k ≡ 10 ^ k * 10 = pow-suc 10 k in
    let q : 0 < 10 ^ k = pow_pos k in
    let r : length (decimal (v / 10)) ≡ k + 1 = length_between k (v / 10) (omega arith) (omega arith) (omega arith) in
    let s : length (decimal v) ≡ length (decimal (v / 10)) + 1 = length_long v (omega arith) b in
    omega arith
  where
    pow_pos : (j : ℕ) → 0 < 10 ^ j
    pow_pos zero = omega arith
    pow_pos (suc j) = let p : 10 ^ suc j ≡ 10 ^ j * 10 = pow-suc 10 j in omega (arith, pow_pos j)

pub ruleset length_laws = (length_short, length_between, length-decimal)
