-- What was written is read back, and what is read is what is written, field by field.
-- Assumes nothing.
use mathlib.Core.Path.{◌≡◌, refl, sym, ◌∙◌, ap}
use mathlib.Core.Bool.{So}
use mathlib.Core.List.{List, [], ◌∷◌}
use mathlib.Core.Logic.{◌≢◌}
use Prim.Native.Nat.{ℕ, zero, suc, ◌+◌, ◌*◌, ◌/◌, ◌%◌, ◌≤◌, ◌<◌}
use native.Mathlib.Nat.{add-zero}
use native.Mathlib.Omega.{arith}
use lib.ListN.{length, get_or}
use Rattle.sets.proofs.Truth.{either, equal_or}
use Rattle.std.specs.Prelude.{Option, None}
use Rattle.std.specs.Option.{option_map_or}
use Rattle.text.specs.Decimal.{Decimal}
use Rattle.text.specs.Digits.{digit_byte, digit_of, digit_at}
use Rattle.text.specs.Fixed.{holds, comma, line_end}
use Rattle.text.specs.Decimal.{number, decimal_at, decimal}
use Rattle.text.proofs.Digits.{digit_back, byte_back, digit_low, digit_inside}
use Rattle.text.proofs.Bytes.{holds_at, holds_one, holds-append}
use Rattle.text.proofs.Decimals.{decimal_none, decimal_one, decimal_leading, decimal_two, decimal_three, decimal_four, decimal_short, decimal_long}

-- ---- one digit

-- the byte of a digit there is that digit there
pub held_digit : (text : List ℕ) (at : ℕ) (bytes : List ℕ) (i d : ℕ) → So (holds text at bytes) → i < length bytes → get_or bytes i 0 ≡ digit_byte d
    → d < 16 → d ≡ digit_at text (at + i)
unfolding digit_at
held_digit text at bytes i d s l e h = sym (ap digit_of (holds_at text at bytes s i l ∙ e) ∙ digit_back d h)

pub digit_held : (text : List ℕ) (at : ℕ) {d : ℕ} → d ≡ digit_at text at → d < 16 → So (holds text at (digit_byte d ∷ []))
unfolding digit_at
digit_held text at {d} e h =
    (holds_one text at (digit_byte d)).1
    (digit_inside text at (omega arith), sym (byte_back (get_or text at 0) (omega arith)) ∙ ap digit_byte (sym e))

pub byte_there : (text : List ℕ) (at : ℕ) → digit_at text at < 16 → digit_byte (digit_at text at) ≡ get_or text at 0
unfolding digit_at
byte_there text at h = byte_back (get_or text at 0) h

-- no digit stands where a comma or a line's end does
no_digit : (text : List ℕ) (at b : ℕ) → b < 48 → So (holds text at (b ∷ [])) → digit_at text at ≡ 16
unfolding digit_at
no_digit text at b h s = ap digit_of ((holds_one text at b).0 s).1 ∙ digit_low b h

pub comma_parts : (text : List ℕ) (at : ℕ) → So (holds text at comma) → 10 ≤ digit_at text at
comma_parts text at s = let e : digit_at text at ≡ 16 = no_digit text at 44 (omega arith) s in omega arith

pub line_parts : (text : List ℕ) (at : ℕ) → So (holds text at line_end) → 10 ≤ digit_at text at
line_parts text at s = let e : digit_at text at ≡ 16 = no_digit text at 10 (omega arith) s in omega arith

-- ---- decimals

decimal_of_two : (a b : ℕ) → a ≢ 0 → a < 10 → b < 10 → decimal (10 * a + b) ≡ digit_byte a ∷ digit_byte b ∷ []
decimal_of_two a b n ha hb =
    let p : (10 * a + b) / 10 ≡ a = omega arith in
    let q : (10 * a + b) % 10 ≡ b = omega arith in
    let r : 10 ≤ 10 * a + b = positive a n in
    decimal_long (10 * a + b) r (omega arith) ∙ rw (p, q, decimal_short a ha) refl
  where
    positive : (a : ℕ) → a ≢ 0 → 10 ≤ 10 * a + b
    positive zero n = absurd (n refl)
    positive (suc a) n = omega arith

decimal_of_three : (a b c : ℕ) → a ≢ 0 → a < 10 → b < 10 → c < 10 → decimal (100 * a + 10 * b + c) ≡ digit_byte a ∷ digit_byte b ∷ digit_byte c ∷ []
decimal_of_three a b c n ha hb hc =
    let p : (100 * a + 10 * b + c) / 10 ≡ 10 * a + b = omega arith in
    let q : (100 * a + 10 * b + c) % 10 ≡ c = omega arith in
    let r : 10 ≤ 100 * a + 10 * b + c = positive a n in
    decimal_long (100 * a + 10 * b + c) r (omega arith) ∙ rw (p, q, decimal_of_two a b n ha hb) refl
  where
    positive : (a : ℕ) → a ≢ 0 → 10 ≤ 100 * a + 10 * b + c
    positive zero n = absurd (n refl)
    positive (suc a) n = omega arith

-- the three lengths of a decimal below 1000
pub decimal_lengths {ℓ} : {C : Type ℓ} (v : ℕ) → v < 1000
    → (v < 10 → decimal v ≡ digit_byte v ∷ [] → C)
    → ((a b : ℕ) → a ≢ 0 → a < 10 → b < 10 → v ≡ 10 * a + b → decimal v ≡ digit_byte a ∷ digit_byte b ∷ [] → C)
    → ((a b c : ℕ) → a ≢ 0 → a < 10 → b < 10 → c < 10 → v ≡ 100 * a + 10 * b + c → decimal v ≡ digit_byte a ∷ digit_byte b ∷ digit_byte c ∷ [] → C)
    → C
decimal_lengths v h one two three =
    either v 10 (λ l. one l (decimal_short v l))
    (λ l.
    either v 100
    (λ k.
    let e : v ≡ 10 * (v / 10) + v % 10 = omega arith in
    let n : v / 10 ≢ 0 = λ (z : v / 10 ≡ 0). omega arith in
    two (v / 10) (v % 10) n (omega arith) (omega arith) e (ap decimal e ∙ decimal_of_two (v / 10) (v % 10) n (omega arith) (omega arith)))
    (λ k.
    let e : v ≡ 100 * (v / 100) + 10 * (v / 10 % 10) + v % 10 = omega arith in
    let n : v / 100 ≢ 0 = λ (z : v / 100 ≡ 0). omega arith in
    three (v / 100) (v / 10 % 10) (v % 10) n (omega arith) (omega arith) (omega arith) e
    (ap decimal e ∙ decimal_of_three (v / 100) (v / 10 % 10) (v % 10) n (omega arith) (omega arith) (omega arith))))

pub decimal-length : (v : ℕ) → v < 1000 → length (decimal v) ≤ 3
decimal-length v h =
    decimal_lengths v h
    (λ l e. let x : length (decimal v) ≡ 1 = ap length e in omega arith)
    (λ a b n ha hb s e. let x : length (decimal v) ≡ 2 = ap length e in omega arith)
    (λ a b c n ha hb hc s e. let x : length (decimal v) ≡ 3 = ap length e in omega arith)

-- what was written is read back, where no digit follows
pub decimal_reads : (text : List ℕ) (at v : ℕ) → v < 1000 → So (holds text at (decimal v)) → 10 ≤ digit_at text (at + length (decimal v))
    → decimal_at text at ≡ number v (at + length (decimal v))
decimal_reads text at v h s k =
    decimal_lengths v h
    (λ l e.
    let x : length (decimal v) ≡ 1 = ap length e in
    let a0 : v ≡ digit_at text (at + 0) = held_digit text at (digit_byte v ∷ []) 0 v (rw e at s) (omega arith) refl (omega arith) in
    let d0 : v ≡ digit_at text at = rw (add-zero at) at a0 in
    let k1 : 10 ≤ digit_at text (at + 1) = rw x at k in
    rw x (sym (rw d0 (decimal_one text at (omega arith) k1))))
    (λ a b n ha hb w e.
    let x : length (decimal v) ≡ 2 = ap length e in
    let a0 : a ≡ digit_at text (at + 0) = held_digit text at (digit_byte a ∷ digit_byte b ∷ []) 0 a (rw e at s) (omega arith) refl (omega arith) in
    let b0 : b ≡ digit_at text (at + 1) = held_digit text at (digit_byte a ∷ digit_byte b ∷ []) 1 b (rw e at s) (omega arith) refl (omega arith) in
    let d0 : a ≡ digit_at text at = rw (add-zero at) at a0 in
    let k2 : 10 ≤ digit_at text (at + 2) = rw x at k in
    rw (x, w) (sym (rw (d0, b0) (decimal_two text at (omega arith) (omega arith) (rw d0 at n) k2))))
    (λ a b c n ha hb hc w e.
    let x : length (decimal v) ≡ 3 = ap length e in
    let a0 : a ≡ digit_at text (at + 0) =
    held_digit text at (digit_byte a ∷ digit_byte b ∷ digit_byte c ∷ []) 0 a (rw e at s) (omega arith) refl (omega arith) in
    let b0 : b ≡ digit_at text (at + 1) =
    held_digit text at (digit_byte a ∷ digit_byte b ∷ digit_byte c ∷ []) 1 b (rw e at s) (omega arith) refl (omega arith) in
    let c0 : c ≡ digit_at text (at + 2) =
    held_digit text at (digit_byte a ∷ digit_byte b ∷ digit_byte c ∷ []) 2 c (rw e at s) (omega arith) refl (omega arith) in
    let d0 : a ≡ digit_at text at = rw (add-zero at) at a0 in
    let k3 : 10 ≤ digit_at text (at + 3) = rw x at k in
    rw (x, w) (sym (rw (d0, b0, c0) (decimal_three text at (omega arith) (omega arith) (rw d0 at n) (omega arith) k3))))

-- what is read is what is written
pub record DecimalRead (text : List ℕ) (at v next : ℕ) : Type 0 where
  pub small : v < 1000
  pub there : So (holds text at (decimal v))
  pub place : next ≡ at + length (decimal v)

module _ (text : List ℕ) (at v next : ℕ) (e : decimal_at text at ≡ number v next) where
  nothing_read : None ≡ decimal_at text at → DecimalRead text at v next
  nothing_read k = let z : ◌≡◌ {A = ℕ} 0 1 = cc in absurd (omega arith)

  bytes_read : (w end : ℕ) (bytes : List ℕ) → number w end ≡ decimal_at text at → w < 1000 → decimal w ≡ bytes → So (holds text at bytes)
      → end ≡ at + length bytes → DecimalRead text at v next
  bytes_read w end bytes k h d s l =
      let r : number w end ≡ number v next = k ∙ e in
      let p : w ≡ v = ap (λ (o : Option Decimal). option_map_or (λ d. d.value) o 0) r in
      let q : end ≡ next = ap (λ (o : Option Decimal). option_map_or (λ d. d.next) o 0) r in
      let r : length (decimal v) ≡ length bytes = ap (λ (x : ℕ). length (decimal x)) (sym p) ∙ ap length d in
      let dv : decimal v ≡ bytes = ap decimal (sym p) ∙ d in
      record { small = omega arith; there = rw dv s; place = omega arith }

  pub decimal_writes : DecimalRead text at v next
  decimal_writes =
      either (digit_at text at) 10
      (λ ha.
      either (digit_at text (at + 1)) 10
      (λ hb.
      equal_or (digit_at text at) 0 (λ z. nothing_read (decimal_leading text at ha hb z))
      (λ n.
      either (digit_at text (at + 2)) 10
      (λ hc.
      either (digit_at text (at + 3)) 10
      (λ hd. nothing_read (decimal_four text at ha hb n hc hd))
      (λ hd.
      bytes_read (100 * digit_at text at + 10 * digit_at text (at + 1) + digit_at text (at + 2)) (at + 3)
      (digit_byte (digit_at text at) ∷ digit_byte (digit_at text (at + 1)) ∷ digit_byte (digit_at text (at + 2)) ∷ [])
      (decimal_three text at ha hb n hc hd) (omega arith)
      (decimal_of_three (digit_at text at) (digit_at text (at + 1)) (digit_at text (at + 2)) n ha hb hc)
      ((holds-append text at (digit_byte (digit_at text at) ∷ digit_byte (digit_at text (at + 1)) ∷ []) (digit_byte (digit_at text (at + 2)) ∷ [])).1
      (two_held ha hb, digit_held text (at + 2) refl (omega arith)))
      refl))
      (λ hc.
      bytes_read (10 * digit_at text at + digit_at text (at + 1)) (at + 2) (digit_byte (digit_at text at) ∷ digit_byte (digit_at text (at + 1)) ∷ [])
      (decimal_two text at ha hb n hc) (omega arith) (decimal_of_two (digit_at text at) (digit_at text (at + 1)) n ha hb) (two_held ha hb) refl)))
      (λ hb.
      bytes_read (digit_at text at) (at + 1) (digit_byte (digit_at text at) ∷ []) (decimal_one text at ha hb) (omega arith)
      (decimal_short (digit_at text at) ha) (digit_held text at refl (omega arith)) refl))
      (λ ha. nothing_read (decimal_none text at ha))
    where
      two_held : digit_at text at < 10 → digit_at text (at + 1) < 10
          → So (holds text at (digit_byte (digit_at text at) ∷ digit_byte (digit_at text (at + 1)) ∷ []))
      two_held ha hb =
          (holds-append text at (digit_byte (digit_at text at) ∷ []) (digit_byte (digit_at text (at + 1)) ∷ [])).1
          (digit_held text at refl (omega arith), digit_held text (at + 1) refl (omega arith))
