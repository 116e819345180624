-- Digits and their bytes.
-- Assumes nothing.
use mathlib.Core.Path.{◌≡◌, ◌∙◌, ap}
use mathlib.Core.Bool.{false, So}
use mathlib.Core.List.{List}
use Prim.Native.Nat.{ℕ, ◌+◌, ◌-◌, ◌≤◌, ◌<◌}
use native.Mathlib.Omega.{arith}
use lib.Dec.{leb, ltb}
use lib.ListN.{length, get_or, get_or-eq_default}
use borrow.Author.Tests.{lt-ltb, le-ltb}
use Rattle.sets.specs.Truth.{◌and◌, when◌then◌else◌}
use Rattle.sets.proofs.Truth.{not-So, reflect, when-true, when-false, either}
use Rattle.text.specs.Digits.{digit_byte, digit_of, digit_at}

-- a byte outside a range of bytes
below_range : (lo hi b : ℕ) → b < lo → (leb lo b and leb b hi) ≡ false
below_range lo hi b h = not-So (leb lo b and leb b hi) (λ s. let k : (lo ≤ b) × (b ≤ hi) = simp reflect at s in omega arith)

above_range : (lo hi b : ℕ) → hi < b → (leb lo b and leb b hi) ≡ false
above_range lo hi b h = not-So (leb lo b and leb b hi) (λ s. let k : (lo ≤ b) × (b ≤ hi) = simp reflect at s in omega arith)

in_range : (lo hi b : ℕ) → lo ≤ b → b ≤ hi → So (leb lo b and leb b hi)
in_range lo hi b l h = simp reflect (l, h)

module _ (b : ℕ) where
  no_decimal : (leb 48 b and leb b 57) ≡ false → digit_of b ≡ (when leb 97 b and leb b 102 then b - 87 else 16)
  unfolding digit_of
  no_decimal e = when-false (leb 48 b and leb b 57) (b - 48) (when leb 97 b and leb b 102 then b - 87 else 16) e

  no_letter : (leb 97 b and leb b 102) ≡ false → (when leb 97 b and leb b 102 then b - 87 else 16) ≡ 16
  no_letter e = when-false (leb 97 b and leb b 102) (b - 87) 16 e

  pub digit_low : b < 48 → digit_of b ≡ 16
  digit_low h = no_decimal (below_range 48 57 b h) ∙ no_letter (below_range 97 102 b (omega arith))

  pub digit_decimal : 48 ≤ b → b ≤ 57 → digit_of b ≡ b - 48
  unfolding digit_of
  digit_decimal l h = when-true (leb 48 b and leb b 57) (b - 48) (when leb 97 b and leb b 102 then b - 87 else 16) (in_range 48 57 b l h)

  pub digit_between : 57 < b → b < 97 → digit_of b ≡ 16
  digit_between l h = no_decimal (above_range 48 57 b l) ∙ no_letter (below_range 97 102 b h)

  pub digit_letter : 97 ≤ b → b ≤ 102 → digit_of b ≡ b - 87
  digit_letter l h = no_decimal (above_range 48 57 b (omega arith)) ∙ when-true (leb 97 b and leb b 102) (b - 87) 16 (in_range 97 102 b l h)

  pub digit_high : 102 < b → digit_of b ≡ 16
  digit_high l = no_decimal (above_range 48 57 b (omega arith)) ∙ no_letter (above_range 97 102 b l)

  -- a byte is a decimal digit, a letter, or none
  pub digit-cases {ℓ} : {C : Type ℓ} → (48 ≤ b → b ≤ 57 → digit_of b ≡ b - 48 → C) → (97 ≤ b → b ≤ 102 → digit_of b ≡ b - 87 → C) → (digit_of b ≡ 16 → C) → C
  digit-cases dec let' none =
      either b 48 (λ h. none (digit_low h))
      (λ l. either b 58 (λ h. dec l (omega arith) (digit_decimal l (omega arith)))
      (λ l. either b 97 (λ h. none (digit_between (omega arith) h))
      (λ l. either b 103 (λ h. let' l (omega arith) (digit_letter l (omega arith)))
      (λ l. none (digit_high (omega arith))))))

  pub digit_le : digit_of b ≤ 16
  digit_le = digit-cases (λ l h (e : digit_of b ≡ b - 48). omega arith) (λ l h (e : digit_of b ≡ b - 87). omega arith) (λ (e : digit_of b ≡ 16). omega arith)

pub ruleset digit_laws = (digit_low, digit_decimal, digit_between, digit_letter, digit_high)

pub byte_decimal : (d : ℕ) → d < 10 → digit_byte d ≡ 48 + d
unfolding digit_byte
byte_decimal d h = when-true (ltb d 10) (48 + d) (87 + d) (lt-ltb d 10 h)

pub byte_letter : (d : ℕ) → 10 ≤ d → digit_byte d ≡ 87 + d
unfolding digit_byte
byte_letter d h = when-false (ltb d 10) (48 + d) (87 + d) (le-ltb d 10 h)

pub ruleset byte_laws = (byte_decimal, byte_letter)

-- what was written is read back
pub digit_back : (d : ℕ) → d < 16 → digit_of (digit_byte d) ≡ d
digit_back d h =
    either d 10
    (λ l. ap digit_of (byte_decimal d l) ∙ digit_decimal (48 + d) (omega arith) (omega arith) ∙ (let e : 48 + d - 48 ≡ d = omega arith in e))
    (λ l. ap digit_of (byte_letter d l) ∙ digit_letter (87 + d) (omega arith) (omega arith) ∙ (let e : 87 + d - 87 ≡ d = omega arith in e))

-- what is read is what is written
pub byte_back : (b : ℕ) → digit_of b < 16 → digit_byte (digit_of b) ≡ b
byte_back b h =
    digit-cases b
    (λ l k (e : digit_of b ≡ b - 48). ap digit_byte e ∙ byte_decimal (b - 48) (omega arith) ∙ (let x : 48 + (b - 48) ≡ b = omega arith in x))
    (λ l k (e : digit_of b ≡ b - 87). ap digit_byte e ∙ byte_letter (b - 87) (omega arith) ∙ (let x : 87 + (b - 87) ≡ b = omega arith in x))
    (λ (e : digit_of b ≡ 16). let z : ⊥ = omega arith in absurd z)

-- ---- at a place of a text

pub digit_at_le : (text : List ℕ) (at : ℕ) → digit_at text at ≤ 16
unfolding digit_at
digit_at_le text at = digit_le (get_or text at 0)

pub digit_past : (text : List ℕ) (at : ℕ) → length text ≤ at → digit_at text at ≡ 16
unfolding digit_at
digit_past text at h = ap digit_of (get_or-eq_default text 0 h) ∙ digit_low 0 (omega arith)

pub digit_inside : (text : List ℕ) (at : ℕ) → digit_at text at < 16 → at < length text
digit_inside text at h =
    either at (length text) (λ l. l) (λ l. let e : digit_at text at ≡ 16 = digit_past text at l in let z : ⊥ = omega arith in absurd z)
