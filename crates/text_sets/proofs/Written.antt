-- What was written is read back, and what is read is what is written, for the digits of a set.
-- Assumes nothing.
use mathlib.Core.Path.{◌≡◌, refl, sym, ◌∙◌, ap}
use mathlib.Core.Bool.{So}
use mathlib.Core.List.{List}
use Prim.Native.Nat.{ℕ, zero, suc, ◌+◌, ◌-◌, ◌*◌, ◌/◌, ◌%◌, ◌^◌, ◌≤◌, ◌<◌}
use native.Mathlib.Nat.{add_assoc, pow-suc, div-one, div-eq_of_lt, div-div-eq-div-mul, not-suc-le-zero, le_of_suc-le-suc}
use native.Mathlib.Omega.{arith}
use lib.Arith.{digits_div}
use lib.ListN.{length, get_or}
use Rattle.text.specs.Digits.{digit_byte, digit_at}
use Rattle.text.specs.Fixed.{holds}
use Rattle.text.proofs.Bytes.{holds_iff, holds_end}
use Rattle.text.proofs.Written.{held_digit, byte_there}
use Rattle.text_sets.specs.Hexadecimal.{hexadecimal_at, hexadecimal_value, hexadecimal}
use Rattle.text_sets.proofs.Hexadecimals.{sixteen, hex_iff, hex_digit, hex_end, hex_lt, hex_more, hex_split, length-hexadecimal}

hex_byte : (d s i : ℕ) → i < d → get_or (hexadecimal d s) i 0 ≡ digit_byte (s / 16 ^ (d - 1 - i) % 16)
unfolding hexadecimal
hex_byte zero s i h = absurd (not-suc-le-zero h)
hex_byte (suc d) s zero h = let e : suc d - 1 - 0 ≡ d = omega arith in rw e refl
hex_byte (suc d) s (suc i) h = let e : suc d - 1 - suc i ≡ d - 1 - i = omega arith in rw e (hex_byte d s i (le_of_suc-le-suc h))

module _ (d : ℕ) (text : List ℕ) (at s : ℕ) (b : s < 16 ^ d) (h : So (holds text at (hexadecimal d s))) where
  hex_held : (i : ℕ) → i < d → digit_at text (at + i) ≡ s / 16 ^ (d - 1 - i) % 16
  hex_held i l =
      sym
      (held_digit text at (hexadecimal d s) i (s / 16 ^ (d - 1 - i) % 16) h (let n : length (hexadecimal d s) ≡ d = length-hexadecimal d s in omega arith) (hex_byte d s i l)
      (omega arith))

  hex_so_far : (k : ℕ) → k ≤ d → hexadecimal_value k text at ≡ s / 16 ^ (d - k)
  unfolding hexadecimal_value
  hex_so_far zero l = let e : d - 0 ≡ d = omega arith in rw e (sym (div-eq_of_lt b))
  hex_so_far (suc k) l =
      let e : d - k ≡ suc (d - suc k) = omega arith in
      let f : d - 1 - k ≡ d - suc k = omega arith in
      let p : s / 16 ^ (d - k) ≡ s / 16 ^ (d - suc k) / 16 =
      ap (λ (x : ℕ). s / 16 ^ x) e ∙ ap (λ (x : ℕ). s / x) (pow-suc 16 (d - suc k)) ∙ sym (div-div-eq-div-mul s (16 ^ (d - suc k)) 16) in
      rw (hex_so_far k (omega arith), hex_held k (omega arith), p, f) (omega arith)

  -- what was written is read back
  pub hex_there : So (hexadecimal_at d text at)
  hex_there =
      let n : length (hexadecimal d s) ≡ d = length-hexadecimal d s in
      let l : at + length (hexadecimal d s) ≤ length text = holds_end text at (hexadecimal d s) h in
      (hex_iff d text at).1 (omega arith, λ i k. let e : digit_at text (at + i) ≡ s / 16 ^ (d - 1 - i) % 16 = hex_held i k in omega arith)

  pub hex_reads : hexadecimal_value d text at ≡ s
  hex_reads = let e : d - d ≡ 0 = omega arith in hex_so_far d (omega arith) ∙ rw e (div-one s)

-- what is read is what is written
pub hex_writes : (d : ℕ) (text : List ℕ) (at : ℕ) → So (hexadecimal_at d text at) → So (holds text at (hexadecimal d (hexadecimal_value d text at)))
hex_writes d text at h =
    let n : length (hexadecimal d (hexadecimal_value d text at)) ≡ d = length-hexadecimal d (hexadecimal_value d text at) in
    let l : at + d ≤ length text = hex_end d text at h in
    (holds_iff text at (hexadecimal d (hexadecimal_value d text at))).1
    (omega arith, λ i k. let b : i < d = omega arith in byte i b ∙ sym (hex_byte d (hexadecimal_value d text at) i b))
  where
    top : (i : ℕ) → i < d → hexadecimal_value d text at / 16 ^ (d - 1 - i) ≡ hexadecimal_value (i + 1) text at
    top i b =
        let e : i + 1 + (d - 1 - i) ≡ d = omega arith in
        let low : hexadecimal_value (d - 1 - i) text (at + (i + 1)) < 16 ^ (d - 1 - i) =
        rw (sixteen (d - 1 - i)) (hex_lt (d - 1 - i) text (at + (i + 1)) (λ j c. rw (add_assoc at (i + 1) j) (hex_digit d text at h (i + 1 + j) (omega arith)))) in
        ap (λ (x : ℕ). hexadecimal_value x text at / 16 ^ (d - 1 - i)) (sym e)
        ∙ ap (λ (x : ℕ). x / 16 ^ (d - 1 - i)) (hex_split (i + 1) (d - 1 - i) text at)
        ∙ digits_div (hexadecimal_value (i + 1) text at) low

    digit : (i : ℕ) → i < d → hexadecimal_value d text at / 16 ^ (d - 1 - i) % 16 ≡ digit_at text (at + i)
    digit i b =
        let p : hexadecimal_value d text at / 16 ^ (d - 1 - i) ≡ hexadecimal_value (i + 1) text at = top i b in
        let q : hexadecimal_value (i + 1) text at ≡ hexadecimal_value i text at * 16 + digit_at text (at + i) = hex_more i text at in
        let r : digit_at text (at + i) < 16 = hex_digit d text at h i b in
        rw (p, q) (omega arith)

    byte : (i : ℕ) → i < d → get_or text (at + i) 0 ≡ digit_byte (hexadecimal_value d text at / 16 ^ (d - 1 - i) % 16)
    byte i b = sym (ap digit_byte (digit i b) ∙ byte_there text (at + i) (hex_digit d text at h i b))
