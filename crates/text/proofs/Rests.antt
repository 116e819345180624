-- What is left after a field, by what the field tells.
-- Assumes nothing.
use mathlib.Core.Path.{◌≡◌, refl, sym, ap, ◌∙◌}
use mathlib.Core.List.{List}
use Prim.Native.Nat.{ℕ}
use native.Mathlib.Omega.{arith}
use Rattle.std.specs.Prelude.{Option, Some, None}
use Rattle.text.specs.declared.rest.Rest.{Rest}
use Rattle.text.specs.Decimal.{Decimal, number, decimal_at}
use Rattle.text.specs.Fixed.{fixed_at, line_end, line_end_at}
use Rattle.text.specs.Rest.{after, after_number, after_fixed, after_line_end, after_decimal}

-- where something is left, it is of the same text, from the field's end on
pub after_there : (rest : Rest) (o : Option ℕ) {r : Rest} → after rest o ≡ Some r → (o ≡ Some r.at) × (r.text ≡ rest.text)
unfolding after
after_there rest (Some k) {r} e =
    let q : ◌≡◌ {A = Rest} (record { text = rest.text; at = k }) r = cc in
    (ap (λ (x : Rest). Some x.at) q, sym (ap (λ (x : Rest). x.text) q))
after_there rest None e = let z : ◌≡◌ {A = ℕ} 0 1 = cc in absurd (omega arith)

pub after_missing : (rest : Rest) (o : Option ℕ) → after rest o ≡ None → o ≡ None
unfolding after
after_missing rest (Some k) e = let z : ◌≡◌ {A = ℕ} 0 1 = cc in absurd (omega arith)
after_missing rest None e = refl

number_there : (rest : Rest) (o : Option Decimal) {v : ℕ} {r : Rest} → after_number rest o ≡ Some (v, r) → (o ≡ number v r.at) × (r.text ≡ rest.text)
unfolding after_number
number_there rest (Some d) {v} {r} e =
    let q : ◌≡◌ {A = ℕ × Rest} (d.value, record { text = rest.text; at = d.next }) (v, r) = cc in
    (ap (λ (x : ℕ × Rest). number x.0 x.1.at) q, sym (ap (λ (x : ℕ × Rest). x.1.text) q))
number_there rest None e = let z : ◌≡◌ {A = ℕ} 0 1 = cc in absurd (omega arith)

number_missing : (rest : Rest) (o : Option Decimal) → after_number rest o ≡ None → o ≡ None
unfolding after_number
number_missing rest (Some d) e = let z : ◌≡◌ {A = ℕ} 0 1 = cc in absurd (omega arith)
number_missing rest None e = refl

-- the same of what is left of this text from this place on
module _ (rest : Rest) (text : List ℕ) (at : ℕ) (t : rest.text.now ≡ text) (a : rest.at ≡ at) where
  fixed_is : (bytes : List ℕ) → fixed_at rest.text.now rest.at bytes ≡ fixed_at text at bytes
  fixed_is bytes = λ i. fixed_at (t i) (a i) bytes

  decimal_is : decimal_at rest.text.now rest.at ≡ decimal_at text at
  decimal_is = λ i. decimal_at (t i) (a i)

  pub rest_fixed : (bytes : List ℕ) {r : Rest} → after_fixed rest bytes ≡ Some r → (fixed_at text at bytes ≡ Some r.at) × (r.text.now ≡ text) × (r.text ≡ rest.text)
  unfolding after_fixed
  rest_fixed bytes e = let w = after_there rest (fixed_at rest.text.now rest.at bytes) e in (sym (fixed_is bytes) ∙ w.0, ap (λ b. b.now) w.1 ∙ t, w.1)

  pub no_fixed : (bytes : List ℕ) → after_fixed rest bytes ≡ None → fixed_at text at bytes ≡ None
  unfolding after_fixed
  no_fixed bytes e = sym (fixed_is bytes) ∙ after_missing rest (fixed_at rest.text.now rest.at bytes) e

  pub rest_line_end : {r : Rest} → after_line_end rest ≡ Some r → (line_end_at text at ≡ Some r.at) × (r.text.now ≡ text) × (r.text ≡ rest.text)
  unfolding after_line_end line_end_at
  rest_line_end e = rest_fixed line_end e

  pub no_line_end : after_line_end rest ≡ None → line_end_at text at ≡ None
  unfolding after_line_end line_end_at
  no_line_end e = no_fixed line_end e

  pub rest_decimal : {v : ℕ} {r : Rest} → after_decimal rest ≡ Some (v, r) → (decimal_at text at ≡ number v r.at) × (r.text.now ≡ text) × (r.text ≡ rest.text)
  unfolding after_decimal
  rest_decimal e = let w = number_there rest (decimal_at rest.text.now rest.at) e in (sym decimal_is ∙ w.0, ap (λ b. b.now) w.1 ∙ t, w.1)

  pub no_decimal : after_decimal rest ≡ None → decimal_at text at ≡ None
  unfolding after_decimal
  no_decimal e = sym decimal_is ∙ number_missing rest (decimal_at rest.text.now rest.at) e
