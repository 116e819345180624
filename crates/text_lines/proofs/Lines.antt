-- The header and one row: each way through the definition, by what the readers of the fields answer.
-- Assumes nothing.
use mathlib.Core.Path.{◌≡◌, refl, sym, ◌∙◌, ap}
use mathlib.Core.Bool.{Bool, true, false, So}
use mathlib.Core.List.{List}
use mathlib.Core.Logic.{◌≢◌}
use Prim.Native.Nat.{ℕ, ◌+◌}
use lib.Dec.{eqb}
use Rattle.std.specs.Prelude.{Option, Some, None, Ok, Err}
use Rattle.sets.specs.Truth.{◌and◌, when◌then◌else◌}
use Rattle.sets.proofs.Truth.{not-So, So-not, reflect, when-true, when-false}
use Rattle.model.specs.State.{within_limits}
use Rattle.refusals.specs.declared.Refusal.TheVariants.{Limits, Text}
use Rattle.text.specs.declared.rest.Rest.{Rest}
use Rattle.text.specs.Fixed.{holds, fixed_at, comma, line_end}
use Rattle.text.specs.Decimal.{Decimal, number, decimal_at}
use Rattle.text.specs.Rest.{after, after_fixed, after_line_end, after_decimal}
use Rattle.text_sets.specs.Hexadecimal.{hexadecimal_at, hexadecimal_field, after_digits}
use Rattle.text.proofs.Rests.{rest_fixed, no_fixed, rest_line_end, no_line_end, rest_decimal, no_decimal}
use Rattle.text.proofs.Bytes.{fixed_there, fixed_missing, line_end_there, line_end_missing}
use Rattle.text_sets.proofs.Hexadecimals.{hexadecimal_there, hexadecimal_missing, rest_digits, no_digits}
use Rattle.text_lines.specs.Format.{crew_word}
use Rattle.text_lines.specs.declared.header.Header.{Header}
use Rattle.text_lines.specs.Lines.{crew_header, limited, header_end, header_rest, header_fields, header_at, row_rest, row_digits_at}

-- ---- limits

pub limits_broken : (h : Header) → within_limits h.n h.m ≡ false → limited (Some h) ≡ Err Limits
unfolding limited
limits_broken h b = when-false (within_limits h.n h.m) (Ok h) (Err Limits) b

pub limits_kept_lem : (h : Header) → So (within_limits h.n h.m) → limited (Some h) ≡ Ok h
unfolding limited
limits_kept_lem h k = when-true (within_limits h.n h.m) (Ok h) (Err Limits) k

-- the same of the header of a text
pub header_malformed : (text : List ℕ) → header_fields text ≡ None → Err Text ≡ header_at text
unfolding header_at limited
header_malformed text e = sym (ap limited e)

pub header_beyond_limits : (text : List ℕ) (h : Header) → header_fields text ≡ Some h → within_limits h.n h.m ≡ false → Err Limits ≡ header_at text
unfolding header_at
header_beyond_limits text h e b = sym (ap limited e ∙ limits_broken h b)

pub header_within_limits : (text : List ℕ) (h : Header) → header_fields text ≡ Some h → within_limits h.n h.m ≡ true → Ok h ≡ header_at text
unfolding header_at
header_within_limits text h e k = sym (ap limited e ∙ limits_kept_lem h k)

pub ruleset header_laws = (header_malformed, header_beyond_limits, header_within_limits)

-- ---- the header, from the front

module _ (text : List ℕ) (start : Rest) (t : start.text.now ≡ text) (z : start.at ≡ 0) where
  pub fields_no_word : after_fixed start crew_word ≡ None → None ≡ header_fields text
  unfolding header_fields
  fields_no_word a = sym (when-false _ _ _ (fixed_missing text 0 crew_word refl (no_fixed start text 0 t z crew_word a)))

  module _ {users : Rest} (a : after_fixed start crew_word ≡ Some users) where
    word : (fixed_at text 0 crew_word ≡ Some users.at) × (users.text.now ≡ text) × (users.text ≡ start.text)
    word = rest_fixed start text 0 t z crew_word a

    after_word : header_fields text ≡ header_rest text (decimal_at text users.at)
    unfolding header_fields
    after_word =
        let w = fixed_there text 0 crew_word refl word.0 in
        when-true _ _ _ w.0 ∙ ap (λ (x : ℕ). header_rest text (decimal_at text x)) (sym w.1)

    pub fields_no_users : after_decimal users ≡ None → None ≡ header_fields text
    unfolding header_rest
    fields_no_users e = sym (after_word ∙ ap (header_rest text) (no_decimal users text users.at word.1 refl e))

    module _ {n : ℕ} {comma_on : Rest} (b : after_decimal users ≡ Some (n, comma_on)) where
      first : (decimal_at text users.at ≡ number n comma_on.at) × (comma_on.text.now ≡ text) × (comma_on.text ≡ users.text)
      first = rest_decimal users text users.at word.1 refl b

      after_users : header_fields text ≡ header_rest text (number n comma_on.at)
      after_users = after_word ∙ ap (header_rest text) first.0

      pub fields_no_comma : after_fixed comma_on comma ≡ None → None ≡ header_fields text
      unfolding header_rest
      fields_no_comma e =
          sym (after_users ∙ when-false _ _ _ (fixed_missing text comma_on.at comma refl (no_fixed comma_on text comma_on.at first.1 refl comma e)))

      module _ {permissions : Rest} (c : after_fixed comma_on comma ≡ Some permissions) where
        between : (fixed_at text comma_on.at comma ≡ Some permissions.at) × (permissions.text.now ≡ text) × (permissions.text ≡ comma_on.text)
        between = rest_fixed comma_on text comma_on.at first.1 refl comma c

        after_comma : header_fields text ≡ header_end text n (decimal_at text permissions.at)
        unfolding header_rest
        after_comma =
            let w = fixed_there text comma_on.at comma refl between.0 in
            after_users ∙ when-true _ _ _ w.0 ∙ ap (λ (x : ℕ). header_end text n (decimal_at text x)) (sym w.1)

        pub fields_no_permissions : after_decimal permissions ≡ None → None ≡ header_fields text
        unfolding header_end
        fields_no_permissions e = sym (after_comma ∙ ap (header_end text n) (no_decimal permissions text permissions.at between.1 refl e))

        module _ {m : ℕ} {end : Rest} (d : after_decimal permissions ≡ Some (m, end)) where
          second : (decimal_at text permissions.at ≡ number m end.at) × (end.text.now ≡ text) × (end.text ≡ permissions.text)
          second = rest_decimal permissions text permissions.at between.1 refl d

          after_permissions : header_fields text ≡ header_end text n (number m end.at)
          after_permissions = after_comma ∙ ap (header_end text n) second.0

          pub fields_no_end : after_line_end end ≡ None → None ≡ header_fields text
          unfolding header_end
          fields_no_end e =
              sym (after_permissions ∙ when-false _ _ _ (line_end_missing text end.at refl (no_line_end end text end.at second.1 refl e)))

          pub fields_read : {next : Rest} → after_line_end end ≡ Some next → Some (crew_header n m next.at) ≡ header_fields text
          unfolding header_end
          fields_read e =
              let w = line_end_there text end.at refl (rest_line_end end text end.at second.1 refl e).0 in
              sym (after_permissions ∙ when-true _ _ _ w.0 ∙ ap (λ (x : ℕ). Some (crew_header n m x)) (sym w.1))

-- the same by what the text holds
pub fields_held : (text : List ℕ) {n m next end : ℕ} → So (holds text 0 crew_word) → decimal_at text 5 ≡ number n next → So (holds text next comma)
    → decimal_at text (next + 1) ≡ number m end → So (holds text end line_end) → Some (crew_header n m (end + 1)) ≡ header_fields text
unfolding header_fields header_rest header_end
fields_held text {n} a b c d e =
    sym (when-true _ _ _ a ∙ ap (header_rest text) b ∙ when-true _ _ _ c ∙ ap (header_end text n) d ∙ when-true _ _ _ e)

pub ruleset fields_laws = (fields_no_word, fields_no_users, fields_no_comma, fields_no_permissions, fields_no_end, fields_read)

-- ---- a row, from the front

-- by what the text holds after the row's number
module _ (text : List ℕ) (d u at : ℕ) {v : Decimal} (a : decimal_at text at ≡ Some v) where
  -- the test of the whole line
  abbrev form : Bool
  form = eqb v.value u and holds text v.next comma and hexadecimal_at d text (v.next + 1) and holds text (v.next + 1 + d) line_end

  row_by : row_digits_at text d u at ≡ (when form then Some (v.next + 1) else None)
  unfolding row_digits_at row_rest
  row_by = ap (row_rest text d u) a

  row_fails : (v.value ≡ u → So (holds text v.next comma) → So (hexadecimal_at d text (v.next + 1)) → So (holds text (v.next + 1 + d) line_end) → ⊥)
      → None ≡ row_digits_at text d u at
  row_fails h =
      let no : form ≡ false =
      not-So form
      (λ s.
      let k : (((v.value ≡ u) × So (holds text v.next comma)) × So (hexadecimal_at d text (v.next + 1))) × So (holds text (v.next + 1 + d) line_end) =
      simp reflect at s in
      h k.0.0.0 k.0.0.1 k.0.1 k.1) in
      sym (row_by ∙ when-false _ _ _ no)

  pub row_held : v.value ≡ u → So (holds text v.next comma) → So (hexadecimal_at d text (v.next + 1)) → So (holds text (v.next + 1 + d) line_end)
      → Some (v.next + 1) ≡ row_digits_at text d u at
  row_held b c e f = let ok : So form = simp reflect (((b, c), e), f) in sym (row_by ∙ when-true _ _ _ ok)

-- field by field
module _ (rest : Rest) (d u : ℕ) where
  abbrev text : List ℕ
  text = rest.text.now

  abbrev row : Option ℕ
  row = row_digits_at text d u rest.at

  none : None ≡ row → None ≡ after rest row
  unfolding after
  none e = ap (after rest) e

  pub row_no_number : after_decimal rest ≡ None → None ≡ after rest row
  unfolding row_digits_at row_rest
  row_no_number a = none (sym (ap (row_rest text d u) (no_decimal rest text rest.at refl refl a)))

  module _ {v : ℕ} {number_end : Rest} (a : after_decimal rest ≡ Some (v, number_end)) where
    abbrev next : ℕ
    next = number_end.at

    row_number : (decimal_at text rest.at ≡ number v next) × (number_end.text.now ≡ text) × (number_end.text ≡ rest.text)
    row_number = rest_decimal rest text rest.at refl refl a

    fails : (v ≡ u → So (holds text next comma) → So (hexadecimal_at d text (next + 1)) → So (holds text (next + 1 + d) line_end) → ⊥) → None ≡ after rest row
    fails h = none (row_fails text d u rest.at row_number.0 h)

    pub row_other : v ≢ u → None ≡ after rest row
    row_other b = fails (λ e _ _ _. b e)

    pub row_no_comma : after_fixed number_end comma ≡ None → None ≡ after rest row
    row_no_comma c = fails (λ _ s _ _. So-not (fixed_missing text next comma refl (no_fixed number_end text next row_number.1 refl comma c)) s)

    module _ {digits : Rest} (c : after_fixed number_end comma ≡ Some digits) where
      row_comma : (fixed_at text next comma ≡ Some digits.at) × (digits.text.now ≡ text) × (digits.text ≡ number_end.text)
      row_comma = rest_fixed number_end text next row_number.1 refl comma c

      comma_there : (holds text next comma ≡ true) × (digits.at ≡ next + 1)
      comma_there = fixed_there text next comma refl row_comma.0

      pub row_no_digits : after_digits digits d ≡ None → None ≡ after rest row
      row_no_digits e =
          fails (λ _ _ s _. So-not (hexadecimal_missing d text digits.at refl (no_digits digits d text digits.at row_comma.1 refl e)) (rw (sym comma_there.1) at s))

      module _ {end : Rest} (e : after_digits digits d ≡ Some end) where
        row_digits : (hexadecimal_field d text digits.at ≡ Some end.at) × (end.text.now ≡ text) × (end.text ≡ digits.text)
        row_digits = rest_digits digits d text digits.at row_comma.1 refl e

        pub row_no_end : after_line_end end ≡ None → None ≡ after rest row
        row_no_end f =
            let x = hexadecimal_there d text digits.at refl row_digits.0 in
            fails (λ _ _ _ s. So-not (line_end_missing text end.at refl (no_line_end end text end.at row_digits.1 refl f)) (rw (x.1, comma_there.1) s))

        pub row_is : {k : Rest} → v ≡ u → after_line_end end ≡ Some k → Some digits ≡ after rest row
        unfolding after
        row_is b f =
            let x = hexadecimal_there d text digits.at refl row_digits.0 in
            let y = line_end_there text end.at refl (rest_line_end end text end.at row_digits.1 refl f).0 in
            let same : digits.text ≡ rest.text = row_comma.2 ∙ row_number.2 in
            (λ i. Some (record { text = same i; at = comma_there.1 i }))
            ∙ ap (after rest) (row_held text d u rest.at row_number.0 b comma_there.0 (rw comma_there.1 at x.0) (rw (x.1, comma_there.1) at y.0))

pub ruleset row_laws = (row_no_number, row_other, row_no_comma, row_no_digits, row_no_end, row_is)
