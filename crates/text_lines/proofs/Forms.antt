-- What the form of a line says: the fields, one after another.
-- Assumes nothing.
use mathlib.Core.Path.{◌≡◌, refl, sym, ◌∙◌, ap, subst}
use mathlib.Core.Bool.{false, So}
use mathlib.Core.List.{List}
use Prim.Native.Nat.{ℕ, ◌+◌, ◌≤◌}
use native.Mathlib.Omega.{arith}
use lib.Dec.{eqb}
use lib.ListN.{length}
use Rattle.std.specs.Prelude.{Option, Some, None, Ok, Err}
use Rattle.refusals.specs.declared.Refusal.TheVariants.{Limits, Text}
use Rattle.sets.specs.Truth.{◌and◌}
use Rattle.sets.proofs.Truth.{by_test, reflect, when_cases}
use Rattle.std.proofs.lemmas.Option.{none-some, same_Some}
use Rattle.model.specs.State.{within_limits}
use Rattle.text.specs.Decimal.{Decimal}
use Rattle.text.specs.Fixed.{holds, comma, line_end}
use Rattle.text.specs.Decimal.{number, decimal_at}
use Rattle.text_sets.specs.Hexadecimal.{hexadecimal_at}
use Rattle.text.proofs.Bytes.{holds_end}
use Rattle.text_lines.proofs.Lines.{header_malformed, header_beyond_limits, header_within_limits}
use Rattle.text_lines.specs.Format.{crew_word}
use Rattle.text_lines.specs.declared.header.Header.{Header}
use Rattle.text_lines.specs.Lines.{crew_header, limited, header_end, header_rest, header_fields, header_at, row_rest, row_digits_at}

-- ---- the header

pub record HeaderForm (text : List ℕ) (n m at : ℕ) : Type 0 where
  pub next : ℕ
  pub end : ℕ
  pub word_there : So (holds text 0 crew_word)
  pub users : decimal_at text 5 ≡ number n next
  pub comma_there : So (holds text next comma)
  pub permissions : decimal_at text (next + 1) ≡ number m end
  pub end_there : So (holds text end line_end)
  pub place : at ≡ end + 1

module _ (text : List ℕ) (h : Header) where
  header_second : (n next : ℕ) → So (holds text 0 crew_word) → decimal_at text 5 ≡ number n next → So (holds text next comma)
      → (o : Option Decimal) → decimal_at text (next + 1) ≡ o → header_end text n o ≡ Some h → HeaderForm text h.n h.m h.next
  unfolding header_end
  header_second n next w a b (Some m) c e =
      when_cases (holds text m.next line_end) (Some (crew_header n m.value (m.next + 1))) None (Some h) e
      (λ l f.
      let form : HeaderForm text n m.value (m.next + 1) =
      record { next = next; end = m.next; word_there = w; users = a; comma_there = b; permissions = c; end_there = l; place = refl } in
      let same : crew_header n m.value (m.next + 1) ≡ h = same_Some _ _ f in
      subst (λ (x : Header). HeaderForm text x.n x.m x.next) same form)
      (λ _ f. absurd (none-some _ f))
  header_second n next w a b None c e = absurd (none-some _ e)

  header_first : So (holds text 0 crew_word) → (o : Option Decimal) → decimal_at text 5 ≡ o → header_rest text o ≡ Some h → HeaderForm text h.n h.m h.next
  unfolding header_rest
  header_first w (Some n) a e =
      when_cases (holds text n.next comma) (header_end text n.value (decimal_at text (n.next + 1))) None (Some h) e
      (λ b. header_second n.value n.next w a b (decimal_at text (n.next + 1)) refl)
      (λ _ f. absurd (none-some _ f))
  header_first w None a e = absurd (none-some _ e)

  -- a header that has its form
  pub header_seen : header_fields text ≡ Some h → HeaderForm text h.n h.m h.next
  unfolding header_fields
  header_seen e =
      when_cases (holds text 0 crew_word) (header_rest text (decimal_at text 5)) None (Some h) e
      (λ w. header_first w (decimal_at text 5) refl)
      (λ _ f. absurd (none-some _ f))

-- what its limits made of it
module _ (text : List ℕ) where
  accepted_fields : (h : Header) (o : Option Header) → header_fields text ≡ o → limited o ≡ Ok h → (header_fields text ≡ Some h) × So (within_limits h.n h.m)
  unfolding limited
  accepted_fields h (Some x) e f =
      when_cases (within_limits x.n x.m) (Ok x) (Err Limits) (Ok h) f
      (λ t. λ (k : Ok x ≡ Ok h). let same : x ≡ h = cc in (e ∙ ap Some same, subst (λ (y : Header). So (within_limits y.n y.m)) same t))
      (λ t. λ (k : Err Limits ≡ Ok h). let no : ⊥ = grind arith in absurd no)
  accepted_fields h None e f = let no : ⊥ = grind arith in absurd no

  refused_fields : (o : Option Header) → header_fields text ≡ o → limited o ≡ Err Limits → (h : Header) × (header_fields text ≡ Some h) × (within_limits h.n h.m ≡ false)
  unfolding limited
  refused_fields (Some x) e f =
      when_cases (within_limits x.n x.m) (Ok x) (Err Limits) (Err Limits) f
      (λ t. λ (k : Ok x ≡ Err Limits). let no : ⊥ = grind arith in absurd no)
      (λ t _. (x, e, t))
  refused_fields None e f = let no : ⊥ = grind arith in absurd no

pub header_form : (text : List ℕ) (h : Header) → header_at text ≡ Ok h → HeaderForm text h.n h.m h.next × So (within_limits h.n h.m)
unfolding header_at
header_form text h e = let a = accepted_fields text h (header_fields text) refl e in (header_seen text h a.0, a.1)

pub header_beyond : (text : List ℕ) → header_at text ≡ Err Limits → (h : Header) × HeaderForm text h.n h.m h.next × (within_limits h.n h.m ≡ false)
unfolding header_at
header_beyond text e = let a = refused_fields text (header_fields text) refl e in (a.0, header_seen text a.0 a.1, a.2)

-- refused by its form: it has none
pub malformed_fields : (text : List ℕ) → header_at text ≡ Err Text → header_fields text ≡ None
unfolding header_at limited
malformed_fields text e = go (header_fields text) refl e
  where
    go : (o : Option Header) → header_fields text ≡ o → limited o ≡ Err Text → header_fields text ≡ None
    go None a f = a
    go (Some h) a f =
        when_cases (within_limits h.n h.m) (Ok h) (Err Limits) (Err Text) f
        (λ t. λ (k : Ok h ≡ Err Text). let no : ⊥ = grind arith in absurd no)
        (λ t. λ (k : Err Limits ≡ Err Text). let no : ⊥ = grind arith in absurd no)

-- accepted, or refused by its form or by its limits
pub header_cases {ℓ} : {C : Type ℓ} (text : List ℕ) → ((h : Header) → header_at text ≡ Ok h → C) → (header_at text ≡ Err Text → C)
    → (header_at text ≡ Err Limits → C) → C
unfolding header_at
header_cases {C = C} text kept form limits = go (header_fields text) refl
  where
    go : (o : Option Header) → header_fields text ≡ o → C
    go None e = form (sym (header_malformed text e))
    go (Some h) e =
        by_test (within_limits h.n h.m) (λ t. kept h (sym (header_within_limits text h e t))) (λ t. limits (sym (header_beyond_limits text h e t)))

-- ---- a row

pub record RowForm (text : List ℕ) (d u at digits : ℕ) : Type 0 where
  pub next : ℕ
  pub number : decimal_at text at ≡ number u next
  pub place : digits ≡ next + 1
  pub comma_there : So (holds text next comma)
  pub digits_there : So (hexadecimal_at d text (next + 1))
  pub end_there : So (holds text (next + 1 + d) line_end)

pub row_form : (text : List ℕ) (d u at digits : ℕ) → row_digits_at text d u at ≡ Some digits → RowForm text d u at digits
unfolding row_digits_at row_rest
row_form text d u at digits e = go (decimal_at text at) refl e
  where
    go : (o : Option Decimal) → decimal_at text at ≡ o → row_rest text d u o ≡ Some digits → RowForm text d u at digits
    go None a f = absurd (none-some _ f)
    go (Some v) a f =
        when_cases (eqb v.value u and holds text v.next comma and hexadecimal_at d text (v.next + 1) and holds text (v.next + 1 + d) line_end)
        (Some (v.next + 1)) None (Some digits) f
        (λ k. λ (g : Some (v.next + 1) ≡ Some digits).
        let p : (((v.value ≡ u) × So (holds text v.next comma)) × So (hexadecimal_at d text (v.next + 1))) × So (holds text (v.next + 1 + d) line_end) =
        simp reflect at k in
        record {
          next = v.next;
          number = a ∙ ap (λ (x : ℕ). number x v.next) p.0.0.0;
          place = sym (same_Some _ _ g);
          comma_there = p.0.0.1;
          digits_there = p.0.1;
          end_there = p.1;
        })
        (λ k g. absurd (none-some _ g))

module _ (text : List ℕ) (d u at digits : ℕ) (e : row_digits_at text d u at ≡ Some digits) where
  pub row_has : So (hexadecimal_at d text digits)
  row_has = let r = row_form text d u at digits e in rw r.place r.digits_there

  pub row_room : digits + d + 1 ≤ length text
  row_room =
      let r = row_form text d u at digits e in
      let p : digits ≡ r.next + 1 = r.place in
      let h : r.next + 1 + d + 1 ≤ length text = holds_end text (r.next + 1 + d) line_end r.end_there in
      omega arith
