-- The rows so far are read, and the words hold them.
-- Assumes nothing.
use mathlib.Core.Path.{◌≡◌, refl, sym, ◌∙◌, ap}
use mathlib.Core.Bool.{not}
use Prim.Native.Nat.{◌+◌}
use native.Mathlib.Omega.{arith}
use borrow.Author.Rules.{rules}
use lib.Dec.{ltb}
use lib.ListN.{length}
use Rattle.std.specs.Prelude.{Some, None}
use Rattle.sets.specs.Sets.{collect}
use Rattle.sets.specs.Held.{set_of}
use Rattle.text.specs.Rest.{moved}
use Rattle.text.proofs.Rests.{after_there, after_missing}
use Rattle.text_lines.specs.Format.{digits_for}
use Rattle.text_lines.specs.Lines.{row_digits_at}
use Rattle.text_lines.proofs.Forms.{row_has, row_room}
use Rattle.text_crew.proofs.Answers.{bit_yes, bit_no, fill_none, fill_more, fill_broken, fill_bit, fill_all}
use Rattle.text_crew.proofs.Laid.{length-laid}
use Rattle.text_crew.proofs.rows.read_rows.Goals as goal
use Rattle.text_crew.proofs.rows.read_rows.Goals.{At-loop-u, In_ok-digits, In_err-digits}

-- the bits that are allowed
allowed : (c : At-loop-u) → set_of c.below-allowed.result ≡ collect 256 (λ i. ltb i c.args.m)
allowed c = c.below-allowed.ensures

row : (c : In_ok-digits) → (row_digits_at c.args.start.text.now (digits_for c.args.m) c.loop-u.u c.loop-u.rest.at ≡ Some c.in_ok-digits.digits.at)
    × (c.in_ok-digits.digits.text.now ≡ c.args.start.text.now)
row c =
    let o : c.read_row.result ≡ Some c.in_ok-digits.digits = grind arith in
    let w = after_there c.loop-u.rest _ (sym c.read_row.ensures ∙ o) in
    (rw (sym c.digits_for-d.ensures.value, sym c.loop-u.invariant.1) w.0, ap (λ b. b.now) w.1 ∙ c.loop-u.invariant.1)

no_row : (c : In_err-digits) → row_digits_at c.args.start.text.now (digits_for c.args.m) c.loop-u.u c.loop-u.rest.at ≡ None
no_row c =
    let o : c.read_row.result ≡ None = grind arith in
    rw (sym c.digits_for-d.ensures.value, sym c.loop-u.invariant.1) (after_missing c.loop-u.rest _ (sym c.read_row.ensures ∙ o))

pub loop-u-init : goal.loop-u-init
loop-u-init c = let e = c.requires.2 in (ap length e ∙ length-laid _, refl, fill_none _ _ _ _ e)

pub returns-in_err-digits : goal.returns-in_err-digits
returns-in_err-digits c =
    let made = fill_broken _ _ _ _ _ _ c.loop-u.invariant.2 c.args.n c.loop-u.words (omega arith) (no_row (goal.at.returns-in_err-digits c).In_err-digits) in
    let told = made.0 in
    record { value = grind arith; rows_laid = made.1 }

pub hexadecimal_set-s-requires-clause-so : goal.hexadecimal_set-s-requires-clause-so
hexadecimal_set-s-requires-clause-so c = let r = row (goal.at.hexadecimal_set-s-requires-clause-so c).In_ok-digits in
    rw (c.digits_for-d.ensures.value, r.1) (row_has _ _ _ _ _ r.0)

pub returns-then-not-is_subset : goal.returns-then-not-is_subset
returns-then-not-is_subset c =
    let made = let r = row (goal.at.returns-then-not-is_subset c).In_ok-digits in
    let bit = bit_no _ _ _ (omega arith) c.is_subset.ensures (allowed (goal.at.returns-then-not-is_subset c).At-loop-u) (ap not c.if-not-is_subset.true) in
    fill_bit _ _ _ _ _ _ c.loop-u.invariant.2 _ _ _ _ (omega arith) r.0 (rw (c.digits_for-d.ensures.value, r.1) at c.hexadecimal_set-s.ensures) bit in
    record { value = made.0; rows_laid = made.1 }

pub skip-rest-requires : goal.skip-rest-requires
skip-rest-requires c = omega (arith, c.digits_for-d.ensures.value, row_room _ _ _ _ _ (row (goal.at.skip-rest-requires c).In_ok-digits).0)

pub loop-u-preserved : goal.loop-u-preserved
unfolding moved
loop-u-preserved c = let r = row (goal.at.loop-u-preserved c).In_ok-digits in
    let bit = bit_yes _ _ _ (omega arith) c.is_subset.ensures (allowed (goal.at.loop-u-preserved c).At-loop-u) (ap not c.if-not-is_subset.false) in
    let f =
    fill_more _ _ _ _ _ _ c.loop-u.invariant.2 _ _ _ (omega arith) r.0 (rw (c.digits_for-d.ensures.value, r.1) at c.hexadecimal_set-s.ensures) bit c.store.ensures in
    let place : c.skip-rest.result.at ≡ c.in_ok-digits.digits.at + (c.digits_for-d.result + 1) = ap (λ x. x.at) c.skip-rest.ensures in
    let e : c.skip-rest.result.at ≡ c.in_ok-digits.digits.at + digits_for c.args.m + 1 = omega (arith, place, c.digits_for-d.ensures.value) in
    (search rules, ap (λ x. x.text.now) c.skip-rest.ensures ∙ r.1, rw e f)

pub returns : goal.returns
returns c =
    let made = let e : c.loop-u.u ≡ c.args.n = omega arith in rw e at (fill_all _ _ _ _ _ _ c.loop-u.invariant.2) in
    record { value = made.0; rows_laid = made.1 }
