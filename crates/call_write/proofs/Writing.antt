-- What the writer answers and leaves, by what its checks find.
-- Assumes nothing.
use mathlib.Core.Path.{◌≡◌, refl, sym, ◌∙◌, ap}
use mathlib.Core.Bool.{So}
use mathlib.Core.Logic.{◌↔◌, ◌≢◌}
use mathlib.Core.List.{List, ◌++◌}
use Prim.Native.Nat.{ℕ, ◌≤◌, ◌<◌}
use native.Mathlib.Omega.{arith}
use lib.Dec.{eqb}
use lib.ListN.{length, get_or, drop}
use Rattle.sets.proofs.Truth.{not-So, equal_or, eqb_iff, when-true, when-false}
use Rattle.model.specs.Lists.{rows_at}
use Rattle.model.specs.Refusals.{space_refusal}
use Rattle.model.specs.Record.{crew_start, state_of, sound}
use Rattle.model.specs.Calls.{unfit}
use Rattle.model.proofs.Refusals.{or_else_first, or_else_next, or_else_iff, unfit_iff, space_check}
use Rattle.stores.specs.Stores.{put_at}
use Rattle.stores.proofs.Stores.{part_back}
use Rattle.text_lines.specs.Format.{crew_text}
use Rattle.text_write.specs.Text.{record_text}
use Rattle.std.specs.Prelude.{Ok, Err}
use Rattle.refusals.specs.declared.Refusal.{Refusal}
use Rattle.refusals.specs.declared.Refusal.TheVariants.{Short}
use Rattle.refusals.specs.Numbers.{number_of}
use Rattle.refusals.proofs.Numbers.{some_number}
use Rattle.call_write.specs.Writer.{write_refusal, Written, write_crew}
use Rattle.call_write.specs.Results.{write_result}

-- ---- the definition

module _ (ws buffer : List ℕ) where
  abbrev no : ℕ
  no = write_refusal ws buffer

  pub write_accepted : no ≡ 0 → write_crew ws buffer ≡ record { code = 0; size = length (record_text ws); bytes = record_text ws ++ drop (length (record_text ws)) buffer }
  unfolding write_crew
  write_accepted e = when-true (eqb no 0) _ _ ((eqb_iff no 0).1 e)

  pub write_refused : no ≢ 0 → write_crew ws buffer ≡ record { code = no; size = 0; bytes = buffer }
  unfolding write_crew
  write_refused d = when-false (eqb no 0) _ _ (not-So (eqb no 0) (λ h. d ((eqb_iff no 0).0 h)))

  pub write_code : (write_crew ws buffer).code ≡ no
  write_code =
      equal_or no 0 (λ e. ap (λ (r : Written). r.code) (write_accepted e) ∙ sym e) (λ d. ap (λ (r : Written). r.code) (write_refused d))

  -- a sound record, and a buffer that is long enough
  pub write_iff : (no ≡ 0) ↔ (So (sound ws) × (length (record_text ws) ≤ length buffer))
  unfolding write_refusal
  write_iff =
      let both = or_else_iff (unfit ws) (space_refusal (length (record_text ws)) buffer) in
      let room = space_check (length (record_text ws)) buffer in (
        λ e. let f = both.0 e in ((unfit_iff ws).0 f.0, room.passed f.1),
        λ f. both.1 ((unfit_iff ws).1 f.0, room.passes f.1),
      )

-- so: of a sound record, into a buffer that is long enough
pub written : (ws buffer : List ℕ) → So (sound ws) → length (record_text ws) ≤ length buffer
    → write_crew ws buffer ≡ record { code = 0; size = length (record_text ws); bytes = record_text ws ++ drop (length (record_text ws)) buffer }
written ws buffer h room = write_accepted ws buffer ((write_iff ws buffer).1 (h, room))

-- two records that fit alike and have one text
pub write_same : (ws ws' buffer : List ℕ) → unfit ws ≡ unfit ws' → record_text ws ≡ record_text ws' → write_crew ws buffer ≡ write_crew ws' buffer
unfolding write_crew write_refusal
write_same ws ws' buffer u t = rw (u, t) refl

-- ---- the call

-- what is known of the length from n and m
pub length_known : (ws : List ℕ) (size : ℕ) → ((rows : List ℕ) → size ≡ length (crew_text (get_or ws 0 0) (get_or ws 1 0) rows)) → size ≡ length (record_text ws)
unfolding record_text state_of
length_known ws size h = h (rows_at (get_or ws 0 0) ws crew_start)

pub room_known : (ws : List ℕ) (size most : ℕ) → ((rows : List ℕ) → size ≡ length (crew_text (get_or ws 0 0) (get_or ws 1 0) rows)) → size ≤ most
    → length (record_text ws) ≤ most
room_known ws size most h l = omega (arith, length_known ws size h)

module _ (ws buffer : List ℕ) where
  -- a refused one: by the entrance, or for the buffer's length
  found : (r : Refusal) → write_refusal ws buffer ≡ number_of r → write_result (Err r) buffer ≡ write_crew ws buffer
  found r h =
      (λ i. record { code = (sym h) i; size = 0; bytes = buffer }) ∙ sym (write_refused ws buffer (λ z. some_number r (sym h ∙ z)))

  pub write_unfit : (r : Refusal) → number_of r ≡ unfit ws → write_result (Err r) buffer ≡ write_crew ws buffer
  unfolding write_refusal
  write_unfit r h = found r (or_else_first (unfit ws) _ (λ z. some_number r (h ∙ z)) ∙ sym h)

  pub write_short : (size : ℕ) → unfit ws ≡ 0 → size ≡ length (record_text ws) → length buffer < size → write_result (Err Short) buffer ≡ write_crew ws buffer
  unfolding write_refusal
  write_short size z es l =
      found Short
      (or_else_next (unfit ws) _ z ∙ (space_check (length (record_text ws)) buffer).stops (λ (k : length (record_text ws) ≤ length buffer). let no : ⊥ = omega arith in no))

  -- and one that is answered
  pub write_given : (size : ℕ) (left : List ℕ) → unfit ws ≡ 0 → length (record_text ws) ≤ length buffer → size ≡ length (record_text ws)
      → left ≡ put_at buffer 0 (record_text ws) → write_result (Ok size) left ≡ write_crew ws buffer
  write_given size left z room es eb =
      let text = record_text ws in
      let b : left ≡ text ++ drop (length text) buffer = eb ∙ sym (part_back buffer 0 (length text) text refl (omega arith)) in
      (λ i. record { code = 0; size = es i; bytes = b i }) ∙ sym (write_accepted ws buffer ((write_iff ws buffer).1 ((unfit_iff ws).0 z, room)))
