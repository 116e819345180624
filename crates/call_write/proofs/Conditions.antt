-- Condition 1 holds of what the writer's definition gives, and an accepted call gives the text.
-- Assumes nothing.
use mathlib.Core.Path.{◌≡◌, refl, sym, ◌∙◌, ap}
use mathlib.Core.List.{List, [], ◌∷◌, ◌++◌}
use Prim.Native.Nat.{ℕ, ◌≤◌}
use native.Mathlib.Omega.{arith}
use lib.ListN.{length, drop, length-append, length-drop}
use lib.Seq.{take-append_seam, drop-append_seam}
use Rattle.model.specs.Record.{state_of}
use Rattle.model.specs.Refusals.{space_refusal}
use Rattle.model.proofs.Refusals.{space_check}
use Rattle.model.proofs.Rules.{judges, judged_last, NumberByRules}
use Rattle.model.proofs.Conditions.{judged_record, judged_condition, zeros1}
use Rattle.text_write.specs.Text.{record_text}
use Rattle.call_write.specs.Writer.{write_refusal, Written, write_crew}
use Rattle.call_write.specs.Conditions.{text_in, write_rules, WriteConditions}
use Rattle.call_write.proofs.Writing.{write_accepted, write_refused, write_code, write_iff}

-- the text of a record is that of its words
text_in_lem : (ws : List ℕ) → record_text ws ≡ text_in ws
unfolding record_text state_of
text_in_lem ws = refl

judged_write : (ws buffer : List ℕ) → NumberByRules (write_rules ws buffer) (write_refusal ws buffer)
unfolding write_refusal record_text state_of
judged_write ws buffer =
    judged_record ws _ (space_refusal (length (text_in ws)) buffer) (omega arith, tt)
    (λ _. judged_last (judges (space_check (length (text_in ws)) buffer)))

-- a text before the rest of a buffer is as long as the buffer
whole : (text buffer : List ℕ) → length text ≤ length buffer → length (text ++ drop (length text) buffer) ≡ length buffer
whole text buffer room = let a = length-append text (drop (length text) buffer) in let b = length-drop (length text) buffer in omega arith

pub write_conditions : (ws buffer : List ℕ) (r : Written) → r ≡ write_crew ws buffer → WriteConditions ws buffer r
write_conditions ws buffer r e =
    rw e
    (record {
      condition1 =
          judged_condition (write_crew ws buffer).code ((write_crew ws buffer).size ∷ []) buffer (write_crew ws buffer).bytes (judged_write ws buffer)
          (write_code ws buffer) (λ d. rw (write_refused ws buffer d) (zeros1, refl));
      result = λ z.
          let ok : write_refusal ws buffer ≡ 0 = sym (write_code ws buffer) ∙ z in
          let room = ((write_iff ws buffer).0 ok).1 in
          rw (write_accepted ws buffer ok)
          (record {
            size = ap length (text_in_lem ws);
            text = take-append_seam (record_text ws) (drop (length (record_text ws)) buffer) ∙ text_in_lem ws;
            beyond = drop-append_seam (record_text ws) (drop (length (record_text ws)) buffer);
            room = whole (record_text ws) buffer room;
          });
    })
