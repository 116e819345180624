-- What a text's refusal, its mined record and the writer's answer mean for what comes back.
-- Assumes nothing.
use mathlib.Core.Path.{◌≡◌, refl, sym, ◌∙◌, ap}
use mathlib.Core.Bool.{So}
use mathlib.Core.List.{List, ◌++◌}
use Prim.Native.Nat.{ℕ, ◌≤◌, ◌<◌}
use native.Mathlib.Omega.{arith}
use Rattle.std.specs.Prelude.{Result, Ok, Err, IsOk}
use lib.Dec.{eqb}
use lib.ListN.{length, take, drop, replicate, length-replicate}
use Rattle.sets.specs.Truth.{when◌then◌else◌}
use Rattle.sets.proofs.Truth.{not-So, eqb_iff, when-true, when-false}
use Rattle.model.specs.State.{fresh}
use Rattle.model.specs.Record.{state_of, sound}
use Rattle.stores.specs.Stores.{put_at}
use Rattle.stores.proofs.Stores.{part_back}
use Rattle.text_crew.specs.Reader.{longest_text, ReadReply, read_refused, read_crew}
use Rattle.text_crew.proofs.Answers.{too_long}
use Rattle.text_crew.proofs.Cut.{cut_same}
use Rattle.text_crew.proofs.Canonical.{accepted_canonical}
use Rattle.text_mine.specs.Mined.{text_refusal, text_state}
use Rattle.text_mine.proofs.Mined.{by_refusal, read_whole}
use Rattle.text_roles.specs.Lines.{refused_text}
use Rattle.text_write.specs.Text.{record_text, longest_written}
use Rattle.text_write.proofs.Puts.{text_of, text_most}
use Rattle.refusals.specs.declared.Refusal.{Refusal}
use Rattle.refusals.specs.Numbers.{number_of}
use Rattle.refusals.proofs.Numbers.{some_number}
use Rattle.call_write.specs.Writer.{Written, write_crew}
use Rattle.call_write.specs.Results.{write_result}
use Rattle.call_write.proofs.Writing.{written}
use Rattle.round_trip.specs.HandBack.{handed_back}

-- ---- the text

module _ (text : List ℕ) where
  handed_is : handed_back text ≡ (when eqb (text_refusal text) 0 then text else refused_text (text_refusal text))
  unfolding handed_back
  handed_is = by_refusal text text refused_text

  -- refused
  pub text_refused : (r : Refusal) → number_of r ≡ text_refusal text → refused_text (number_of r) ≡ handed_back text
  text_refused r p =
      ap refused_text p
      ∙ sym (handed_is ∙ when-false (eqb (text_refusal text) 0) text (refused_text (text_refusal text)) (not-So (eqb (text_refusal text) 0) (λ h. some_number r (p ∙ (eqb_iff (text_refusal text) 0).0 h))))

  -- mined: the record's text is the text that was read, and there is room for it
  module _ (ws out out' : List ℕ) (h : So (sound ws)) (z : 0 ≡ text_refusal text) (s : state_of ws ≡ text_state text) (room : longest_written ≤ length out) where
    most : length (record_text ws) ≤ longest_written
    most = text_most ws h

    accepted : write_crew ws out ≡ record { code = 0; size = length (record_text ws); bytes = record_text ws ++ drop (length (record_text ws)) out }
    accepted = let l = most in written ws out h (omega arith)

    same : record_text ws ≡ handed_back text
    unfolding text_state fresh
    same =
        text_of ws (text_state text) s
        ∙ sym (accepted_canonical text (replicate 512 0) (read_whole text (sym z)))
        ∙ sym (handed_is ∙ when-true (eqb (text_refusal text) 0) text (refused_text (text_refusal text)) ((eqb_iff (text_refusal text) 0).1 (sym z)))

    pub back_told : (w : Result ℕ Refusal) → write_result w out' ≡ write_crew ws out → IsOk w
    back_told (Ok count) q = refl
    back_told (Err r) q = absurd (some_number r (ap (λ (x : Written). x.code) (q ∙ accepted)))

    pub back_written : (w : Result ℕ Refusal) (count : ℕ) → write_result w out' ≡ write_crew ws out → w ≡ Ok count
        → (count ≡ length (handed_back text)) × (out' ≡ put_at out 0 (handed_back text)) × (count ≤ longest_written)
    back_written w count q is =
        let f : write_result (Ok count) out' ≡ write_crew ws out = rw is at q in
        let a = f ∙ accepted in
        let l = most in
        let el : count ≡ length (record_text ws) = ap (λ (x : Written). x.size) a in
        let eo : out' ≡ record_text ws ++ drop (length (record_text ws)) out = ap (λ (x : Written). x.bytes) a in (
          el ∙ ap length same,
          eo ∙ part_back out 0 (length (record_text ws)) (record_text ws) refl (omega arith) ∙ ap (put_at out 0) same,
          omega arith,
        )

-- ---- a text of which more bytes are read than the longest has comes back as if it were read whole

long_back : (text : List ℕ) → longest_text < length text → handed_back text ≡ refused_text 10
unfolding handed_back read_refused
long_back text h =
    let a = read_crew text (replicate 512 0) in
    let ten : a.code ≡ 10 = ap (λ (x : ReadReply). x.code) (sym (too_long text (replicate 512 0) (length-replicate {A = ℕ} 512 0) h)) in
    when-false (eqb a.code 0) _ (refused_text a.code) (not-So (eqb a.code 0) (λ t. let z = (eqb_iff a.code 0).0 t in let no : ⊥ = omega arith in no)) ∙ ap refused_text ten

both_long : (a b : List ℕ) → longest_text < length a → longest_text < length b → handed_back a ≡ handed_back b
both_long a b h g = long_back a h ∙ sym (long_back b g)

pub cut_back : (space : ℕ) (text bytes : List ℕ) → bytes ≡ take space text → longest_text < space → handed_back bytes ≡ handed_back text
cut_back = cut_same handed_back both_long
