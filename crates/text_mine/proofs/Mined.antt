-- What the reader's answer and mining's mean for the text.
-- Assumes nothing.
use mathlib.Core.Path.{◌≡◌, refl, sym, ◌∙◌, ap}
use mathlib.Core.Bool.{So, Bool, true, false}
use mathlib.Core.List.{List}
use Prim.Native.Nat.{ℕ, ◌*◌}
use lib.Dec.{eqb, leb}
use lib.ListN.{length, take, replicate}
use Rattle.std.specs.Prelude.{Ok, Err}
use Rattle.sets.specs.Truth.{when◌then◌else◌}
use Rattle.sets.proofs.Truth.{by_test, not-So, eqb_iff, when-true, when-false}
use Rattle.model.specs.Lists.{rows_at}
use Rattle.model.specs.Candidates.{candidates}
use Rattle.model.specs.State.{fresh}
use Rattle.model.specs.Record.{record_length, state_of, sound}
use Rattle.model.specs.Calls.{Mined, mining_refusal, mine}
use Rattle.model.proofs.Calls.{mine_code, mine_refused}
use Rattle.text_crew.specs.declared.CrewSize.{CrewSize}
use Rattle.text_crew.specs.Reader.{ReadReply, read_result, read_refused, read_crew}
use Rattle.text_crew.proofs.Taken.{taken_rows, code_read, text_limits, text_size, text_within}
use Rattle.refusals.specs.declared.Refusal.{Refusal}
use Rattle.refusals.specs.Numbers.{number_of}
use Rattle.refusals.proofs.Numbers.{some_number}
use Rattle.call_mine.specs.Results.{mine_result}
use Rattle.call_mine.proofs.Counted.{mined_many, mined_few, mined_state, mined_sound}
use Rattle.text_mine.specs.Mined.{text_refusal, text_state}

-- what is said of a text, case by case as it is read, is said by the number of its refusal
joined : (code : ℕ) (none few : Bool) (made : List ℕ) (refused : ℕ → List ℕ) → eqb code 0 ≡ none
    → (when none then when few then made else refused 4 else refused code)
    ≡ (when eqb (when none then when few then 0 else 4 else code) 0 then made else refused (when none then when few then 0 else 4 else code))
unfolding when◌then◌else◌
joined code true true made refused e = refl
joined code true false made refused e = refl
joined code false few made refused e = sym (when-false (eqb code 0) made (refused code) e)

-- mining that refuses leaves the words as they were lent
pub mining_kept : (n m : ℕ) (crew lent : List ℕ) (r : Refusal) (ws : List ℕ) → mine_result (Err r) ws ≡ mine n m crew lent → ws ≡ lent
mining_kept n m crew lent r ws q =
    let code : number_of r ≡ mining_refusal n m crew lent = ap (λ (x : Mined). x.code) q ∙ mine_code n m crew lent in
    ap (λ (x : Mined). x.words) (q ∙ mine_refused n m crew lent (λ e. some_number r (code ∙ e)))

module _ (text : List ℕ) where
  abbrev a : ReadReply
  a = read_crew text (replicate 512 0)

  abbrev rows : List ℕ
  rows = rows_at a.n a.words 0

  abbrev few : Bool
  few = leb (length (candidates rows)) 128

  pub by_refusal : (made : List ℕ) (refused : ℕ → List ℕ)
      → (when eqb a.code 0 then when few then made else refused 4 else refused a.code) ≡ (when eqb (text_refusal text) 0 then made else refused (text_refusal text))
  unfolding text_refusal
  by_refusal made refused = joined a.code (eqb a.code 0) few made refused refl

  -- what is not refused was read
  pub read_whole : text_refusal text ≡ 0 → a.code ≡ 0
  unfolding text_refusal
  read_whole z =
      by_test (eqb a.code 0) (λ h. (eqb_iff a.code 0).0 h) (λ h. sym (when-false (eqb a.code 0) (when few then 0 else 4) a.code h) ∙ z)

  module _ (ws : List ℕ) where
    pub reader_refused : (r : Refusal) → read_result (Err r) ws ≡ a → number_of r ≡ text_refusal text
    unfolding text_refusal read_result read_refused
    reader_refused r p =
        let code : number_of r ≡ a.code = ap (λ (x : ReadReply). x.code) p in
        code ∙ sym (when-false (eqb a.code 0) (when few then 0 else 4) a.code (not-So (eqb a.code 0) (λ h. some_number r (code ∙ (eqb_iff a.code 0).0 h))))

    module _ (size : CrewSize) (p : read_result (Ok size) ws ≡ a) (lent : List ℕ) (full : length lent ≡ record_length) where
      abbrev crew : List ℕ
      crew = take (4 * size.n) ws

      taken : rows_at size.n crew 0 ≡ rows
      unfolding read_result
      taken = taken_rows size.n ws ∙ ap (λ (x : ReadReply). rows_at x.n x.words 0) p

      by_few : text_refusal text ≡ (when few then 0 else 4)
      unfolding text_refusal
      by_few = when-true (eqb a.code 0) (when few then 0 else 4) a.code ((eqb_iff a.code 0).1 (code_read text (replicate 512 0) size ws p))

      same_few : leb (length (candidates (rows_at size.n crew 0))) 128 ≡ few
      same_few = ap (λ (x : List ℕ). leb (length (candidates x)) 128) taken

      pub mining_refused : (r : Refusal) (ws' : List ℕ) → mine_result (Err r) ws' ≡ mine size.n size.m crew lent → number_of r ≡ text_refusal text
      mining_refused r ws' q =
          let many = mined_many size.n size.m crew lent full (text_limits _ _ _ _ p) (text_size _ _ _ _ p) (text_within _ _ _ _ p) r ws' q in
          many.0 ∙ sym (by_few ∙ when-false few 0 4 (sym same_few ∙ many.1))

      module _ (c : ℕ) (ws' : List ℕ) (q : mine_result (Ok c) ws' ≡ mine size.n size.m crew lent) where
        pub none_refused : 0 ≡ text_refusal text
        none_refused = sym (by_few ∙ when-true few 0 4 (sym same_few ∙ mined_few size.n size.m crew lent full (text_limits _ _ _ _ p) (text_size _ _ _ _ p) (text_within _ _ _ _ p) c ws' q))

        pub text_mined : state_of ws' ≡ text_state text
        unfolding text_state read_result
        text_mined =
            mined_state size.n size.m crew lent full (text_limits _ _ _ _ p) (text_size _ _ _ _ p) (text_within _ _ _ _ p) c ws' q
            ∙ ap (fresh size.n size.m) (taken_rows size.n ws)
            ∙ ap (λ (x : ReadReply). fresh x.n x.m (rows_at x.n x.words 0)) p

        pub text_sound : So (sound ws')
        text_sound = mined_sound size.n size.m crew lent full (text_limits _ _ _ _ p) (text_size _ _ _ _ p) (text_within _ _ _ _ p) c ws' q
