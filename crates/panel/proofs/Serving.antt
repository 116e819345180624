-- A list of calls, served one by one; and condition 3 of what that leaves.
-- Assumes nothing.
use mathlib.Core.Path.{◌≡◌, refl, sym, ◌∙◌, ap}
use mathlib.Core.Bool.{false, So}
use mathlib.Core.Logic.{◌≢◌}
use mathlib.Core.List.{List, [], ◌∷◌, ◌++◌}
use Prim.Native.Nat.{ℕ, suc, ◌+◌, ◌-◌, ◌*◌, ◌/◌, ◌≤◌, ◌<◌}
use native.Mathlib.Omega.{arith}
use Rattle.std.specs.Prelude.{Result, Ok, Err}
use lib.Dec.{eqb}
use lib.ListN.{length, get_or, set, take, length-set}
use lib.Seq.{take_all, take-suc-set}
use Rattle.sets.proofs.Truth.{So-not, not-So, eqb_iff, when-true, when-false}
use Rattle.model.specs.Lists.{rows_at}
use Rattle.model.specs.State.{fresh}
use Rattle.model.specs.Record.{built}
use Rattle.model.specs.Machine.{Call, reply}
use Rattle.model.specs.Machine.Call.{strike, restore, eliminate, review}
use Rattle.model.specs.Calls.{Mined, Edited, edit, mine, mining_refusal}
use Rattle.model.specs.Claim.{words_after, replies_given}
use Rattle.model.proofs.Steps.{mining_fit}
use Rattle.model.proofs.Calls.{mine_code, mine_accepted, mine_refused}
use Rattle.model.proofs.Claim.{built_claim}
use Rattle.quality.specs.Given.{weights_of, tolerance_of}
use Rattle.stores.specs.Stores.{put_at}
use Rattle.refusals.specs.declared.Refusal.{Refusal}
use Rattle.refusals.specs.Numbers.{number_of}
use Rattle.refusals.proofs.Numbers.{some_number}
use Rattle.calls_edit.specs.declared.Done.{Done}
use Rattle.panel.specs.declared.list.NotServed.TheVariants.{Unreadable, Refused}
use Rattle.call_mine.specs.Results.{mine_result}
use Rattle.panel.specs.Results.{done_result, done_words}
use Rattle.panel.specs.Lists.{ServedAs}
use Rattle.calls_list.specs.Encoding.{call_at, calls_from, calls_in, readable, answer_words}

-- ---- one call by its kind

module _ (ws : List ℕ) (i : ℕ) where
  abbrev kind : ℕ
  kind = get_or ws i 0

  other_kind : (k : ℕ) → kind ≢ k → eqb kind k ≡ false
  other_kind k d = not-So (eqb kind k) (λ h. d ((eqb_iff kind k).0 h))

  pub call_strike : kind ≡ 0 → call_at ws i ≡ strike (get_or ws (i + 1) 0)
  unfolding call_at
  call_strike e = when-true (eqb kind 0) _ _ ((eqb_iff kind 0).1 e)

  pub call_restore : kind ≢ 0 → kind ≡ 1 → call_at ws i ≡ restore (get_or ws (i + 1) 0)
  unfolding call_at
  call_restore d e = when-false (eqb kind 0) _ _ (other_kind 0 d) ∙ when-true (eqb kind 1) _ _ ((eqb_iff kind 1).1 e)

  pub call_eliminate : kind ≢ 0 → kind ≢ 1 → kind ≡ 2
      → call_at ws i ≡ eliminate (weights_of (get_or ws (i + 1) 0) (get_or ws (i + 2) 0) (get_or ws (i + 3) 0) (get_or ws (i + 4) 0)) (tolerance_of (get_or ws (i + 5) 0) (get_or ws (i + 6) 0))
  unfolding call_at
  call_eliminate d d' e =
      when-false (eqb kind 0) _ _ (other_kind 0 d) ∙ when-false (eqb kind 1) _ _ (other_kind 1 d') ∙ when-true (eqb kind 2) _ _ ((eqb_iff kind 2).1 e)

  pub call_review : kind ≢ 0 → kind ≢ 1 → kind ≢ 2 → call_at ws i ≡ review (weights_of (get_or ws (i + 1) 0) (get_or ws (i + 2) 0) (get_or ws (i + 3) 0) (get_or ws (i + 4) 0))
  unfolding call_at
  call_review d d' d'' =
      when-false (eqb kind 0) _ _ (other_kind 0 d) ∙ when-false (eqb kind 1) _ _ (other_kind 1 d') ∙ when-false (eqb kind 2) _ _ (other_kind 2 d'')

-- three words to an answer
pub three_words : (r : Result Done Refusal) → length (done_words r) ≡ 3
three_words (Ok done) = refl
three_words (Err r) = refl

-- ---- the calls one after the other: `ws` and `out` are what the first i have left

pub record Serving (calls start : List ℕ) (n i : ℕ) (ws out : List ℕ) : Type 0 where
  pub words : words_after start (calls_from calls 0 n) ≡ words_after ws (calls_from calls (7 * i) (n - i))
  pub answers : answer_words (replies_given start (calls_from calls 0 n)) ≡ take (3 * i) out ++ answer_words (replies_given ws (calls_from calls (7 * i) (n - i)))

pub serving_start : (calls start out : List ℕ) (n : ℕ) → Serving calls start n 0 start out
serving_start calls start out n =
    let e : n - 0 ≡ n = omega arith in
    record {
      words = ap (λ (k : ℕ). words_after start (calls_from calls 0 k)) (sym e);
      answers = ap (λ (k : ℕ). answer_words (replies_given start (calls_from calls 0 k))) (sym e);
    }

append_assoc : (a b c : List ℕ) → (a ++ b) ++ c ≡ a ++ (b ++ c)
append_assoc [] b c = refl
append_assoc (x ∷ a) b c = ap (λ (l : List ℕ). x ∷ l) (append_assoc a b c)

append-nil : (a : List ℕ) → a ++ [] ≡ a
append-nil [] = refl
append-nil (x ∷ a) = ap (λ (l : List ℕ). x ∷ l) (append-nil a)

-- words put in at the end of what is taken
put_take : (l : List ℕ) (i : ℕ) (vs : List ℕ) → i + length vs ≤ length l → take (i + length vs) (put_at l i vs) ≡ take i l ++ vs
unfolding put_at
put_take l i [] h = let e : i + 0 ≡ i = omega arith in ap (λ (k : ℕ). take k l) e ∙ sym (append-nil (take i l))
put_take l i (v ∷ vs) h =
    let e : i + suc (length vs) ≡ suc i + length vs = omega arith in
    let same : length (set l i v) ≡ length l = length-set l i v in
    ap (λ (k : ℕ). take k (put_at (set l i v) (suc i) vs)) e ∙ put_take (set l i v) (suc i) vs (omega arith)
    ∙ ap (λ (x : List ℕ). x ++ vs) (take-suc-set l i v (omega arith)) ∙ append_assoc (take i l) (v ∷ []) vs

serving_more_by : (calls start : List ℕ) (n i : ℕ) (ws out after : List ℕ) (code changed examined : ℕ) → Serving calls start n i ws out → i < n → length out ≡ 3 * n
    → record { replied = reply code changed examined; words = after } ≡ edit ws (call_at calls (7 * i)) → Serving calls start n (i + 1) after (put_at out (3 * i) (code ∷ changed ∷ examined ∷ []))
unfolding calls_from words_after replies_given answer_words reply
serving_more_by calls start n i ws out after code changed examined p l size e =
    let left : n - i ≡ suc (n - (i + 1)) = omega arith in
    let place : 7 * i + 7 ≡ 7 * (i + 1) = omega arith in
    let now-words : (edit ws (call_at calls (7 * i))).words ≡ after = ap (λ (o : Edited). o.words) (sym e) in
    let now-given : (edit ws (call_at calls (7 * i))).replied ≡ reply code changed examined = ap (λ (o : Edited). o.replied) (sym e) in
    let rest = calls_from calls (7 * (i + 1)) (n - (i + 1)) in
    let opened : calls_from calls (7 * i) (n - i) ≡ call_at calls (7 * i) ∷ rest =
    ap (λ (k : ℕ). calls_from calls (7 * i) k) left ∙ ap (λ (k : ℕ). call_at calls (7 * i) ∷ calls_from calls k (n - (i + 1))) place in
    let third : 3 * i + 3 ≡ 3 * (i + 1) = omega arith in
    let vs = code ∷ changed ∷ examined ∷ [] in
    let put : take (3 * (i + 1)) (put_at out (3 * i) vs) ≡ take (3 * i) out ++ vs = ap (λ (k : ℕ). take k (put_at out (3 * i) vs)) (sym third) ∙ put_take out (3 * i) vs (omega arith) in
    record {
      words = p.words ∙ ap (words_after ws) opened ∙ ap (λ (x : List ℕ). words_after x rest) now-words;
      answers = p.answers
          ∙ ap (λ (cs : List Call). take (3 * i) out ++ answer_words (replies_given ws cs)) opened
          ∙ (λ j. take (3 * i) out ++ ((now-given j).code ∷ (now-given j).changed ∷ (now-given j).examined ∷ answer_words (replies_given (now-words j) rest)))
          ∙ sym (append_assoc (take (3 * i) out) (code ∷ changed ∷ examined ∷ []) (answer_words (replies_given after rest)))
          ∙ ap (λ (x : List ℕ). x ++ answer_words (replies_given after rest)) (sym put);
    }

pub serving_more : (calls start : List ℕ) (n i : ℕ) (ws out after : List ℕ) (r : Result Done Refusal) → Serving calls start n i ws out → i < n → length out ≡ 3 * n
    → done_result r after ≡ edit ws (call_at calls (7 * i)) → Serving calls start n (i + 1) after (put_at out (3 * i) (done_words r))
serving_more calls start n i ws out after (Ok done) = serving_more_by calls start n i ws out after 0 done.changed done.examined
serving_more calls start n i ws out after (Err r) = serving_more_by calls start n i ws out after (number_of r) 0 0

pub serving_all : (calls start : List ℕ) (i : ℕ) (ws out : List ℕ) → Serving calls start (length calls / 7) i ws out → i ≡ length calls / 7 → length out ≡ 3 * (length calls / 7)
    → (ws ≡ words_after start (calls_in calls)) × (out ≡ answer_words (replies_given start (calls_in calls)))
unfolding calls_in calls_from words_after replies_given answer_words
serving_all calls start i ws out p e size =
    let n = length calls / 7 in
    let none : n - i ≡ 0 = omega arith in (
      sym (p.words ∙ ap (λ (k : ℕ). words_after ws (calls_from calls (7 * i) k)) none),
      sym (p.answers ∙ ap (λ (k : ℕ). take (3 * i) out ++ answer_words (replies_given ws (calls_from calls (7 * i) k))) none ∙ append-nil (take (3 * i) out) ∙ take_all (3 * i) out (omega arith)),
    )

-- ---- the list as a whole

module _ (n m : ℕ) (crew calls ws out : List ℕ) where
  pub served_unreadable : readable calls out ≡ false → ServedAs n m crew calls ws out (Err Unreadable) ws out
  served_unreadable f =
      record {
        unreadable = λ d. (refl, refl, refl);
        refused = λ h. absurd (So-not f h);
        mined = λ h. absurd (So-not f h);
      }

  module _ (h : So (readable calls out)) where
    pub served_refused : (r : Refusal) (mid : List ℕ) → mine_result (Err r) mid ≡ mine n m crew ws → ServedAs n m crew calls ws out (Err (Refused r)) mid out
    served_refused r mid e =
        let same : number_of r ≡ mining_refusal n m crew ws = ap (λ (x : Mined). x.code) e ∙ mine_code n m crew ws in
        record {
          unreadable = λ x. absurd (x h);
          refused = λ x y. (record { refusal = r; number = same; is = refl }, ap (λ (x : Mined). x.words) (e ∙ mine_refused n m crew ws y), refl);
          mined = λ x y. absurd (some_number r (same ∙ y));
        }

    pub served_mined : (c : ℕ) (mid : List ℕ) → mine_result (Ok c) mid ≡ mine n m crew ws → (after out' : List ℕ)
        → (after ≡ words_after mid (calls_in calls)) × (out' ≡ answer_words (replies_given mid (calls_in calls))) → ServedAs n m crew calls ws out (Ok c) after out'
    served_mined c mid e after out' done =
        let none : mining_refusal n m crew ws ≡ 0 = sym (ap (λ (x : Mined). x.code) e ∙ mine_code n m crew ws) in
        let made = e ∙ mine_accepted n m crew ws none in
        let st = fresh n m (rows_at n crew 0) in
        let begun : mid ≡ built st = ap (λ (x : Mined). x.words) made in
        record {
          unreadable = λ x. absurd (x h);
          refused = λ x y. absurd (y none);
          mined = λ x y. (
            ap Ok (ap (λ (x : Mined). x.candidates) made),
            record {
              words = done.0 ∙ ap (λ (l : List ℕ). words_after l (calls_in calls)) begun;
              answers = done.1 ∙ ap (λ (l : List ℕ). answer_words (replies_given l (calls_in calls))) begun;
              condition3 = built_claim st (mining_fit n m crew ws none) (calls_in calls);
            },
          );
        }
