-- Every clause of condition 3 holds of every list of calls from every sound record, where each call does what its definition says.
-- Assumes nothing.
use mathlib.Core.Path.{◌≡◌, refl, sym, ◌∙◌, ap, ap₂, subst}
use mathlib.Core.Bool.{So}
use mathlib.Core.Logic.{◌↔◌, ◌≢◌, ⊎_elim}
use mathlib.Core.List.{List, [], ◌∷◌, map}
use Prim.Native.Nat.{ℕ, ◌<◌}
use lib.Dec.{eqb}
use lib.ListN.{length, get_or}
use Rattle.sets.specs.Truth.{when◌then◌else◌}
use Rattle.sets.specs.Sets.{has, ◌∪◌, ◌∖◌, single}
use Rattle.sets.proofs.Truth.{by_test, So-not, eqb_iff, when-true, when-false}
use Rattle.sets.proofs.Order.{with_without}
use Rattle.model.specs.Lists.{rows_at}
use Rattle.model.specs.Hierarchy.{candidate_count, building}
use Rattle.model.specs.Chains.{link, Chain, links_but, may, Authorised}
use Rattle.model.specs.Coverage.{grant}
use Rattle.model.specs.State.{State, roles_of, standing_now, fresh}
use Rattle.model.specs.Record.{built, state_of, role_rows_of, sound}
use Rattle.model.specs.Altered.{Altered}
use Rattle.model.specs.Machine.{Call, Reply, Outcome, refusal, accepted, step, state_after, replies_to}
use Rattle.model.specs.Machine.Call.{strike, restore, eliminate, review}
use Rattle.model.specs.Quality.{Weights, Tolerance}
use Rattle.model.specs.Calls.{Edited, edit, mining_refusal, mine}
use Rattle.model.specs.Claim.{words_after, replies_given, Accepted, StrikeAltered, RestoreAltered, OneByOne, Condition3}
use Rattle.model.proofs.Chains.{may_iff}
use Rattle.model.proofs.Reading.{Ordered}
use Rattle.model.proofs.Building.{building_below, granted_may, may_possible, no_return, no_replacement}
use Rattle.model.proofs.Record.{sound_iff, sound-built, state_back, rows_back, built_sound}
use Rattle.model.proofs.Refusals.{unfit_iff, restore_iff, refusal_number}
use Rattle.model.proofs.Calls.{mine_code, mine_accepted, edit_fits}
use Rattle.model.proofs.Notions.{built_rows, standard_held}
use Rattle.model.proofs.Altered.{strike_altered, restore_altered}
use Rattle.model.proofs.Steps.{limits_ordered, roles_now, standing_now_lem, now_now, now_same, step-accepted, step_refused, step_code, Fit, step_fit, after_fit, after_rows_lem, AllAccepted, Made, elimination_made, review_made, mining_fit}

-- a sound record's state is within the limits and covers each grant, and conversely
pub sound_fit : (ws : List ℕ) → So (sound ws) → Fit (state_of ws)
sound_fit ws h = let a = (sound_iff ws).0 h in record { limits = a.1; covers_all = a.2 }

pub fit_sound : (st : State) → Fit st → So (sound (built st))
fit_sound st f = built_sound st f.limits f.covers_all

-- on a sound record a call answers as the machine does, and leaves what building afresh from the machine's state gives
module _ (ws : List ℕ) (h : So (sound ws)) (call : Call) where
  edit_sound : edit ws call
      ≡ record { replied = (step (state_of ws) call).replied; words = when eqb (step (state_of ws) call).replied.code 0 then built (step (state_of ws) call).state else ws }
  edit_sound = edit_fits ws call ((unfit_iff ws).1 h)

  pub edit_replied : (edit ws call).replied ≡ (step (state_of ws) call).replied
  edit_replied = ap (λ (e : Edited). e.replied) edit_sound

  pub code_is : (edit ws call).replied.code ≡ refusal (state_of ws) call
  code_is = ap (λ (a : Reply). a.code) edit_replied ∙ step_code (state_of ws) call

  pub edit_words : (edit ws call).words ≡ built (step (state_of ws) call).state
  edit_words =
      let o = step (state_of ws) call in
      let t = eqb o.replied.code 0 in
      ap (λ (e : Edited). e.words) edit_sound
      ∙ by_test t (λ b. when-true t (built o.state) ws b)
      (λ b.
      let d : refusal (state_of ws) call ≢ 0 = λ e. So-not b ((eqb_iff o.replied.code 0).1 (step_code (state_of ws) call ∙ e)) in
      when-false t (built o.state) ws b ∙ sound-built ws h ∙ ap (λ (x : Outcome). built x.state) (sym (step_refused (state_of ws) call d)))

  pub edit_fit : So (sound (edit ws call).words)
  edit_fit = rw edit_words (fit_sound (step (state_of ws) call).state (step_fit (state_of ws) call (sound_fit ws h)))

  pub edit_state : state_of (edit ws call).words ≡ (step (state_of ws) call).state
  edit_state = ap state_of edit_words ∙ state_back (step (state_of ws) call).state (step_fit (state_of ws) call (sound_fit ws h)).limits

-- ---- the list

pub after_sound : (ws : List ℕ) → So (sound ws) → (calls : List Call) → So (sound (words_after ws calls))
unfolding words_after
after_sound ws h [] = h
after_sound ws h (call ∷ calls) = after_sound (edit ws call).words (edit_fit ws h call) calls

pub after_state : (ws : List ℕ) → So (sound ws) → (calls : List Call) → state_of (words_after ws calls) ≡ state_after (state_of ws) calls
unfolding words_after state_after
after_state ws h [] = refl
after_state ws h (call ∷ calls) =
    after_state (edit ws call).words (edit_fit ws h call) calls ∙ ap (λ (st : State). state_after st calls) (edit_state ws h call)

pub after_answers : (ws : List ℕ) → So (sound ws) → (calls : List Call) → replies_given ws calls ≡ replies_to (state_of ws) calls
unfolding replies_given replies_to
after_answers ws h [] = refl
after_answers ws h (call ∷ calls) =
    ap₂ (λ (a : Reply) (l : List Reply). a ∷ l) (edit_replied ws h call)
    (after_answers (edit ws call).words (edit_fit ws h call) calls ∙ ap (λ (st : State). replies_to st calls) (edit_state ws h call))

pub after_words : (ws : List ℕ) → So (sound ws) → (calls : List Call) → words_after ws calls ≡ built (state_after (state_of ws) calls)
after_words ws h calls = sound-built (words_after ws calls) (after_sound ws h calls) ∙ ap built (after_state ws h calls)

-- ---- authorised, chains and links, read off a sound record's own words

module _ (st : State) (f : Fit st) where
  rows_are : role_rows_of (built st) ≡ building (roles_of st) st.standing
  rows_are = rows_back st f.limits

  o : Ordered (roles_of st) st.standing
  o = limits_ordered st f.limits

  same : (u p : ℕ) → So (may (candidate_count (roles_of st)) (building (roles_of st) st.standing) u p) ↔ Authorised (building (roles_of st) st.standing) u p
  same = may_iff (candidate_count (roles_of st)) (building (roles_of st) st.standing) (building_below (roles_of st) st.standing o)

  -- whoever is granted a permission is authorised for it, and whoever is authorised has it in the possible row
  pub words_granted : (u p : ℕ) → u < st.users → p < st.permissions → So (grant (roles_of st) u p) → Authorised (role_rows_of (built st)) u p
  unfolding roles_of
  words_granted u p lu lp g = rw rows_are ((same u p).0 (granted_may (roles_of st) st.standing o f.covers_all u p lu lp g))

  pub words_possible : (u p : ℕ) → p < st.permissions → Authorised (role_rows_of (built st)) u p → So (has (get_or (roles_of st).possible u 0) p)
  unfolding roles_of
  words_possible u p lp a = may_possible (roles_of st) st.standing o u p lp ((same u p).1 (rw rows_are at a))

  -- both rows are the crew row
  pub words_authorised : (u p : ℕ) → u < st.users → p < st.permissions → Authorised (role_rows_of (built st)) u p ↔ So (has (get_or st.rows u 0) p)
  unfolding roles_of grant
  words_authorised u p lu lp = (words_possible u p lp, words_granted u p lu lp)

  pub words_no_return : (k : ℕ) → Chain (link (role_rows_of (built st))) k k → ⊥
  words_no_return k = rw rows_are (no_return (roles_of st) st.standing o k)

  pub words_no_replacement : (x y : ℕ) → So (link (role_rows_of (built st)) x y) → Chain (links_but (link (role_rows_of (built st))) x y) x y → ⊥
  words_no_replacement x y = rw rows_are (no_replacement (roles_of st) st.standing o x y)

-- ---- a strike and a restoration that are accepted

pub strike_words : (st : State) (k : ℕ) → Fit st → refusal st (strike k) ≡ 0
    → Altered (roles_of st) st.standing (single k) (built st) (built (step st (strike k)).state)
unfolding accepted
strike_words st k f e = rw (step-accepted st (strike k) e) (strike_altered st (single k) f.limits)

pub restore_words : (st : State) (k : ℕ) → Fit st → refusal st (restore k) ≡ 0
    → Altered (roles_of st) (step st (restore k)).state.standing (single k) (built st) (built (step st (restore k)).state)
unfolding accepted
restore_words st k f e =
    let s = step-accepted st (restore k) e in
    let a = (restore_iff st k).0 e in
    let full = standing_now st (st.standing ∪ single k) in
    let f' : Fit full = rw s at (step_fit st (restore k) f) in
    let back : standing_now full (full.standing ∖ single k) ≡ st =
    now_now st (st.standing ∪ single k) (full.standing ∖ single k)
    ∙ ap (standing_now st) (ap (λ (x : ℕ). x ∖ single k) (standing_now_lem st (st.standing ∪ single k)) ∙ with_without st.standing k a.1) ∙ now_same st in
    let r : Altered (roles_of full) full.standing (single k) (built (standing_now full (full.standing ∖ single k))) (built full) =
    restore_altered full (single k) f'.limits in
    rw s (rw (roles_now st (st.standing ∪ single k), back) at r)

-- ---- one call on a sound record

-- a run of calls on single roles, all accepted
module _ (call : ℕ → Call) (Altering : List ℕ → ℕ → Type 0)
    (altering : (ws : List ℕ) → So (sound ws) → (k : ℕ) → refusal (state_of ws) (call k) ≡ 0 → Altering ws k) where
  one_by_one : (ws : List ℕ) → So (sound ws) → (roles : List ℕ) → AllAccepted (state_of ws) (map call roles)
      → OneByOne call Altering ws (length roles) (words_after ws (map call roles))
  unfolding words_after
  one_by_one ws h [] a = OneByOne.none ws
  one_by_one ws h (k ∷ roles) a =
      let next = (edit ws (call k)).words in
      OneByOne.next ws k (length roles) (words_after next (map call roles)) (code_is ws h (call k) ∙ a.0) (altering ws h k a.0)
      (one_by_one next (edit_fit ws h (call k)) roles (rw (edit_state ws h (call k)) a.1))

  -- such a run that ends in the state that a call leaves
  made_altering : (ws : List ℕ) → So (sound ws) → (n : ℕ) (run : Call) → Made (state_of ws) n call (step (state_of ws) run).state
      → OneByOne call Altering ws n (edit ws run).words
  made_altering ws h n run m =
      let calls = map call m.roles in
      let e : words_after ws calls ≡ (edit ws run).words =
      after_words ws h calls ∙ ap built m.state_then ∙ sym (edit_words ws h run) in
      subst (λ (l : List ℕ). OneByOne call Altering ws n l) e
      (subst (λ (x : ℕ). OneByOne call Altering ws x (words_after ws calls)) m.many (one_by_one ws h m.roles m.all_accepted))

module _ (ws : List ℕ) (h : So (sound ws)) where
  strike_only : (k : ℕ) → refusal (state_of ws) (strike k) ≡ 0 → StrikeAltered ws k
  strike_only k e =
      let st = state_of ws in
      rw (edit_words ws h (strike k))
      (subst (λ (l : List ℕ). Altered (roles_of st) st.standing (single k) l (built (step st (strike k)).state)) (sym (sound-built ws h))
      (strike_words st k (sound_fit ws h) e))

  restore_only : (k : ℕ) → refusal (state_of ws) (restore k) ≡ 0 → RestoreAltered ws k
  restore_only k e =
      let st = state_of ws in
      rw (edit_state ws h (restore k), edit_words ws h (restore k))
      (subst (λ (l : List ℕ). Altered (roles_of st) (step st (restore k)).state.standing (single k) l (built (step st (restore k)).state)) (sym (sound-built ws h))
      (restore_words st k (sound_fit ws h) e))

  refused_only : (call : Call) → refusal (state_of ws) call ≢ 0 → (edit ws call).words ≡ ws
  refused_only call d = edit_words ws h call ∙ ap (λ (o : Outcome). built o.state) (step_refused (state_of ws) call d) ∙ sym (sound-built ws h)

module _ (ws : List ℕ) (h : So (sound ws)) where
  eliminate_only : (w : Weights) (t : Tolerance) → refusal (state_of ws) (eliminate w t) ≡ 0
      → OneByOne strike StrikeAltered ws (edit ws (eliminate w t)).replied.changed (edit ws (eliminate w t)).words
  eliminate_only w t e =
      rw (edit_replied ws h (eliminate w t))
      (made_altering strike StrikeAltered strike_only ws h (step (state_of ws) (eliminate w t)).replied.changed (eliminate w t)
      (elimination_made (state_of ws) w t (sound_fit ws h).limits e))

  review_only : (w : Weights) → refusal (state_of ws) (review w) ≡ 0
      → OneByOne restore RestoreAltered ws (edit ws (review w)).replied.changed (edit ws (review w)).words
  review_only w e =
      rw (edit_replied ws h (review w))
      (made_altering restore RestoreAltered restore_only ws h (step (state_of ws) (review w)).replied.changed (review w)
      (review_made (state_of ws) w (sound_fit ws h).limits e))

-- ---- the claim

pub claim : (ws : List ℕ) → So (sound ws) → (calls : List Call) → Condition3 (state_of ws) ws calls
claim ws h calls =
    let st = state_of ws in
    let end = state_after st calls in
    let f = after_fit st calls (sound_fit ws h) in
    let words = after_words ws h calls in
    let same = after_rows_lem st calls in
    record {
      standing = after_state ws h calls;
      answers = after_answers ws h calls;
      afresh = words;
      authorised = λ u p lu lp.
          rw words
          (subst (λ (rows : List ℕ). Authorised (role_rows_of (built end)) u p ↔ So (has (get_or rows u 0) p)) same.2
          (words_authorised end f u p (rw same.0 lu) (rw same.1 lp)));
      rows = built_rows (words_after ws calls) (after_sound ws h calls);
      standard = standard_held (words_after ws calls) (after_sound ws h calls);
      no_return = λ k. rw words (words_no_return end f k);
      no_replacement = λ x y. rw words (words_no_replacement end f x y);
      strikes_altered = λ before rest call _ k e a. strike_only (words_after ws before) (after_sound ws h before) k (passed before call (strike k) e a);
      restorations_altered = λ before rest call _ k e a. restore_only (words_after ws before) (after_sound ws h before) k (passed before call (restore k) e a);
      eliminations_altered = λ before rest call _ w t e a.
          rw e (eliminate_only (words_after ws before) (after_sound ws h before) w t (passed before call (eliminate w t) e a));
      reviews_altered = λ before rest call _ w e a.
          rw e (review_only (words_after ws before) (after_sound ws h before) w (passed before call (review w) e a));
      refused = λ before rest call _ d.
          let lent = words_after ws before in
          let c = code_then before call in
          let no : refusal (state_of lent) call ≢ 0 = λ e. d (c ∙ e) in
          (refused_only lent (after_sound ws h before) call no, rw c (⊎_elim (λ e. absurd (no e)) (λ o. o) (refusal_number (state_of lent) call)));
    }
  where
    code_then : (before : List Call) (call : Call) → (edit (words_after ws before) call).replied.code ≡ refusal (state_of (words_after ws before)) call
    code_then before call = code_is (words_after ws before) (after_sound ws h before) call

    passed : (before : List Call) (call same : Call) → call ≡ same → Accepted (words_after ws before) call → refusal (state_of (words_after ws before)) same ≡ 0
    passed before call same e a = sym (code_then before same) ∙ (rw e at a)

-- from the record built afresh from a state
pub built_claim : (st : State) → Fit st → (calls : List Call) → Condition3 st (built st) calls
built_claim st f calls = subst (λ (x : State). Condition3 x (built st) calls) (state_back st f.limits) (claim (built st) (fit_sound st f) calls)

-- "from a freshly mined panel": the record as an accepted mining left it, and the machine from the same crew list
pub mined_claim : (n m : ℕ) (crew ws : List ℕ) → (mine n m crew ws).code ≡ 0 → (calls : List Call)
    → Condition3 (fresh n m (rows_at n crew 0)) (mine n m crew ws).words calls
mined_claim n m crew ws e calls =
    let ok : mining_refusal n m crew ws ≡ 0 = sym (mine_code n m crew ws) ∙ e in
    rw (mine_accepted n m crew ws ok) (built_claim (fresh n m (rows_at n crew 0)) (mining_fit n m crew ws ok) calls)
