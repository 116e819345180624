-- Conditions 1 and 2 hold of what each call's definition gives.
-- Assumes nothing.
use mathlib.Core.Path.{◌≡◌, refl, sym, ◌∙◌, ap, subst}
use mathlib.Core.Bool.{Bool, true, false, So}
use mathlib.Core.Logic.Iff
use mathlib.Core.Logic.{◌↔◌, ◌≢◌, ◌⊎◌, ⊎_elim}
use mathlib.Core.List.{List, [], ◌∷◌}
use Prim.Native.Nat.{ℕ, zero, suc, ◌*◌, ◌≤◌, ◌<◌}
use native.Mathlib.Nat.{lt_irrefl}
use native.Mathlib.Omega.{arith}
use lib.ListN.{length, get_or}
use lib.Seq.{ext_get_or}
use Rattle.sets.specs.Truth.{bit}
use Rattle.sets.specs.Sets.{has, ◌∪◌, ◌∖◌, single}
use Rattle.sets.proofs.Truth.{either, by_test, So-not, not-So, bit-true, bit-false}
use Rattle.sets.proofs.Members.{item_below, below_of_items}
use Rattle.sets.proofs.Order.{∪-iff, ∖-iff, single_iff, collect_iff}
use Rattle.model.specs.Lists.{set_at, rows_at, OneOf}
use Rattle.model.specs.Candidates.{Intersection, Listed, candidates}
use Rattle.model.specs.Hierarchy.{RoleRows, candidate_count, permission_set}
use Rattle.model.specs.Chains.{may}
use Rattle.model.specs.Coverage.{strikable}
use Rattle.model.specs.Quality.{Weights, Tolerance, counted, counts, weigh, quality}
use Rattle.model.specs.State.{State, roles_of, standing_now, fresh, rows_within}
use Rattle.model.specs.Record.{record_length, crew_start, sets_start, built, state_of, role_rows_of, sound}
use Rattle.model.specs.Notions.{crew_row, Stands, Spared, Bare}
use Rattle.model.specs.Refusals.{◌or_else◌, soundness_refusal, role_refusal, absent_refusal, standing_refusal, strike_refusal, pair_refusal, weights_refusal, length_refusal}
use Rattle.model.specs.Machine.{Call, reply, refusal, accepted, Outcome}
use Rattle.model.specs.Machine.Call.{strike, restore, eliminate, review}
use Rattle.model.specs.Calls.{unfit, mining_refusal, Mined, mine, Edited, edit, Told, told, quality_of, may_of}
use Rattle.model.specs.Conditions.{Rule, rule, numbers_of, Exactly, Condition1, MoreThan, WeightsInRange, ToleranceInRange, mining_rules, MinedFrom, MiningConditions, EditCondition1, StrikeConditions, RestoreConditions, EliminateConditions, ReviewConditions, QualityConditions, MayConditions}
use Rattle.model.proofs.Growing.{among_length}
use Rattle.model.proofs.Candidates.{candidate_iff, candidates_growing}
use Rattle.model.proofs.Lists.{length-rows_at, get_d_rows_at}
use Rattle.model.proofs.Record.{within_limits_iff, rows_within_iff, read_users, read_permissions, read_count, read_zeros, read_standing, state_back}
use Rattle.model.proofs.Bounds.{weights_allowed_iff, tolerance_iff}
use Rattle.model.proofs.Refusals.{or_else_assoc, or_else_iff, unfit_iff, length_check, limits_check, crew_check, candidates_check, soundness_check, role_check, pair_check, absent_check, standing_check, strike_check, weights_check, eliminate_check, strike_iff}
use Rattle.model.proofs.Steps.{Fit, mining_fit, step-accepted}
use Rattle.model.proofs.Elimination.{eliminated_closed, eliminated_examined}
use Rattle.model.proofs.Review.{reviewed_closed}
use Rattle.model.proofs.Calls.{mine_code, mine_accepted, mine_refused, edit_code, edit_refused, told_accepted, told_refused, told_code}
use Rattle.model.proofs.Claim.{sound_fit, fit_sound, code_is, edit_fit, edit_replied, edit_state}
use Rattle.model.proofs.Notions.{set_read, sound_stands, strikable_read, bare_read, built_rows}
use Rattle.model.proofs.Sound.{sound_count, sound_rows, may_authorised, may_granted}
use Rattle.model.proofs.Rules.{Judges, judges, judges_as, judges_broken, Above, above_lower, NumberByRules, judged_next, judged_last}

-- ---- the record that a call is lent: 1, 5

-- and then the call's own rules
pub judged_record : (ws : List ℕ) (rules : List Rule) (b : ℕ) → Above 5 rules → (So (sound ws) → NumberByRules rules b)
    → NumberByRules (rule 1 (length ws ≡ record_length) ∷ rule 5 (So (sound ws)) ∷ rules) (unfit ws or_else b)
unfolding unfit
judged_record ws rules b up rest =
    let five : Rule = rule 5 (So (sound ws)) in
    subst (NumberByRules (rule 1 (length ws ≡ record_length) ∷ five ∷ rules)) (sym (or_else_assoc (length_refusal ws) (soundness_refusal ws) b))
    (judged_next (judges (length_check ws)) (five ∷ rules) (omega arith, above_lower 1 5 rules (omega arith) up) (soundness_refusal ws or_else b)
    (λ _. judged_next (judges (soundness_check ws)) rules up b rest))

-- ---- each call's own rules

module _ (ws : List ℕ) (h : So (sound ws)) (k : ℕ) where
  abbrev eight : Rule
  eight = record { number = 8; holds = Spared ws k; broken = Bare ws k }

  abbrev seven : Rule
  seven = record { number = 7; holds = ¬ Stands ws k; broken = Stands ws k }

  judges_role : Judges (role_refusal (roles_of (state_of ws)) k) (rule 6 (k < get_or ws 2 0))
  judges_role = judges (rw (← sound_count ws h) at (role_check (roles_of (state_of ws)) k))

  judges_strike : Stands ws k → Judges (strike_refusal (roles_of (state_of ws)) (state_of ws).standing k) eight
  judges_strike s =
      let R = (state_of ws).standing in
      let ρ = roles_of (state_of ws) in
      let t = strikable_read ws h k s in
      judges_broken (Spared ws k) (Bare ws k) (strike_check ρ R k) t
      (λ d. bare_read ws h k s (not-So (strikable ρ R k) d), λ b x. b.alone (t.0 x b.user b.permission b.covered))

  judged_strike : NumberByRules (rule 6 (k < get_or ws 2 0) ∷ rule 7 (Stands ws k) ∷ eight ∷ []) (refusal (state_of ws) (strike k))
  unfolding refusal state_of
  judged_strike =
      let R = set_at 2 ws 4 in
      let rest = strike_refusal (roles_of (state_of ws)) R k in
      judged_next judges_role (rule 7 (Stands ws k) ∷ eight ∷ []) (omega arith, (omega arith, tt)) (absent_refusal R k or_else rest)
      (λ _. judged_next (judges (absent_check R k)) (eight ∷ []) (omega arith, tt) rest (λ s. judged_last (judges_strike s)))

  judged_restore : NumberByRules (rule 6 (k < get_or ws 2 0) ∷ seven ∷ []) (refusal (state_of ws) (restore k))
  unfolding refusal state_of
  judged_restore =
      let R = set_at 2 ws 4 in
      judged_next judges_role (seven ∷ []) (omega arith, tt) (standing_refusal R k)
      (λ _.
      judged_last
      (judges_broken (¬ Stands ws k) (Stands ws k) (standing_check R k) (λ f. So-not f, not-So (has R k))
      (λ d. by_test (has R k) (λ t. t) (λ f. absurd (d f)), λ s f. So-not f s)))

judged_weights : (w : Weights) → NumberByRules (rule 9 (WeightsInRange w) ∷ []) (weights_refusal w)
judged_weights w = judged_last (judges_as (WeightsInRange w) (weights_check w) (weights_allowed_iff w))

judged_eliminate : (st : State) (w : Weights) (t : Tolerance) → NumberByRules (rule 9 (WeightsInRange w × ToleranceInRange t) ∷ []) (refusal st (eliminate w t))
judged_eliminate st w t =
    let a = weights_allowed_iff w in
    let b = tolerance_iff t in
    judged_last
    (judges_as (WeightsInRange w × ToleranceInRange t) (eliminate_check st w t) (λ x. (a.0 x.0, b.0 x.1), λ x. (a.1 x.0, b.1 x.1)))

judged_pair : (ws : List ℕ) (u p : ℕ)
    → NumberByRules (rule 6 ((u < get_or ws 0 0) × (p < get_or ws 1 0)) ∷ []) (pair_refusal (state_of ws).users (state_of ws).permissions u p)
unfolding state_of
judged_pair ws u p = judged_last (judges (pair_check (get_or ws 0 0) (get_or ws 1 0) u p))

-- "crew words not 4n .. or a bit at m or above"
crew_iff : (n m : ℕ) (crew : List ℕ)
    → ((length crew ≡ 4 * n) × So (rows_within m (rows_at n crew 0)))
    ↔ ((length crew ≡ 4 * n) × ((u p : ℕ) → u < n → So (has (get_or (rows_at n crew 0) u 0) p) → p < m))
crew_iff n m crew =
    let rows = rows_at n crew 0 in
    let e = length-rows_at n crew 0 in
    let a = rows_within_iff m rows in (
      λ x. (x.0, λ u p l t. item_below m (get_or rows u 0) p (a.0 x.1 u (rw e l)) t),
      λ x. (
        x.0,
        a.1
            (λ u l.
            below_of_items m (get_or rows u 0)
            (λ i b. not-So (has (get_or rows u 0) i) (λ t. let z = x.1 u i (rw e at l) t in let no : ⊥ = omega arith in no))),
      ),
    )

-- "more than 128 candidates"
more_iff : (rows : List ℕ) → (¬ (length (candidates rows) ≤ 128)) ↔ MoreThan 128 rows
more_iff rows = (
  λ d.
      record {
        sets = candidates rows;
        once = candidates_growing rows;
        intersections = λ x l. (candidate_iff rows x).0 l;
        more = either 128 (length (candidates rows)) (λ l. l) (λ l. absurd (d l));
      },
  λ x few.
      let l = among_length x.sets (candidates rows) x.once (candidates_growing rows) (λ y t. (candidate_iff rows y).1 (x.intersections y t)) in
      let o = x.more in
      let z : ⊥ = omega arith in z,
)

judged_mining : (n m : ℕ) (crew ws : List ℕ) → NumberByRules (mining_rules n m crew ws) (mining_refusal n m crew ws)
unfolding mining_refusal
judged_mining n m crew ws =
    let rows = rows_at n crew 0 in
    let more = more_iff rows in
    let few : (length (candidates rows) ≤ 128) ↔ (¬ MoreThan 128 rows) =
    (λ l x. more.1 x l, λ d. either 128 (length (candidates rows)) (λ l. absurd (d (more.0 (λ f. lt_irrefl 128 (omega arith))))) (λ l. l)) in
    judged_next (judges (length_check ws)) _ (omega arith, (omega arith, (omega arith, tt))) _
    (λ _.
    judged_next (judges_as _ (limits_check n m) (within_limits_iff n m)) _ (omega arith, (omega arith, tt)) _
    (λ _.
    judged_next (judges_as _ (crew_check n m crew) (crew_iff n m crew)) _ (omega arith, tt) _
    (λ _. judged_last (judges_broken (¬ MoreThan 128 rows) (MoreThan 128 rows) (candidates_check rows) few more))))

-- ---- condition 1

pub judged_condition : {rules : List Rule} {code : ℕ} (given : ℕ) (beside lent left : List ℕ) → NumberByRules rules code → given ≡ code
    → (code ≢ 0 → ((i : ℕ) → get_or beside i 0 ≡ 0) × (left ≡ lent)) → Condition1 rules given beside lent left
judged_condition {rules} {code} given beside lent left j e refused =
    let no : given ≢ 0 → code ≢ 0 = λ d z. d (e ∙ z) in
    record {
      number = subst (λ (x : ℕ). OneOf x (0 ∷ numbers_of rules)) (sym e) j.number;
      exactly = subst (Exactly (Unit {0}) rules) (sym e) (j.exactly (Unit {0}) tt);
      zeros = λ d. (refused (no d)).0;
      unaltered = λ d. (refused (no d)).1;
    }

pub zeros1 : (i : ℕ) → ◌≡◌ {A = ℕ} (get_or (0 ∷ []) i 0) 0
zeros1 zero = refl
zeros1 (suc i) = refl

zeros2 : (i : ℕ) → ◌≡◌ {A = ℕ} (get_or (0 ∷ 0 ∷ []) i 0) 0
zeros2 zero = refl
zeros2 (suc i) = zeros1 i

mine_condition1 : (n m : ℕ) (crew ws : List ℕ)
    → Condition1 (mining_rules n m crew ws) (mine n m crew ws).code ((mine n m crew ws).candidates ∷ []) ws (mine n m crew ws).words
mine_condition1 n m crew ws =
    judged_condition (mine n m crew ws).code ((mine n m crew ws).candidates ∷ []) ws (mine n m crew ws).words (judged_mining n m crew ws)
    (mine_code n m crew ws) (λ d. rw (mine_refused n m crew ws d) (zeros1, refl))

edit_condition1 : {rules : List Rule} (ws : List ℕ) (call : Call) → NumberByRules rules (unfit ws or_else refusal (state_of ws) call)
    → EditCondition1 rules ws (edit ws call)
unfolding reply
edit_condition1 ws call j =
    let e = edit ws call in
    judged_condition e.replied.code (e.replied.changed ∷ e.replied.examined ∷ []) ws e.words j (edit_code ws call)
    (λ d. rw (edit_refused ws call d) (zeros2, refl))

told_condition1 : {rules : List Rule} (ws : List ℕ) (code value : ℕ) → NumberByRules rules code
    → Condition1 rules (told code value).code ((told code value).value ∷ []) ws ws
told_condition1 ws code value j =
    judged_condition (told code value).code ((told code value).value ∷ []) ws ws j (told_code code value)
    (λ d. rw (told_refused code value d) (zeros1, refl))

-- ---- mining

module _ (n m : ℕ) (crew ws : List ℕ) (ok : mining_refusal n m crew ws ≡ 0) where
  abbrev rows : List ℕ
  rows = rows_at n crew 0

  abbrev c : ℕ
  c = length (candidates (rows_at n crew 0))

  abbrev st : State
  st = fresh n m (rows_at n crew 0)

  f : Fit (fresh n m (rows_at n crew 0))
  f = mining_fit n m crew ws ok

  sets_read : rows_at c (built st) sets_start ≡ candidates rows
  unfolding fresh roles_of candidate_count permission_set
  sets_read =
      ext_get_or 0 (rows_at c (built st) sets_start) (candidates rows) (length-rows_at c (built st) sets_start)
      (λ k b. let l : k < c = rw (length-rows_at c (built st) sets_start) at b in get_d_rows_at c (built st) sets_start k l ∙ set_read st f.limits k l)

  mined_from : MinedFrom n m crew c (built st)
  unfolding fresh roles_of candidate_count state_of
  mined_from =
      record {
        users = read_users st f.limits;
        permissions = read_permissions st f.limits;
        count = read_count st f.limits;
        rows = rw (read_users st f.limits) at (ap (λ (s : State). s.rows) (state_back st f.limits));
        zeros = read_zeros st f.limits;
        mined = λ x. rw sets_read (subst (λ (l : ℕ). Listed (candidates rows) x ↔ ((x ≢ 0) × Intersection rows l x)) (length-rows_at n crew 0) (candidate_iff rows x));
        growing = rw sets_read (candidates_growing rows);
        standing = λ k.
            rw (read_standing st f.limits) (λ s. ((collect_iff c (λ k. true) k).0 s).0, λ l. (collect_iff c (λ k. true) k).1 (l, refl));
        building = built_rows (built st) (fit_sound st f);
        is_sound = fit_sound st f;
      }

pub mining_conditions : (n m : ℕ) (crew ws : List ℕ) (r : Mined) → r ≡ mine n m crew ws → MiningConditions n m crew ws r
mining_conditions n m crew ws r e =
    rw e
    (record {
      condition1 = mine_condition1 n m crew ws;
      condition2 = λ z.
          let ok : mining_refusal n m crew ws ≡ 0 = sym (mine_code n m crew ws) ∙ z in
          rw (mine_accepted n m crew ws ok) (mined_from n m crew ws ok);
    })

-- ---- the editing calls

-- an accepted call was lent a sound record, and leaves the standing set that the machine does
module _ (ws : List ℕ) (call : Call) (z : (edit ws call).replied.code ≡ 0) where
  both_zero : (unfit ws ≡ 0) × (refusal (state_of ws) call ≡ 0)
  both_zero = (or_else_iff (unfit ws) (refusal (state_of ws) call)).0 (sym (edit_code ws call) ∙ z)

  lent_sound : So (sound ws)
  lent_sound = (unfit_iff ws).0 both_zero.0

  state_left : state_of (edit ws call).words ≡ standing_now (state_of ws) (accepted (state_of ws) call).standing
  state_left =
      edit_state ws lent_sound call ∙ ap (λ (o : Outcome). o.state) (step-accepted (state_of ws) call both_zero.1)

  standing_left : set_at 2 (edit ws call).words 4 ≡ (accepted (state_of ws) call).standing
  unfolding state_of standing_now
  standing_left = ap (λ (s : State). s.standing) state_left

pub strike_conditions : (ws : List ℕ) (k : ℕ) (e : Edited) → e ≡ edit ws (strike k) → StrikeConditions ws k e
unfolding accepted state_of
strike_conditions ws k e q =
    rw q
    (record {
      condition1 =
          edit_condition1 ws (strike k)
          (judged_record ws _ (refusal (state_of ws) (strike k)) (omega arith, (omega arith, (omega arith, tt))) (λ h. judged_strike ws h k));
      condition2 = λ h s.
          let i = strike_iff (state_of ws) k in
          let t = strikable_read ws h k s in
          rw (code_is ws h (strike k)) (λ z. t.0 (i.0 z).2, λ x. i.1 (sound_stands ws h k s, s, t.1 x));
      loses = λ z j.
          rw (standing_left ws (strike k) z) (
            λ x. let a = (∖-iff (set_at 2 ws 4) (single k) j).0 x in (a.0, λ y. a.1 ((single_iff k j).1 (sym y))),
            λ x. (∖-iff (set_at 2 ws 4) (single k) j).1 (x.0, λ y. x.1 (sym ((single_iff k j).0 y))),
          );
    })

pub restore_conditions : (ws : List ℕ) (k : ℕ) (e : Edited) → e ≡ edit ws (restore k) → RestoreConditions ws k e
unfolding accepted state_of
restore_conditions ws k e q =
    rw q
    (record {
      condition1 =
          edit_condition1 ws (restore k)
          (judged_record ws _ (refusal (state_of ws) (restore k)) (omega arith, (omega arith, tt)) (λ h. judged_restore ws h k));
      gains = λ z j.
          rw (standing_left ws (restore k) z) (
            λ x. ⊎_elim (λ y. ◌⊎◌.inl y) (λ y. ◌⊎◌.inr (sym ((single_iff k j).0 y))) ((∪-iff (set_at 2 ws 4) (single k) j).0 x),
            λ x. (∪-iff (set_at 2 ws 4) (single k) j).1 (⊎_elim (λ y. ◌⊎◌.inl y) (λ y. ◌⊎◌.inr ((single_iff k j).1 (sym y))) x),
          );
    })

-- the closing properties, of the state that is left
not_worth : (ws : List ℕ) (w : Weights) (t : Tolerance) (st : State) → So (sound ws)
    → st ≡ standing_now (state_of ws) (accepted (state_of ws) (eliminate w t)).standing
    → (k : ℕ) → k < candidate_count (roles_of st) → So (strikable (roles_of st) st.standing k)
    → t.numerator * quality (roles_of st) w st.standing ≤ t.denominator * quality (roles_of st) w (st.standing ∖ single k)
unfolding accepted standing_now roles_of
not_worth ws w t st h e = rw e (eliminated_closed (roles_of (state_of ws)) w t (state_of ws).standing (sound_fit ws h).limits.standing_below)

no_lower : (ws : List ℕ) (w : Weights) (st : State) → So (sound ws) → st ≡ standing_now (state_of ws) (accepted (state_of ws) (review w)).standing
    → (k : ℕ) → k < candidate_count (roles_of (state_of ws)) → has st.standing k ≡ false
    → quality (roles_of st) w st.standing ≤ quality (roles_of st) w (st.standing ∪ single k)
unfolding accepted standing_now roles_of
no_lower ws w st h e = rw e (reviewed_closed (roles_of (state_of ws)) w (state_of ws).standing (sound_fit ws h).limits.standing_below)

pub eliminate_conditions : (ws : List ℕ) (w : Weights) (t : Tolerance) (e : Edited) → e ≡ edit ws (eliminate w t) → EliminateConditions ws w t e
unfolding accepted reply state_of
eliminate_conditions ws w t e q =
    let call = eliminate w t in
    let left = (edit ws call).words in
    rw q
    (record {
      condition1 = edit_condition1 ws call (judged_record ws _ (refusal (state_of ws) call) (omega arith, tt) (λ _. judged_eliminate (state_of ws) w t));
      taken_up = λ z.
          let h = lent_sound ws call z in
          rw (edit_replied ws h call, step-accepted (state_of ws) call (both_zero ws call z).1, sound_count ws h)
          (eliminated_examined (roles_of (state_of ws)) w t (state_of ws).standing (sound_fit ws h).limits.standing_below);
      ended = λ z k s x.
          let h = edit_fit ws (lent_sound ws call z) call in
          not_worth ws w t (state_of left) (lent_sound ws call z) (state_left ws call z) k (sound_stands left h k s) ((strikable_read left h k s).1 x);
    })

pub review_conditions : (ws : List ℕ) (w : Weights) (e : Edited) → e ≡ edit ws (review w) → ReviewConditions ws w e
unfolding refusal accepted state_of
review_conditions ws w e q =
    rw q
    (record {
      condition1 = edit_condition1 ws (review w) (judged_record ws _ (weights_refusal w) (omega arith, tt) (λ _. judged_weights w));
      ended = λ z k l n.
          let h = lent_sound ws (review w) z in
          let left = (edit ws (review w)).words in
          no_lower ws w (state_of left) h (state_left ws (review w) z) k (subst (λ (c : ℕ). k < c) (sound_count ws h) l) (not-So (has (set_at 2 left 4) k) n);
    })

-- ---- the reading calls

-- an accepted question was asked of a sound record, and has its value
module _ (ws : List ℕ) (rest value : ℕ) (z : (told (unfit ws or_else rest) value).code ≡ 0) where
  told_zero : (unfit ws ≡ 0) × (rest ≡ 0)
  told_zero = (or_else_iff (unfit ws) rest).0 (sym (told_code (unfit ws or_else rest) value) ∙ z)

  told_value : (told (unfit ws or_else rest) value).value ≡ value
  told_value = ap (λ (t : Told). t.value) (told_accepted (unfit ws or_else rest) value ((or_else_iff (unfit ws) rest).1 told_zero))

pub quality_conditions : (ws : List ℕ) (w : Weights) (t : Told) → t ≡ quality_of ws w → QualityConditions ws w t
unfolding quality_of quality counts state_of
quality_conditions ws w t q =
    let st = state_of ws in
    let v = weigh w (counted (candidate_count (roles_of st)) (role_rows_of ws) st.standing) in
    rw q
    (record {
      condition1 =
          told_condition1 ws (unfit ws or_else weights_refusal w) v (judged_record ws _ (weights_refusal w) (omega arith, tt) (λ _. judged_weights w));
      condition2 = λ z.
          let h = (unfit_iff ws).0 (told_zero ws (weights_refusal w) v z).0 in
          told_value ws (weights_refusal w) v z
          ∙ ap (λ (b : RoleRows). weigh w (counted (candidate_count (roles_of st)) b st.standing)) (sound_rows ws h);
    })

bit_iff : (t : Bool) → (bit t ≡ 1) ↔ So t
bit_iff t = (
  λ e. by_test t (λ h. h) (λ f. let z = sym (bit-false t f) ∙ e in let no : ⊥ = omega arith in absurd no),
  bit-true t,
)

-- yes by the crew list
by_crew : (ws : List ℕ) (u p : ℕ) → (may_of ws u p).code ≡ 0
    → So (may (candidate_count (roles_of (state_of ws))) (role_rows_of ws) u p) ↔ So (has (crew_row ws u) p)
unfolding may_of state_of
by_crew ws u p z =
    let yes = may (candidate_count (roles_of (state_of ws))) (role_rows_of ws) u p in
    let a = told_zero ws (pair_refusal (get_or ws 0 0) (get_or ws 1 0) u p) (bit yes) z in
    let l = (pair_check (get_or ws 0 0) (get_or ws 1 0) u p).passed a.1 in
    rw (← get_d_rows_at (get_or ws 0 0) ws crew_start u l.0) (may_granted ws ((unfit_iff ws).0 a.0) u p l.0 l.1)

pub may_conditions : (ws : List ℕ) (u p : ℕ) (t : Told) → t ≡ may_of ws u p → MayConditions ws u p t
unfolding may_of
may_conditions ws u p t q =
    let st = state_of ws in
    let no = pair_refusal st.users st.permissions u p in
    let yes = may (candidate_count (roles_of st)) (role_rows_of ws) u p in
    rw q
    (record {
      condition1 = told_condition1 ws (unfit ws or_else no) (bit yes) (judged_record ws _ no (omega arith, tt) (λ _. judged_pair ws u p));
      yes_or_no = λ z.
          rw (told_value ws no (bit yes) z) (by_test yes (λ h. ◌⊎◌.inr (◌⊎◌.inl (bit-true yes h))) (λ f. ◌⊎◌.inl (bit-false yes f)));
      condition2 = λ z. rw (told_value ws no (bit yes) z) (Iff.trans (bit_iff yes) (by_crew ws u p z));
      by_roles = λ z.
          rw (told_value ws no (bit yes) z) (Iff.trans (bit_iff yes) (may_authorised ws ((unfit_iff ws).0 (told_zero ws no (bit yes) z).0) u p));
    })
