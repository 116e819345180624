-- A role taken up, as the machine takes it up.
-- Assumes nothing.
use mathlib.Core.Path.{◌≡◌, refl, sym, ◌∙◌, ap}
use mathlib.Core.Bool.{Bool, false, So}
use mathlib.Core.Logic.{◌≢◌}
use mathlib.Core.List.{List}
use Prim.Native.Nat.{ℕ, suc, ◌+◌, ◌*◌, ◌≤◌}
use native.Mathlib.Nat.{mul-le-mul}
use native.Mathlib.Numerals.{add-one}
use native.Mathlib.Omega.{arith}
use lib.Dec.{ltb}
use Rattle.sets.specs.Truth.{isnt, when◌then◌else◌}
use Rattle.sets.specs.Held.{set_of}
use Rattle.sets.specs.Sets.{has, ◌∖◌, single}
use Rattle.sets.proofs.Truth.{So-not, not-So, isnt_iff, when-true, when-false}
use Rattle.sets.proofs.Members.{item_below}
use Rattle.sets.proofs.Order.{∖-iff, single_iff}
use Rattle.model.specs.Hierarchy.{Roles, direct_permissions}
use Rattle.model.specs.Coverage.{strikable}
use Rattle.model.specs.Quality as model
use Rattle.model.specs.Machine.{Run, take_up, after_drop, after_strike, after_stay}
use Rattle.model.specs.Record.{built, state_of, Limits}
use Rattle.model.specs.State.{State, roles_of, standing_now}
use Rattle.model.proofs.Record.{direct_permissions_lt}
use Rattle.model.proofs.Elimination.{take-up, examined_one}
use Rattle.model.proofs.Steps.{standing_now_lem}
use Rattle.indexes.specs.declared.index.Index.{Index}
use Rattle.indexes.specs.Index.{Indexed, HoldersFor}
use Rattle.rows.specs.Linked.{Ready}
use Rattle.quality.specs.declared.counts.Counts.{Counts}
use Rattle.quality.specs.declared.weights.Tolerance.{Tolerance}
use Rattle.quality.specs.Numbers.{counts_in, weights_in, tolerance_in, most_quality}
use Rattle.quality.proofs.Limits.{tolerance_read}
use Rattle.edit_trials.specs.declared.progress.Progress.{Progress}
use Rattle.edit_trials.specs.declared.trial.Trial.{Trial}
use Rattle.edit_trials.specs.Trying.{run_at, SameCrewList, InStep, Tried}
use Rattle.edit_trials.proofs.Runs.{crew_same, crew_now, crew_roles, strike_below, trial_state, trial_in_step}
use Rattle.edit_turn.specs.declared.Terms.{Terms}
use Rattle.edit_turn.specs.declared.Turn.{Turn}
use Rattle.edit_turn.specs.Turning.{take_up_by, run_in, Stand, Underway, RunReached}

-- ---- products that can be formed

module _ (t : Tolerance) (q : ℕ) (small : q ≤ most_quality) where
  pub denominator_times : t.denominator * q ≤ 1000 * most_quality
  denominator_times = mul-le-mul ((tolerance_read t.numerator t.denominator).0 t.allowed).1 small

  pub numerator_times : t.numerator * q ≤ 2000 * most_quality
  numerator_times =
      let k = (tolerance_read t.numerator t.denominator).0 t.allowed in
      let b = k.1 in
      let a = k.3 in
      let most : t.numerator ≤ 2000 = omega arith in
      mul-le-mul most small

-- ---- what a turn of the machine leaves

module _ (ρ : Roles) (terms : Terms) (k : ℕ) (r : Run) where
  pub up_examined : (take_up_by ρ terms k r).examined ≡ suc r.examined
  unfolding take_up_by
  up_examined = examined_one ρ (weights_in terms.weights) (tolerance_in terms.tolerance) k r

  up_changed : (take_up_by ρ terms k r).changed ≤ suc r.changed
  unfolding take_up_by after_drop after_strike after_stay
  up_changed =
      take-up ρ (weights_in terms.weights) (tolerance_in terms.tolerance) k r (λ _ e. rw e (omega arith)) (λ _ _ e. rw e (omega arith))
      (λ _ _ e. rw e (omega arith))

  -- the others stand as they did
  pub up_standing : (i : ℕ) → So (has r.standing i) → i ≢ k → So (has (take_up_by ρ terms k r).standing i)
  unfolding take_up_by after_drop after_strike after_stay
  up_standing i h d =
      take-up ρ (weights_in terms.weights) (tolerance_in terms.tolerance) k r (λ _ e. rw e h)
      (λ _ _ e. rw e ((∖-iff r.standing (single k) i).1 (h, λ x. d (sym ((single_iff k i).0 x))))) (λ _ _ e. rw e h)

  -- what is listed stands
  up_listed : Stand r.worklist r.standing → Stand (take_up_by ρ terms k r).worklist (take_up_by ρ terms k r).standing
  unfolding take_up_by after_drop after_strike after_stay
  up_listed inv =
      take-up ρ (weights_in terms.weights) (tolerance_in terms.tolerance) k r (λ _ e. rw e (λ i h. inv i ((∖-iff r.worklist (single k) i).0 h).0))
      (λ _ _ e.
      rw e (λ i h. let a = (∖-iff r.worklist (single k) i).0 h in (∖-iff r.standing (single k) i).1 (inv i a.0, a.1)))
      (λ _ _ e. rw e inv)

-- ---- the same by the code

-- one role more was examined, and not struck; or struck, with what that leaves
abbrev pub unstruck : Progress → Progress
unstruck g = record { counts = g.counts; quality = g.quality; changed = g.changed; examined = g.examined + 1 }

abbrev pub struck : Progress → Counts → ℕ → Progress
struck g q x = record { counts = q; quality = x; changed = g.changed + 1; examined = g.examined + 1 }

-- the run of a record and a turn, number by number
held : (ws : List ℕ) (r : Turn) {R wl q x y : ℕ} → (state_of ws).standing ≡ R → set_of r.worklist ≡ wl → r.progress.quality ≡ q → r.progress.changed ≡ x
    → r.progress.examined ≡ y → run_in ws r ≡ record { standing = R; worklist = wl; reference = q; changed = x; examined = y }
unfolding run_in run_at
held ws r e_r el eq ex ey = λ i. record { standing = e_r i; worklist = el i; reference = eq i; changed = ex i; examined = ey i }

module _ (ws : List ℕ) (index : Index) (seniors : List ℕ) (terms : Terms) (turn : Turn) (k : ℕ) (u : Underway ws index seniors turn) where
  abbrev ρ : Roles
  ρ = roles_of (state_of ws)

  abbrev R : ℕ
  R = (state_of ws).standing

  abbrev next : Run
  next = take_up_by (roles_of (state_of ws)) terms k (run_in ws turn)

  reached : (after seniors' : List ℕ) (r : Turn) → InStep after index seniors' r.progress → SameCrewList (state_of ws) after → r.progress.quality ≤ most_quality
      → run_in after r ≡ next
      → RunReached (state_of ws) after index seniors' r next
  unfolding run_in run_at
  reached after seniors' r in_step same_crew small run =
      let changed : r.progress.changed ≤ suc turn.progress.changed = rw (ap (λ (x : Run). x.changed) run) (up_changed ρ terms k (run_in ws turn)) in
      let examined : r.progress.examined ≡ suc turn.progress.examined = ap (λ (x : Run). x.examined) run ∙ up_examined ρ terms k (run_in ws turn) in
      let fewer = u.fewer in
      record {
        underway = record {
          in_step = in_step;
          holders = rw (crew_roles (state_of ws) after same_crew) u.holders;
          listed = rw (ap (λ (x : Run). x.worklist) run, ap (λ (x : Run). x.standing) run) (up_listed ρ terms k (run_in ws turn) u.listed);
          fewer = omega arith;
          quality_small = small;
        };
        same_crew = same_crew;
        run = run;
      }

  -- as the record was
  stayed : (r : Turn) → r.progress ≡ unstruck turn.progress → run_in ws r ≡ next
      → RunReached (state_of ws) ws index seniors r next
  stayed r e run =
      reached ws seniors r (record { ready = u.in_step.ready; exact = rw e u.in_step.exact }) (crew_same ws) (rw e u.quality_small) run

  -- what the code asks of the record
  module _ (t : Bool) (stands : So (has (state_of ws).standing k))
      (told : (st : State) → Limits st → ws ≡ built st → Indexed (roles_of st) index → HoldersFor (roles_of st) (direct_permissions (roles_of st) st.standing k) index → So (has st.standing k) → t ≡ strikable (roles_of st) st.standing k) where
    asked : t ≡ strikable (roles_of (state_of ws)) (state_of ws).standing k
    unfolding roles_of
    asked =
        let ready = u.in_step.ready in
        told (state_of ws) ready.limits ready.afresh ready.indexed
        (λ p h. u.holders p (item_below ρ.permissions (direct_permissions ρ R k) p (direct_permissions_lt ρ R k) h)) stands

    -- the role is not strikable
    pub turn_dropped : t ≡ false → (r : Turn) → r.progress ≡ unstruck turn.progress → set_of r.worklist ≡ set_of turn.worklist ∖ single k
        → RunReached (state_of ws) ws index seniors r next
    unfolding run_in run_at take_up_by take_up after_drop
    turn_dropped f r e el =
        let examined : r.progress.examined ≡ suc turn.progress.examined = ap (λ (x : Progress). x.examined) e ∙ add-one turn.progress.examined in
        stayed r e
        (held ws r refl el (λ i. (e i).quality) (λ i. (e i).changed) examined
        ∙ sym (when-true (isnt (strikable ρ R k)) _ _ ((isnt_iff (strikable ρ R k)).1 (So-not (sym asked ∙ f)))))

    -- its strike is weighed: q is the quality, and `less` says whether that is within the tolerance
    module _ (able : So t) (trial : Trial) (weighed : Tried (roles_of (state_of ws)) (state_of ws).standing ((state_of ws).standing ∖ single k) k trial) (q : ℕ)
        (eq : q ≡ model.weigh (weights_in terms.weights) (counts_in trial.counts)) (less : Bool)
        (el : less ≡ ltb (terms.tolerance.denominator * q) (terms.tolerance.numerator * turn.progress.quality)) where
      quality_then : q ≡ model.quality (roles_of (state_of ws)) (weights_in terms.weights) ((state_of ws).standing ∖ single k)
      unfolding model.quality
      quality_then = eq ∙ ap (model.weigh (weights_in terms.weights)) weighed.counts

      decided : next ≡ (when less then after_strike k q (run_in ws turn) else after_stay (run_in ws turn))
      unfolding run_in run_at take_up_by take_up tolerance_in
      decided =
          when-false (isnt (strikable ρ R k)) _ _ (not-So (isnt (strikable ρ R k)) (λ h. (isnt_iff (strikable ρ R k)).0 h (sym asked ∙ able)))
          ∙ rw (el, sym quality_then) refl

      pub turn_stayed : less ≡ false → (r : Turn) → r.progress ≡ unstruck turn.progress → set_of r.worklist ≡ set_of turn.worklist
          → RunReached (state_of ws) ws index seniors r next
      unfolding run_in run_at after_stay
      turn_stayed f r e ew =
          let examined : r.progress.examined ≡ suc turn.progress.examined = ap (λ (x : Progress). x.examined) e ∙ add-one turn.progress.examined in
          stayed r e
          (held ws r refl ew (λ i. (e i).quality) (λ i. (e i).changed) examined ∙ sym (decided ∙ when-false less _ _ f))

      pub turn_struck : So less → q ≤ most_quality → (after seniors' : List ℕ) → Ready (standing_now (state_of ws) ((state_of ws).standing ∖ single k)) after index seniors' → (r : Turn)
          → r.progress ≡ struck turn.progress trial.counts q → set_of r.worklist ≡ set_of turn.worklist ∖ single k
          → RunReached (state_of ws) after index seniors' r next
      unfolding run_in run_at after_strike
      turn_struck within small after seniors' made r e ew =
          let ready = u.in_step.ready in
          let S = R ∖ single k in
          let now-state = trial_state ws index seniors ready S (strike_below ws index seniors ready k) trial.counts weighed.counts after seniors' made in
          let changed : r.progress.changed ≡ suc turn.progress.changed = ap (λ (x : Progress). x.changed) e ∙ add-one turn.progress.changed in
          let examined : r.progress.examined ≡ suc turn.progress.examined = ap (λ (x : Progress). x.examined) e ∙ add-one turn.progress.examined in
          reached after seniors' r
          (trial_in_step ws index seniors ready S (strike_below ws index seniors ready k) trial.counts weighed.counts after seniors' made r.progress (λ i. (e i).counts))
          (crew_now ws after S now-state) (rw e small)
          (held after r (ap (λ (st : State). st.standing) now-state ∙ standing_now_lem (state_of ws) S) ew (λ i. (e i).quality) changed examined
          ∙ sym (decided ∙ when-true less _ _ within))
