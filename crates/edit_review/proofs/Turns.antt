-- A turn of the review, and its passes, as the machine takes them.
-- Assumes nothing.
use mathlib.Core.Path.{◌≡◌, refl, sym, ◌∙◌, ap}
use mathlib.Core.Bool.{false, So}
use mathlib.Core.List.{List}
use Prim.Native.Nat.{ℕ, zero, suc, ◌+◌, ◌-◌, ◌*◌, ◌≤◌, ◌<◌}
use native.Mathlib.Numerals.{add-one}
use native.Mathlib.Omega.{arith}
use lib.Dec.{eqb, ltb}
use lib.ListN.{get_or}
use Rattle.sets.specs.Truth.{when◌then◌else◌}
use Rattle.sets.specs.Sets.{has, ◌∪◌, single}
use Rattle.sets.proofs.Truth.{by_test, not-So, ltb_iff, eqb_iff, when-true, when-false}
use Rattle.model.specs.Hierarchy.{Roles, candidate_count}
use Rattle.model.specs.Quality.{Weights, quality}
use Rattle.model.specs.Machine.{Run, try_restore, review_to, review_passes, reviewed, begin, after_stay, after_restore}
use Rattle.model.specs.Record.{state_of}
use Rattle.model.specs.State.{State, roles_of, standing_now}
use Rattle.model.proofs.Steps.{standing_now_lem}
use Rattle.edit_trials.specs.declared.progress.Progress.{Progress}
use Rattle.indexes.specs.declared.index.Index.{Index}
use Rattle.rows.specs.Linked.{Ready}
use Rattle.edit_trials.specs.Trying.{run_at, SameCrewList, InStep}
use Rattle.edit_trials.proofs.Runs.{roles_count, ready_few, crew_same, crew_trans, crew_roles, crew-count}
use Rattle.edit_review.specs.Reviewing.{Stepped}

-- ---- one candidate

module _ (ws : List ℕ) (at : Progress) (w : Weights) (k : ℕ) where
  pub turn_stands : So (has (state_of ws).standing k) → (worklist : ℕ) → run_at ws at worklist ≡ try_restore (roles_of (state_of ws)) w k (run_at ws at worklist)
  unfolding run_at try_restore
  turn_stands h worklist = sym (when-true (has (state_of ws).standing k) _ _ h)

  module _ (absent : has (state_of ws).standing k ≡ false) (q : ℕ) (eq : q ≡ quality (roles_of (state_of ws)) w ((state_of ws).standing ∪ single k)) where
    pub turn_restored : q < at.quality → (after : List ℕ) (r : Progress) → state_of after ≡ standing_now (state_of ws) ((state_of ws).standing ∪ single k)
        → r.quality ≡ q → r.changed ≡ at.changed + 1 → r.examined ≡ at.examined + 1
        → (worklist : ℕ) → run_at after r worklist ≡ try_restore (roles_of (state_of ws)) w k (run_at ws at worklist)
    unfolding run_at try_restore after_restore
    turn_restored l after r es er ec ee worklist =
        let S = (state_of ws).standing ∪ single k in
        let now : (state_of after).standing ≡ S = ap (λ (st : State). st.standing) es ∙ standing_now_lem (state_of ws) S in
        let reference : r.quality ≡ quality (roles_of (state_of ws)) w S = er ∙ eq in
        let changed : r.changed ≡ suc at.changed = ec ∙ add-one at.changed in
        let examined : r.examined ≡ suc at.examined = ee ∙ add-one at.examined in
        let better : So (ltb (quality (roles_of (state_of ws)) w S) at.quality) = (ltb_iff (quality (roles_of (state_of ws)) w S) at.quality).1 (rw eq at l) in
        (λ i. record { standing = now i; worklist = worklist; reference = reference i; changed = changed i; examined = examined i })
        ∙ sym (when-false (has (state_of ws).standing k) _ _ absent ∙ when-true (ltb (quality (roles_of (state_of ws)) w S) at.quality) _ _ better)

    pub turn_kept : at.quality ≤ q → (after : List ℕ) (r : Progress) → after ≡ ws → r.quality ≡ at.quality → r.changed ≡ at.changed → r.examined ≡ at.examined + 1
        → (worklist : ℕ) → run_at after r worklist ≡ try_restore (roles_of (state_of ws)) w k (run_at ws at worklist)
    unfolding run_at try_restore after_stay
    turn_kept l after r es er ec ee worklist =
        let S = (state_of ws).standing ∪ single k in
        let examined : r.examined ≡ suc at.examined = ee ∙ add-one at.examined in
        let t = ltb (quality (roles_of (state_of ws)) w S) at.quality in
        let worse : t ≡ false = not-So t (λ h. let x = (ltb_iff (quality (roles_of (state_of ws)) w S) at.quality).0 h in let z : ⊥ = omega arith in z) in
        (λ i. record { standing = (state_of (es i)).standing; worklist = worklist; reference = er i; changed = ec i; examined = examined i })
        ∙ sym (when-false (has (state_of ws).standing k) _ _ absent ∙ when-false t _ _ worse)

-- how much a turn counts
turn-counts : (ρ : Roles) (w : Weights) (k : ℕ) (r : Run) → ((try_restore ρ w k r).changed ≤ suc r.changed) × ((try_restore ρ w k r).examined ≤ suc r.examined)
unfolding try_restore after_restore after_stay
turn-counts ρ w k r =
    let q = quality ρ w (r.standing ∪ single k) in
    by_test (has r.standing k)
    (λ h. rw (when-true (has r.standing k) r (when ltb q r.reference then after_restore k q r else after_stay r) h) (omega arith, omega arith))
    (λ h.
    rw (when-false (has r.standing k) r (when ltb q r.reference then after_restore k q r else after_stay r) h)
    (by_test (ltb q r.reference)
    (λ g. rw (when-true (ltb q r.reference) (after_restore k q r) (after_stay r) g) (omega arith, omega arith))
    (λ g. rw (when-false (ltb q r.reference) (after_restore k q r) (after_stay r) g) (omega arith, omega arith))))

-- ---- a pass

-- the candidates below k are taken up
pub pass_more : (ws mid after : List ℕ) (at g r : Progress) (w : Weights) (k : ℕ) → roles_of (state_of mid) ≡ roles_of (state_of ws)
    → ((worklist : ℕ) → run_at mid g worklist ≡ review_to (roles_of (state_of ws)) w k (run_at ws at worklist))
    → ((worklist : ℕ) → run_at after r worklist ≡ try_restore (roles_of (state_of mid)) w k (run_at mid g worklist))
    → (worklist : ℕ) → run_at after r worklist ≡ review_to (roles_of (state_of ws)) w (k + 1) (run_at ws at worklist)
unfolding review_to
pass_more ws mid after at g r w k same inv turn worklist =
    turn worklist ∙ rw (same, inv worklist, add-one k) refl

pub pass-none : (ws : List ℕ) (at : Progress) (w : Weights) (worklist : ℕ) → run_at ws at worklist ≡ review_to (roles_of (state_of ws)) w 0 (run_at ws at worklist)
unfolding review_to
pass-none ws at w worklist = refl

pub pass-counts : (ρ : Roles) (w : Weights) (k : ℕ) (r : Run) → ((review_to ρ w k r).changed ≤ r.changed + k) × ((review_to ρ w k r).examined ≤ r.examined + k)
unfolding review_to
pass-counts ρ w zero r = (omega arith, omega arith)
pass-counts ρ w (suc k) r =
    let a = pass-counts ρ w k r in
    let b = turn-counts ρ w k (review_to ρ w k r) in
    let x = a.0 in let y = a.1 in let u = b.0 in let v = b.1 in
    (omega arith, omega arith)

-- ---- passes

pub passes_on : (ρ : Roles) (w : Weights) (fuel : ℕ) (r next : Run) → next ≡ review_to ρ w (candidate_count ρ) r → (next.changed ≡ r.changed → ⊥)
    → review_passes ρ w (suc fuel) r ≡ review_passes ρ w fuel next
unfolding review_passes
passes_on ρ w fuel r next e d =
    rw (sym e) (when-false (eqb next.changed r.changed) next (review_passes ρ w fuel next) (not-So (eqb next.changed r.changed) (λ h. d ((eqb_iff next.changed r.changed).0 h))))

pub passes_last : (ρ : Roles) (w : Weights) (fuel : ℕ) (r next : Run) → next ≡ review_to ρ w (candidate_count ρ) r → next.changed ≡ r.changed
    → review_passes ρ w (suc fuel) r ≡ next
unfolding review_passes
passes_last ρ w fuel r next e d =
    rw (sym e) (when-true (eqb next.changed r.changed) next (review_passes ρ w fuel next) ((eqb_iff next.changed r.changed).1 d))

pub passes_none : (ρ : Roles) (w : Weights) (r : Run) → review_passes ρ w 0 r ≡ r
unfolding review_passes
passes_none ρ w r = refl

-- ---- the pass as the code walks it: mid and g are what the candidates below k have left

abbrev pub Passing : (ws : List ℕ) (index : Index) (w : Weights) (at : Progress) (mid seniors : List ℕ) (g : Progress) (k : ℕ) → Type 0
Passing ws index w at mid seniors g k = Stepped (review_to (roles_of (state_of ws)) w k) ws at mid index seniors g

pub passing_start : (ws : List ℕ) (index : Index) (seniors : List ℕ) (w : Weights) (at : Progress) → InStep ws index seniors at → Passing ws index w at ws seniors at 0
passing_start ws index seniors w at g = record { in_step = g; same_crew = crew_same ws; run = pass-none ws at w }

module _ (ws : List ℕ) (index : Index) (w : Weights) (at : Progress) (mid seniors : List ℕ) (g : Progress) (k : ℕ) (p : Passing ws index w at mid seniors g k) where
  pub passing_more : (after seniors' : List ℕ) (r : Progress) → Stepped (try_restore (roles_of (state_of mid)) w k) mid g after index seniors' r
      → Passing ws index w at after seniors' r (k + 1)
  passing_more after seniors' r t =
      record {
        in_step = t.in_step;
        same_crew = crew_trans (state_of ws) mid after p.same_crew t.same_crew;
        run = pass_more ws mid after at g r w k (crew_roles (state_of ws) mid p.same_crew) p.run t.run;
      }

  pub passing_bound : (g.changed ≤ at.changed + k) × (g.examined ≤ at.examined + k)
  unfolding run_at
  passing_bound =
      let b = pass-counts (roles_of (state_of ws)) w k (run_at ws at 0) in
      let changed : g.changed ≡ (review_to (roles_of (state_of ws)) w k (run_at ws at 0)).changed = ap (λ (x : Run). x.changed) (p.run 0) in
      let examined : g.examined ≡ (review_to (roles_of (state_of ws)) w k (run_at ws at 0)).examined = ap (λ (x : Run). x.examined) (p.run 0) in
      (rw changed b.0, rw examined b.1)

  pub passing_count : (seniors₀ : List ℕ) → InStep ws index seniors₀ at → get_or mid 2 0 ≡ get_or ws 2 0
  passing_count seniors₀ a = crew-count ws index seniors₀ mid index seniors a.ready p.in_step.ready p.same_crew

-- ---- all passes as the code makes them: mid and g are what the passes before have left, and `left` more may follow

pub begun : (ws : List ℕ) (g : Progress) (w : Weights) → g.quality ≡ quality (roles_of (state_of ws)) w (state_of ws).standing → g.changed ≡ 0 → g.examined ≡ 0
    → run_at ws g 0 ≡ begin (roles_of (state_of ws)) w 0 (state_of ws).standing
unfolding run_at begin
begun ws g w eq ec ee = λ i. record { standing = (state_of ws).standing; worklist = 0; reference = eq i; changed = ec i; examined = ee i }

pub record Running (ws : List ℕ) (index : Index) (w : Weights) (mid seniors : List ℕ) (g : Progress) (left : ℕ) : Type 0 where
  pub in_step : InStep mid index seniors g
  pub same_crew : SameCrewList (state_of ws) mid
  pub rest : reviewed (roles_of (state_of ws)) w (state_of ws).standing ≡ review_passes (roles_of (state_of ws)) w left (run_at mid g 0)
  pub changed : g.changed + 128 * left ≤ 16512
  pub examined : g.examined + 128 * left ≤ 16512

pub running_start : (ws : List ℕ) (index : Index) (seniors : List ℕ) (w : Weights) (g : Progress) (left : ℕ) → InStep ws index seniors g → g.quality ≡ quality (roles_of (state_of ws)) w (state_of ws).standing
    → g.changed ≡ 0 → g.examined ≡ 0 → left ≡ get_or ws 2 0 + 1 → Running ws index w ws seniors g left
unfolding reviewed
running_start ws index seniors w g left in_step eq ec ee el =
    let f = ready_few ws index seniors in_step.ready in
    let n : left ≡ suc (candidate_count (roles_of (state_of ws))) = el ∙ add-one (get_or ws 2 0) ∙ ap suc (sym (roles_count ws index seniors in_step.ready)) in
    record {
      in_step = in_step;
      same_crew = crew_same ws;
      rest = rw (n, begun ws g w eq ec ee) refl;
      changed = omega arith;
      examined = omega arith;
    }

-- what a review leaves
abbrev pub ReviewEnded : (ws : List ℕ) (index : Index) (w : Weights) (after seniors : List ℕ) (r : Progress) → Type 0
ReviewEnded ws index w after seniors r =
    Ready (state_of after) after index seniors × (SameCrewList (state_of ws) after × (run_at after r 0 ≡ reviewed (roles_of (state_of ws)) w (state_of ws).standing))

module _ (ws : List ℕ) (index : Index) (w : Weights) (mid seniors : List ℕ) (g : Progress) (left : ℕ) (p : Running ws index w mid seniors g left) (some : 0 < left)
    (after seniors' : List ℕ) (r : Progress) (t : Stepped (review_to (roles_of (state_of mid)) w (get_or mid 2 0)) mid g after index seniors' r) where
  next_run : run_at after r 0 ≡ review_to (roles_of (state_of ws)) w (candidate_count (roles_of (state_of ws))) (run_at mid g 0)
  next_run = rw (sym (roles_count mid index seniors p.in_step.ready), crew_roles (state_of ws) mid p.same_crew) at (t.run 0)

  one_less : left ≡ suc (left - 1)
  one_less = omega arith

  pub running_last : r.changed ≡ g.changed → ReviewEnded ws index w after seniors' r
  unfolding run_at
  running_last e = (
    t.in_step.ready,
    (
      crew_trans (state_of ws) mid after p.same_crew t.same_crew,
      sym (p.rest ∙ ap (λ (n : ℕ). review_passes (roles_of (state_of ws)) w n (run_at mid g 0)) one_less ∙ passes_last (roles_of (state_of ws)) w (left - 1) (run_at mid g 0) (run_at after r 0) next_run e),
    ),
  )

  pub running_more : (r.changed ≡ g.changed → ⊥) → Running ws index w after seniors' r (left - 1)
  unfolding run_at
  running_more d =
      let b = pass-counts (roles_of (state_of ws)) w (candidate_count (roles_of (state_of ws))) (run_at mid g 0) in
      let few = rw (crew_roles (state_of ws) mid p.same_crew) at p.in_step.ready.limits.candidates_most in
      let changed : r.changed ≤ g.changed + candidate_count (roles_of (state_of ws)) = rw (ap (λ (x : Run). x.changed) next_run) b.0 in
      let examined : r.examined ≤ g.examined + candidate_count (roles_of (state_of ws)) = rw (ap (λ (x : Run). x.examined) next_run) b.1 in
      let pc = p.changed in
      let pe = p.examined in
      record {
        in_step = t.in_step;
        same_crew = crew_trans (state_of ws) mid after p.same_crew t.same_crew;
        rest = p.rest ∙ ap (λ (n : ℕ). review_passes (roles_of (state_of ws)) w n (run_at mid g 0)) one_less ∙ passes_on (roles_of (state_of ws)) w (left - 1) (run_at mid g 0) (run_at after r 0) next_run d;
        changed = omega arith;
        examined = omega arith;
      }

pub running_out : (ws : List ℕ) (index : Index) (w : Weights) (mid seniors : List ℕ) (g : Progress) (left : ℕ) → Running ws index w mid seniors g left → left ≡ 0 → ReviewEnded ws index w mid seniors g
running_out ws index w mid seniors g left p e =
    (p.in_step.ready, (p.same_crew, sym (p.rest ∙ ap (λ (n : ℕ). review_passes (roles_of (state_of ws)) w n (run_at mid g 0)) e ∙ passes_none (roles_of (state_of ws)) w (run_at mid g 0))))
