-- All passes as the code makes them.
-- Assumes nothing.
use mathlib.Core.Path.{◌≡◌, refl, sym, ◌∙◌, ap}
use mathlib.Core.Logic.{◌≢◌}
use mathlib.Core.List.{List}
use Prim.Native.Nat.{ℕ, suc, ◌+◌, ◌-◌, ◌*◌, ◌≤◌, ◌<◌}
use native.Mathlib.Numerals.{add-one}
use native.Mathlib.Omega.{arith}
use lib.Count.{ones}
use lib.Dec.{ltb}
use lib.ListN.{get_or}
use Rattle.sets.specs.Held.{set_of}
use Rattle.sets.specs.Sets.{collect}
use Rattle.sets.proofs.Truth.{ltb_iff}
use Rattle.sets.proofs.Order.{collect_iff}
use Rattle.model.specs.Coverage.{strikables}
use Rattle.model.specs.Hierarchy.{Roles, candidate_count}
use Rattle.model.specs.Machine.{Run, pass, passes, begin, eliminated}
use Rattle.model.specs.Quality as model
use Rattle.model.specs.Record.{built, state_of, Limits}
use Rattle.model.specs.State.{State, roles_of}
use Rattle.model.proofs.Reading.{strikables_iff, strikable_stands}
use Rattle.model.proofs.Passes.{pass_examined, passes_empty, passes_last, passes_more}
use Rattle.indexes.specs.declared.index.Index.{Index}
use Rattle.indexes.specs.Index.{Indexed, HoldersFor, AllHolders}
use Rattle.indexes.proofs.Sources.{numbered}
use Rattle.hierarchy.specs.Tables.{Numbered}
use Rattle.rows.specs.Linked.{Ready}
use Rattle.rows.proofs.Linking.{reindexed}
use Rattle.quality.specs.declared.weights.Weights.{Weights}
use Rattle.quality.specs.Numbers.{counts_in, weights_in, tolerance_in, most_quality}
use Rattle.edit_trials.specs.Trying.{run_at, Exact, SameCrewList}
use Rattle.edit_trials.proofs.Runs.{roles_count, ready_few, crew_same, crew_trans, crew_roles}
use Rattle.edit_work.specs.declared.work.Work.{Work}
use Rattle.edit_work.specs.Work.{IndexedFor, Prepared}
use Rattle.edit_turn.specs.declared.Terms.{Terms}
use Rattle.edit_turn.specs.declared.Turn.{Turn}
use Rattle.edit_turn.specs.Turning.{most_examined, take_up_by, run_in, Underway, RunReached}
use Rattle.edit_eliminate.specs.Ending.{EliminationEnded}
use Rattle.edit_turn.proofs.Turns.{up_examined}
use Rattle.edit_pass.proofs.Taking.{stand_few}

-- what the code finds of the strikable roles
abbrev pub Found : List ℕ → Index → ℕ → Type 0
Found ws index s = (st : State) → Limits st → ws ≡ built st → Indexed (roles_of st) index → AllHolders (roles_of st) index → s ≡ strikables (roles_of st) st.standing

module _ (ws : List ℕ) (index : Index) (terms : Terms) where
  abbrev ρ : Roles
  ρ = roles_of (state_of ws)

  abbrev start : Run
  start = begin (roles_of (state_of ws)) (weights_in terms.weights) (strikables (roles_of (state_of ws)) (state_of ws).standing) (state_of ws).standing

  abbrev end : Run
  end = eliminated (roles_of (state_of ws)) (weights_in terms.weights) (tolerance_in terms.tolerance) (state_of ws).standing

  -- the run that is held is the last one
  ended : (mid seniors : List ℕ) (turn : Turn) → Underway mid index seniors turn → SameCrewList (state_of ws) mid → end ≡ run_in mid turn → EliminationEnded (state_of ws) mid index seniors turn.progress end
  unfolding run_in run_at
  ended mid seniors turn u same_crew e = record { in_step = u.in_step; same_crew = same_crew; run = rw e refl }

  -- all passes are still to come
  begun : (turn : Turn) → run_in ws turn ≡ start → end ≡ passes ρ (take_up_by ρ terms) (suc (candidate_count ρ)) (run_in ws turn)
  unfolding eliminated take_up_by
  begun turn e = ap (passes ρ (take_up_by ρ terms) (suc (candidate_count ρ))) (sym e)

  -- where no role is strikable, it ends as it begins
  pub ended_at_once : (seniors : List ℕ) (turn : Turn) → RunReached (state_of ws) ws index seniors turn start → set_of turn.worklist ≡ 0
      → EliminationEnded (state_of ws) ws index seniors turn.progress end
  unfolding run_in run_at
  ended_at_once seniors turn from none =
      ended ws seniors turn from.underway from.same_crew (begun turn from.run ∙ passes_empty ρ (take_up_by ρ terms) (candidate_count ρ) (run_in ws turn) none)

  -- ---- the passes: mid, its seniors and the turn are what those before have left, and `left` more may follow

  module _ (work : Work) where
    pub record Running (mid seniors : List ℕ) (turn : Turn) (counted left : ℕ) : Type 0 where
      pub underway : Underway mid index seniors turn
      pub same_crew : SameCrewList (state_of ws) mid
      pub prepared : Prepared (roles_of (state_of mid)) work
      pub counts : counted ≡ strikables (roles_of (state_of mid)) (state_of mid).standing
      pub room : turn.progress.examined + 128 * left ≤ most_examined
      pub rest : end ≡ passes ρ (take_up_by ρ terms) left (run_in mid turn)

    pub running_start : (seniors : List ℕ) (turn : Turn) (left : ℕ) → RunReached (state_of ws) ws index seniors turn start → Prepared (roles_of (state_of ws)) work
        → left ≡ get_or ws 2 0 + 1 → Running ws seniors turn (set_of turn.worklist) left
    unfolding run_in run_at begin
    running_start seniors turn left from prepared el =
        let ready = from.underway.in_step.ready in
        let few = ready_few ws index seniors ready in
        let n : left ≡ suc (candidate_count ρ) = el ∙ add-one (get_or ws 2 0) ∙ ap suc (sym (roles_count ws index seniors ready)) in
        let none : turn.progress.examined ≡ 0 = ap (λ (x : Run). x.examined) from.run in
        record {
          underway = from.underway;
          same_crew = from.same_crew;
          prepared = prepared;
          counts = ap (λ (x : Run). x.worklist) from.run;
          room = omega arith;
          rest = rw n (begun turn from.run);
        }

    module _ (mid seniors : List ℕ) (turn : Turn) (counted left : ℕ) (p : Running mid seniors turn counted left) where
      pub running_out : left ≡ 0 → EliminationEnded (state_of ws) mid index seniors turn.progress end
      unfolding passes
      running_out e =
          ended mid seniors turn p.underway p.same_crew (p.rest ∙ ap (λ (n : ℕ). passes ρ (take_up_by ρ terms) n (run_in mid turn)) e)

      module _ (some : 0 < left) where
        one_more : end ≡ passes ρ (take_up_by ρ terms) (suc (left - 1)) (run_in mid turn)
        one_more = p.rest ∙ ap (λ (n : ℕ). passes ρ (take_up_by ρ terms) n (run_in mid turn)) (let e : left ≡ suc (left - 1) = omega arith in e)

        pub running_empty : set_of turn.worklist ≡ 0 → EliminationEnded (state_of ws) mid index seniors turn.progress end
        unfolding run_in run_at
        running_empty e =
            ended mid seniors turn p.underway p.same_crew (one_more ∙ passes_empty ρ (take_up_by ρ terms) (left - 1) (run_in mid turn) e)

        module _ (listed : set_of turn.worklist ≢ 0) (after seniors' : List ℕ) (r : Turn)
            (done : RunReached (state_of mid) after index seniors' r (pass (roles_of (state_of mid)) (take_up_by (roles_of (state_of mid)) terms) (run_in mid turn))) where
          next_run : run_in after r ≡ pass (roles_of (state_of ws)) (take_up_by (roles_of (state_of ws)) terms) (run_in mid turn)
          next_run = rw (crew_roles (state_of ws) mid p.same_crew) at done.run

          crew_after : SameCrewList (state_of ws) after
          crew_after = crew_trans (state_of ws) mid after p.same_crew done.same_crew

          pub running_last : r.progress.changed ≡ turn.progress.changed → EliminationEnded (state_of ws) after index seniors' r.progress end
          unfolding run_in run_at
          running_last e =
              ended after seniors' r done.underway crew_after
              (one_more ∙ passes_last ρ (take_up_by ρ terms) (left - 1) (run_in mid turn) listed (ap (λ (x : Run). x.changed) (sym next_run) ∙ e) ∙ sym next_run)

          pub running_more : r.progress.changed ≢ turn.progress.changed → Prepared (roles_of (state_of after)) work → (counted' : ℕ) → Found after index counted'
              → Running after seniors' r counted' (left - 1)
          unfolding run_in run_at
          running_more d prepared counted' found =
              let few = stand_few mid index seniors (set_of turn.worklist) p.underway.in_step.ready p.underway.listed in
              let examined : r.progress.examined ≡ turn.progress.examined + ones (set_of turn.worklist) =
              ap (λ (x : Run). x.examined) next_run ∙ pass_examined ρ (take_up_by ρ terms) (up_examined ρ terms) (run_in mid turn) in
              let room = p.room in
              let ready = done.underway.in_step.ready in
              record {
                underway = done.underway;
                same_crew = crew_after;
                prepared = prepared;
                counts = found (state_of after) ready.limits ready.afresh ready.indexed done.underway.holders;
                room = omega arith;
                rest = one_more ∙ passes_more ρ (take_up_by ρ terms) (left - 1) (run_in mid turn) listed (λ e. d (ap (λ (x : Run). x.changed) next_run ∙ e)) ∙ ap (passes ρ (take_up_by ρ terms) (left - 1)) (sym next_run);
              }

-- ---- the start: a record with its index, in which the code then fills the holders of all permissions

module _ (ws : List ℕ) (index : Index) (seniors : List ℕ) (ready : Ready (state_of ws) ws index seniors) where
  pub permissions_few : get_or ws 1 0 ≤ 256
  unfolding state_of
  permissions_few = ready.limits.permissions_most

  pub all_held : (index' : Index) (m s : ℕ) → m ≡ get_or ws 1 0 → s ≡ collect 256 (λ i. ltb i m) → ((st : State) → Limits st → ws ≡ built st → HoldersFor (roles_of st) s index')
      → AllHolders (roles_of (state_of ws)) index'
  unfolding state_of roles_of
  all_held index' m s em es filled p l =
      let most = ready.limits.permissions_most in
      filled (state_of ws) ready.limits ready.afresh p (rw es ((collect_iff 256 (λ i. ltb i m) p).1 (omega arith, (ltb_iff p m).1 (rw em l))))

  module _ (index' : Index) (indexed : Indexed (roles_of (state_of ws)) index') (held : AllHolders (roles_of (state_of ws)) index') where
    pub first_turn : (w : Weights) (turn : Turn) → Exact ws turn.progress.counts
        → turn.progress.quality ≡ model.weigh (weights_in w) (counts_in turn.progress.counts) → turn.progress.quality ≤ most_quality
        → turn.progress.changed ≡ 0 → turn.progress.examined ≡ 0 → Found ws index' (set_of turn.worklist)
        → RunReached (state_of ws) ws index' seniors turn (begin (roles_of (state_of ws)) (weights_in w) (strikables (roles_of (state_of ws)) (state_of ws).standing) (state_of ws).standing)
    unfolding run_in run_at begin model.quality
    first_turn w turn exact eq small ec ee found =
        let ρ = roles_of (state_of ws) in
        let R = (state_of ws).standing in
        let listed = found (state_of ws) ready.limits ready.afresh indexed held in
        let reference = eq ∙ ap (model.weigh (weights_in w)) exact in
        record {
          underway = record {
            in_step = record { ready = reindexed (state_of ws) ws index index' seniors ready indexed; exact = exact };
            holders = held;
            listed = rw listed (λ i h. strikable_stands ρ R i ((strikables_iff ρ R i).0 h).1);
            fewer = omega arith;
            quality_small = small;
          };
          same_crew = crew_same ws;
          run = λ i. record { standing = R; worklist = listed i; reference = reference i; changed = ec i; examined = ee i };
        }

    -- what the order of each pass is computed from
    -- the index is that of as many roles as word 2 says
    pub index_of : IndexedFor (get_or ws 2 0) index'
    index_of = (roles_of (state_of ws), roles_count ws index seniors ready, numbered (state_of ws) ready.limits, indexed)

    pub all_prepared : (work : Work) (m c : ℕ) → m ≡ get_or ws 1 0 → c ≡ get_or ws 2 0
        → ((ρ : Roles) → candidate_count ρ ≡ c → ρ.permissions ≡ m → Numbered ρ → Indexed ρ index' → AllHolders ρ index' → Prepared ρ work)
        → Prepared (roles_of (state_of ws)) work
    unfolding state_of roles_of
    all_prepared work m c em ec told =
        told (roles_of (state_of ws)) (roles_count ws index seniors ready ∙ sym ec) (sym em) (numbered (state_of ws) ready.limits) indexed held
