-- A pass as the code makes it: the roles of a worklist taken up one after the other.
-- Assumes nothing.
use mathlib.Core.Path.{◌≡◌, refl, sym, ◌∙◌, ap}
use mathlib.Core.Bool.{So}
use mathlib.Core.List.{List}
use Prim.Native.Nat.{ℕ, suc, ◌+◌, ◌^◌, ◌≤◌, ◌<◌}
use native.Mathlib.Nat.{le_trans}
use native.Mathlib.Omega.{arith}
use lib.Count.{ones, ones-le}
use lib.ListN.{get_or}
use Rattle.sets.specs.Held.{set_of}
use Rattle.sets.specs.Sets.{has, ◌∖◌, single}
use Rattle.sets.proofs.Truth.{not-So}
use Rattle.sets.proofs.Members.{below_of_items, item_below}
use Rattle.sets.proofs.Order.{∖-iff, single_iff}
use Rattle.sets.proofs.Counts.{ones_without, ones-zero}
use Rattle.model.specs.Coverage.{strikables}
use Rattle.model.specs.Hierarchy.{Roles, candidate_count}
use Rattle.model.specs.Machine.{Run, take_up_all, pass, foremost, redundancy}
use Rattle.model.specs.Record.{state_of, Limits}
use Rattle.model.specs.State.{State, roles_of}
use Rattle.rows.specs.Linked.{Ready}
use Rattle.edit_trials.specs.Trying.{run_at, SameCrewList}
use Rattle.edit_trials.proofs.Runs.{roles_count, ready_few, crew_same, crew_trans, crew_roles}
use Rattle.edit_order.specs.Ranking.{Keyed, NextRole}
use Rattle.edit_work.specs.declared.work.Work.{Work}
use Rattle.edit_work.specs.Work.{Prepared, PreparedFor}
use Rattle.edit_turn.specs.declared.Terms.{Terms}
use Rattle.edit_turn.specs.declared.Turn.{Turn}
use Rattle.edit_turn.specs.Turning.{most_examined, take_up_by, run_in, Stand, Underway, RunReached}
use Rattle.edit_turn.proofs.Turns.{up_examined, up_standing}
use Rattle.indexes.specs.declared.index.Index.{Index}

-- ---- what stands is below c, and at most 128 roles

module _ (ws : List ℕ) (index : Index) (seniors : List ℕ) (s : ℕ) (ready : Ready (state_of ws) ws index seniors) (inv : Stand s (state_of ws).standing) where
  pub stand_below : s < 2 ^ candidate_count (roles_of (state_of ws))
  stand_below =
      let c = candidate_count (roles_of (state_of ws)) in
      below_of_items c s
      (λ i l. not-So (has s i) (λ h. let x = item_below c (state_of ws).standing i ready.limits.standing_below (inv i h) in let z : ⊥ = omega arith in z))

  pub stand_few : ones s ≤ 128
  stand_few = le_trans (ones-le (candidate_count (roles_of (state_of ws))) s stand_below) ready.limits.candidates_most

-- ---- the ranks of a pass over the roles s

-- they have these roles by their redundancies in the record, as a pass orders its worklist
abbrev pub ByRedundancy : List ℕ → List ℕ → ℕ → Type 0
ByRedundancy ws ranks s =
    Keyed (candidate_count (roles_of (state_of ws))) ranks s
    (redundancy (roles_of (state_of ws)) (strikables (roles_of (state_of ws)) (state_of ws).standing))

module _ (ws : List ℕ) (index : Index) (seniors : List ℕ) (work : Work) (turn : Turn) (c s : ℕ) (u : Underway ws index seniors turn)
    (prepared : Prepared (roles_of (state_of ws)) work) (stand : Stand s (state_of ws).standing) (e : c ≡ get_or ws 2 0) where
  pub count : candidate_count (roles_of (state_of ws)) ≡ c
  count = roles_count ws index seniors u.in_step.ready ∙ sym e

  pub ranks_asked : PreparedFor c work × (s < 2 ^ c)
  ranks_asked = ((roles_of (state_of ws), count, prepared), rw count at (stand_below ws index seniors s u.in_step.ready stand))

  pub ranks_filled : (ranks : List ℕ) (counted : ℕ) → counted ≡ strikables (roles_of (state_of ws)) (state_of ws).standing
      → ((st : State) → Limits st → candidate_count (roles_of st) ≡ c → Prepared (roles_of st) work → Keyed c ranks s (redundancy (roles_of st) counted))
      → ByRedundancy ws ranks s
  ranks_filled ranks counted ec filled = rw (count, sym ec) (filled (state_of ws) u.in_step.ready.limits count prepared)

-- ---- the walk: `todo` is not yet taken up; mid, its seniors and the turn are what the roles before have left

module _ (ws : List ℕ) (index : Index) (ranks : List ℕ) (terms : Terms) (at : Turn) where
  abbrev ρ : Roles
  ρ = roles_of (state_of ws)

  abbrev key : ℕ → ℕ
  key = redundancy (roles_of (state_of ws)) (strikables (roles_of (state_of ws)) (state_of ws).standing)

  pub record Taking (mid seniors : List ℕ) (turn : Turn) (todo top : ℕ) : Type 0 where
    pub underway : Underway mid index seniors turn
    pub same_crew : SameCrewList (state_of ws) mid
    pub standing : Stand todo (state_of mid).standing
    pub keyed : Keyed top ranks todo key
    pub small : top ≤ 128
    pub examined : turn.progress.examined + ones todo ≡ at.progress.examined + ones (set_of at.worklist)
    pub run : pass ρ (take_up_by ρ terms) (run_in ws at) ≡ take_up_all ρ (take_up_by ρ terms) key (ones todo) todo (run_in mid turn)

  pub taking_start : (seniors : List ℕ) (top : ℕ) → top ≡ get_or ws 2 0 → Underway ws index seniors at → ByRedundancy ws ranks (set_of at.worklist)
      → Taking ws seniors at (set_of at.worklist) top
  unfolding pass run_in run_at
  taking_start seniors top e u ordered =
      let ready = u.in_step.ready in
      record {
        underway = u;
        same_crew = crew_same ws;
        standing = u.listed;
        keyed = rw (e ∙ sym (roles_count ws index seniors ready)) ordered;
        small = rw e (ready_few ws index seniors ready);
        examined = refl;
        run = refl;
      }

  module _ (mid seniors : List ℕ) (turn : Turn) (todo top : ℕ) (p : Taking mid seniors turn todo top) where
    -- there is room for one more
    pub taking_bound : (before : List ℕ) (k : ℕ) → So (has todo k) → Underway ws index before at → at.progress.examined + 128 ≤ most_examined
        → turn.progress.examined < most_examined
    taking_bound before k here u room =
        let a = ones_without todo k here in
        let b = stand_few ws index before (set_of at.worklist) u.in_step.ready u.listed in
        let e = p.examined in
        omega arith

    module _ (k top' : ℕ) (next : NextRole ranks todo top k top') (after seniors' : List ℕ) (r : Turn) (todo' : ℕ)
        (done : RunReached (state_of mid) after index seniors' r (take_up_by (roles_of (state_of mid)) terms k (run_in mid turn)))
        (et : todo' ≡ todo ∖ single k) where
      run_next : run_in after r ≡ take_up_by (roles_of (state_of ws)) terms k (run_in mid turn)
      run_next = rw (crew_roles (state_of ws) mid p.same_crew) at done.run

      fewer : suc (ones todo') ≡ ones todo
      fewer = rw et (ones_without todo k next.there)

      still : (i : ℕ) → So (has todo' i) → So (has todo i)
      still i h = ((∖-iff todo (single k) i).0 (rw et at h)).0

      first : k ≡ foremost (candidate_count (roles_of (state_of ws))) key todo
      first =
          next.first (candidate_count ρ) key
          (rw (ap candidate_count (crew_roles (state_of ws) mid p.same_crew)) at (stand_below mid index seniors todo p.underway.in_step.ready p.standing))
          p.keyed

      all_next : take_up_all ρ (take_up_by ρ terms) key (ones todo) todo (run_in mid turn) ≡ take_up_all ρ (take_up_by ρ terms) key (ones todo') todo' (run_in after r)
      unfolding take_up_all
      all_next =
          let go = take_up_all ρ (take_up_by ρ terms) key in
          ap (λ (n : ℕ). go n todo (run_in mid turn)) (sym fewer)
          ∙ ap (λ (j : ℕ). go (ones todo') (todo ∖ single j) (take_up_by ρ terms j (run_in mid turn))) (sym first)
          ∙ (λ i. go (ones todo') (sym et i) (sym run_next i))

      pub taking_more : Taking after seniors' r todo' top'
      unfolding run_in run_at
      taking_more =
          let now-standing : (state_of after).standing ≡ (take_up_by ρ terms k (run_in mid turn)).standing = ap (λ (x : Run). x.standing) run_next in
          let examined : r.progress.examined ≡ suc turn.progress.examined = ap (λ (x : Run). x.examined) run_next ∙ up_examined ρ terms k (run_in mid turn) in
          let e = p.examined in
          let f = fewer in
          record {
            underway = done.underway;
            same_crew = crew_trans (state_of ws) mid after p.same_crew done.same_crew;
            standing = λ i h.
                let a = (∖-iff todo (single k) i).0 (rw et at h) in
                rw now-standing (up_standing ρ terms k (run_in mid turn) i (p.standing i a.0) (λ e. a.1 ((single_iff k i).1 (sym e))));
            keyed = λ i h. next.keyed key p.keyed i (still i h);
            small = le_trans next.low p.small;
            examined = omega arith;
            run = p.run ∙ all_next;
          }

    pub taking_all : todo ≡ 0
        → RunReached (state_of ws) mid index seniors turn (pass (roles_of (state_of ws)) (take_up_by (roles_of (state_of ws)) terms) (run_in ws at))
    unfolding take_up_all
    taking_all e =
        let none : ones todo ≡ 0 = ap ones e ∙ ones-zero in
        let run = p.run ∙ ap (λ (n : ℕ). take_up_all ρ (take_up_by ρ terms) key n todo (run_in mid turn)) none in
        record { underway = p.underway; same_crew = p.same_crew; run = sym run }

    -- the roles are the same, and so is what their redundancies are computed from
    pub taken_prepared : (work : Work) → Prepared (roles_of (state_of ws)) work → Prepared (roles_of (state_of mid)) work
    taken_prepared work prepared = rw (crew_roles (state_of ws) mid p.same_crew) prepared
