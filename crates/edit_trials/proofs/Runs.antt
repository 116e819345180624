-- A record in a run: its own state, the quality that its counts give, and a change that is weighed before it is written.
-- Assumes nothing.
use mathlib.Core.Path.{◌≡◌, refl, sym, ◌∙◌, ap, subst}
use mathlib.Core.Bool.{Bool}
use mathlib.Core.List.{List}
use Prim.Native.Nat.{ℕ, ◌^◌, ◌≤◌, ◌<◌}
use native.Mathlib.Nat.{lt_of_lt_of_le}
use lib.ListN.{get_or}
use Rattle.sets.specs.Sets.{has, ◌∪◌, ◌∖◌, single}
use Rattle.sets.proofs.Order.{single_lt, ∪-lt, ∖-lt}
use Rattle.model.specs.Lists.{set_at}
use Rattle.model.specs.Hierarchy.{candidate_count}
use Rattle.model.specs.Quality as model
use Rattle.model.specs.Record.{built, state_of}
use Rattle.model.specs.State.{State, roles_of, standing_now}
use Rattle.model.proofs.Record.{state_back}
use Rattle.model.proofs.Steps.{roles_now, standing_now_lem, limits_now, now_now, now_same}
use Rattle.rows.specs.Linked.{Ready}
use Rattle.edit_rows.proofs.Changing.{count, few, standing_read}
use Rattle.quality.specs.declared.counts.Counts.{Counts}
use Rattle.quality.specs.Numbers.{counts_in, Few, weights_in}
use Rattle.edit_trials.specs.declared.progress.Progress.{Progress}
use Rattle.quality.specs.declared.weights.Weights.{Weights}
use Rattle.edit_trials.specs.Trying.{Exact, SameCrewList, InStep}
use Rattle.edit_trials.proofs.Counting.{exact_few}
use Rattle.indexes.specs.declared.index.Index.{Index}

-- ---- a record that is ready, for whatever state, is so for its own

pub ready_state : (st : State) (ws : List ℕ) (index : Index) (seniors : List ℕ) → Ready st ws index seniors → state_of ws ≡ st
ready_state st ws index seniors ready = ap state_of ready.afresh ∙ state_back st ready.limits

pub ready_own : (st : State) (ws : List ℕ) (index : Index) (seniors : List ℕ) → Ready st ws index seniors → Ready (state_of ws) ws index seniors
ready_own st ws index seniors ready = subst (λ (x : State). Ready x ws index seniors) (sym (ready_state st ws index seniors ready)) ready

module _ (ws : List ℕ) (index : Index) (seniors : List ℕ) (ready : Ready (state_of ws) ws index seniors) where
  pub roles_count : candidate_count (roles_of (state_of ws)) ≡ get_or ws 2 0
  roles_count = count (state_of ws) ready.limits ws ready.afresh

  -- word 2 is small enough to count by
  pub ready_few : get_or ws 2 0 ≤ 128
  ready_few = few (state_of ws) ready.limits ws ready.afresh

  -- a number below word 2 is a candidate's, and below 128
  pub number_known : (k : ℕ) → k < get_or ws 2 0 → (k < candidate_count (roles_of (state_of ws))) × (k < 128)
  number_known k l = (rw roles_count l, lt_of_lt_of_le l ready_few)

  -- the record tells which roles stand
  pub stands_read : (R k : ℕ) (t : Bool) → R ≡ set_at 2 ws 4 → t ≡ has R k → t ≡ has (state_of ws).standing k
  stands_read R k t e et = et ∙ ap (λ (x : ℕ). has x k) (e ∙ standing_read (state_of ws) ready.limits ws ready.afresh)

  pub strike_below : (k : ℕ) → (state_of ws).standing ∖ single k < 2 ^ candidate_count (roles_of (state_of ws))
  strike_below k = ∖-lt (candidate_count (roles_of (state_of ws))) (state_of ws).standing (single k) ready.limits.standing_below

  pub restore_below : (k : ℕ) → k < candidate_count (roles_of (state_of ws)) → (state_of ws).standing ∪ single k < 2 ^ candidate_count (roles_of (state_of ws))
  restore_below k lk = let c = candidate_count (roles_of (state_of ws)) in ∪-lt c (state_of ws).standing (single k) ready.limits.standing_below (single_lt c k lk)

  -- exact counts can be weighed
  pub ready_weighed : (q : Counts) → Exact ws q → Few q
  ready_weighed q e = exact_few (state_of ws) ready.limits q e

-- and give the quality of the record's standing set
pub weighed : (ws : List ℕ) (q : Counts) (w : Weights) (x : ℕ) → Exact ws q
    → x ≡ model.weigh (weights_in w) (counts_in q) → x ≡ model.quality (roles_of (state_of ws)) (weights_in w) (state_of ws).standing
unfolding model.quality
weighed ws q w x e ex = ex ∙ rw e refl

-- ---- same-crew

pub crew_same : (ws : List ℕ) → SameCrewList (state_of ws) ws
crew_same ws = sym (now_same (state_of ws))

pub crew_now : (ws after : List ℕ) (S : ℕ) → state_of after ≡ standing_now (state_of ws) S → SameCrewList (state_of ws) after
crew_now ws after S e = e ∙ ap (standing_now (state_of ws)) (sym (standing_now_lem (state_of ws) S) ∙ ap (λ (st : State). st.standing) (sym e))

pub crew_trans : (st : State) (ws after : List ℕ) → SameCrewList st ws → SameCrewList (state_of ws) after → SameCrewList st after
crew_trans st ws after a b =
    b ∙ ap (λ (x : State). standing_now x (state_of after).standing) a ∙ now_now st (state_of ws).standing (state_of after).standing

pub crew_roles : (st : State) (ws : List ℕ) → SameCrewList st ws → roles_of (state_of ws) ≡ roles_of st
crew_roles st ws a = ap roles_of a ∙ roles_now st (state_of ws).standing

-- and the record is built afresh from it
pub crew-built : (st : State) (ws : List ℕ) (index : Index) (seniors : List ℕ) → Ready (state_of ws) ws index seniors → SameCrewList st ws → ws ≡ built (standing_now st (state_of ws).standing)
crew-built st ws index seniors ready k = ready.afresh ∙ ap built k

-- the number of roles in word 2 stays
pub crew-count : (ws : List ℕ) (index : Index) (seniors after : List ℕ) (index' : Index) (seniors' : List ℕ) → Ready (state_of ws) ws index seniors → Ready (state_of after) after index' seniors' → SameCrewList (state_of ws) after
    → get_or after 2 0 ≡ get_or ws 2 0
crew-count ws index seniors after index' seniors' a b k =
    sym (roles_count after index' seniors' b) ∙ rw (crew_roles (state_of ws) after k) (roles_count ws index seniors a)

-- the progress goes on with the record and the seniors as they were
pub step_back : (ws : List ℕ) (index : Index) (seniors after seniors' : List ℕ) (g r : Progress) → InStep ws index seniors g → after ≡ ws → seniors' ≡ seniors → r.counts ≡ g.counts
    → InStep after index seniors' r
step_back ws index seniors after seniors' g r a e es ec = record { ready = rw (e, es) a.ready; exact = rw (e, ec) a.exact }

-- ---- a change that is weighed before it is written

module _ (ws : List ℕ) (index : Index) (seniors : List ℕ) (ready : Ready (state_of ws) ws index seniors) (S : ℕ) (below : S < 2 ^ candidate_count (roles_of (state_of ws))) (q : Counts)
    (e : counts_in q ≡ model.counts (roles_of (state_of ws)) S) where
  pub trial_few : Few q
  trial_few = exact_few (standing_now (state_of ws) S) (limits_now (state_of ws) S ready.limits below) q (rw (roles_now (state_of ws) S, standing_now_lem (state_of ws) S) e)

  pub trial_weighed : (w : Weights) (x : ℕ) → x ≡ model.weigh (weights_in w) (counts_in q)
      → x ≡ model.quality (roles_of (state_of ws)) (weights_in w) S
  unfolding model.quality
  trial_weighed w x ex = ex ∙ rw e refl

  -- written, it is what was weighed
  module _ (after seniors' : List ℕ) (made : Ready (standing_now (state_of ws) S) after index seniors') where
    pub trial_state : state_of after ≡ standing_now (state_of ws) S
    trial_state = ready_state (standing_now (state_of ws) S) after index seniors' made

    pub trial_in_step : (r : Progress) → r.counts ≡ q → InStep after index seniors' r
    trial_in_step r er =
        record {
          ready = ready_own (standing_now (state_of ws) S) after index seniors' made;
          exact = ap counts_in er ∙ rw (trial_state, roles_now (state_of ws) S, standing_now_lem (state_of ws) S) e;
        }
