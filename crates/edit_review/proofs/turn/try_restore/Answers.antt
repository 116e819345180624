-- Three ways: the candidate stands; its return is kept; nothing is written.
-- Assumes nothing.
use mathlib.Core.Path.{◌≡◌, refl, sym, ◌∙◌}
use mathlib.Core.List.{List}
use Prim.Native.Nat.{ℕ}
use Rattle.sets.specs.Sets.{◌∪◌, single}
use Rattle.model.specs.Quality.{quality}
use Rattle.model.specs.Record.{state_of}
use Rattle.model.specs.State.{roles_of}
use Rattle.quality.specs.Numbers.{weights_in}
use Rattle.edit_trials.specs.Trying.{Restorable}
use Rattle.edit_trials.proofs.Runs.{stands_read, crew_same, crew_now, step_back, number_known, restore_below, trial_few, trial_weighed, trial_state, trial_in_step}
use Rattle.edit_review.proofs.Turns.{turn_stands, turn_restored, turn_kept}
use Rattle.edit_review.proofs.turn.try_restore.Goals as goal
use Rattle.edit_review.proofs.turn.try_restore.Goals.{After-weigh-quality, Else-contains}

-- the record where the candidate is taken up
abbrev record_of : Else-contains → List ℕ
record_of c = c.args.rec.now

-- an absent candidate
restorable : (c : Else-contains) → Restorable (state_of (record_of c)) (record_of c) c.args.index.now c.args.k
restorable c =
    let given = c.requires in
    let ready = given.in_step.ready in
    record {
      limits = ready.limits;
      afresh = ready.afresh;
      indexed = ready.indexed;
      candidate = (number_known _ _ _ ready _ given.k_bound).0;
      absent = sym (stands_read _ _ _ ready _ _ _ c.load.ensures c.contains.ensures) ∙ c.if-contains.false;
    }

-- the quality with it, weighed
abbrev weighed-with : After-weigh-quality → Type 0
weighed-with c =
    c.weigh-quality.result ≡ quality (roles_of (state_of (record_of (goal.at.After-weigh-quality c).Else-contains))) (weights_in c.args.w) ((state_of (record_of (goal.at.After-weigh-quality c).Else-contains)).standing ∪ single c.args.k)

weighed : (c : After-weigh-quality) → weighed-with c
weighed c =
    let ready = c.requires.in_step.ready in
    trial_weighed _ _ _ ready _ (restore_below _ _ _ ready _ (restorable (goal.at.After-weigh-quality c).Else-contains).candidate) _ c.if_restored-trial.ensures.counts
    _ _ c.weigh-quality.ensures.value

pub returns-then-contains : goal.returns-then-contains
returns-then-contains c = let given = c.requires in
    record {
      in_step = given.in_step;
      same_crew = crew_same _;
      run = turn_stands _ _ _ _ (sym (stands_read _ _ _ given.in_step.ready _ _ _ c.load.ensures c.contains.ensures) ∙ c.if-contains.true);
    }

pub if_restored-trial-requires : goal.if_restored-trial-requires
if_restored-trial-requires c = let given = c.requires in
    record { restorable = restorable (goal.at.if_restored-trial-requires c).Else-contains; exact = given.in_step.exact; k_bound = (number_known _ _ _ given.in_step.ready _ given.k_bound).1 }

pub weigh-quality-requires : goal.weigh-quality-requires
weigh-quality-requires c = let given = c.requires in
    let ready = given.in_step.ready in
    trial_few _ _ _ ready _ (restore_below _ _ _ ready _ (restorable (goal.at.weigh-quality-requires c).Else-contains).candidate) _ c.if_restored-trial.ensures.counts

pub put_back_at-requires : goal.put_back_at-requires
put_back_at-requires c = let given = c.requires in
    record { k_bound = (number_known _ _ _ given.in_step.ready _ given.k_bound).1 }

pub returns-then-quality-at : goal.returns-then-quality-at
returns-then-quality-at c = let able = restorable (goal.at.returns-then-quality-at c).Else-contains in
    let ready = c.requires.in_step.ready in
    let below = restore_below _ _ _ ready _ able.candidate in
    let trial = c.if_restored-trial.ensures in
    let made = c.put_back_at.ensures _ ready able.candidate able.absent trial.neighbours in
    let now = trial_state _ _ _ ready _ below _ trial.counts _ _ made in
    record {
      in_step = trial_in_step _ _ _ ready _ below _ trial.counts _ _ made _ refl;
      same_crew = crew_now _ _ _ now;
      run = turn_restored _ _ _ _ able.absent _ (weighed (goal.at.returns-then-quality-at c).After-weigh-quality) c.if-quality-at.true _ _ now refl refl refl;
    }

pub returns : goal.returns
returns c = record {
  in_step = step_back _ _ _ _ _ _ _ c.requires.in_step refl refl refl;
  same_crew = crew_same _;
  run = turn_kept _ _ _ _ (restorable (goal.at.returns c).Else-contains).absent _ (weighed (goal.at.returns c).After-weigh-quality) c.if-quality-at.false _ _ refl refl refl refl;
}
