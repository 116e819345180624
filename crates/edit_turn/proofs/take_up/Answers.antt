-- Three ways: the role is not strikable; it stays; it is struck.
-- Assumes nothing.
use mathlib.Core.Path.{refl}
use Rattle.edit_trials.proofs.Runs.{strike_below, trial_few}
use Rattle.edit_turn.proofs.Turns.{turn_dropped, turn_stayed, turn_struck}
use Rattle.edit_turn.proofs.take_up.Goals as goal

pub returns-then-not-removable : goal.returns-then-not-removable
returns-then-not-removable c = let given = c.requires in
    turn_dropped _ _ _ _ _ _ given.underway _ given.so c.removable.ensures c.if-not-removable.true _ refl c.remove.ensures

pub if_struck-trial-requires : goal.if_struck-trial-requires
if_struck-trial-requires c = let given = c.requires in
    record { ready = given.underway.in_step.ready; exact = given.underway.in_step.exact; so = given.so; k_bound = given.k_bound }

pub weigh-quality-requires : goal.weigh-quality-requires
weigh-quality-requires c = let given = c.requires in
    trial_few _ _ _ given.underway.in_step.ready _ (strike_below _ _ _ given.underway.in_step.ready _) _ c.if_struck-trial.ensures.counts

pub tolerated-requires : goal.tolerated-requires
tolerated-requires c = let given = c.requires in
    record { quality_le_most_quality = c.weigh-quality.ensures.upper_bound; reference_le_most_quality = given.underway.quality_small }

pub returns-then-not-tolerated : goal.returns-then-not-tolerated
returns-then-not-tolerated c = let given = c.requires in
    turn_stayed _ _ _ _ _ _ given.underway _ given.so c.removable.ensures c.if-not-removable.false _ c.if_struck-trial.ensures
    _ c.weigh-quality.ensures.value _ c.tolerated.ensures c.if-not-tolerated.true _ refl refl

pub returns : goal.returns
returns c = let given = c.requires in
    let made = c.take_out_at.ensures _ given.underway.in_step.ready given.so c.if_struck-trial.ensures.neighbours in
    turn_struck _ _ _ _ _ _ given.underway _ given.so c.removable.ensures c.if-not-removable.false _ c.if_struck-trial.ensures
    _ c.weigh-quality.ensures.value _ c.tolerated.ensures c.if-not-tolerated.false c.weigh-quality.ensures.upper_bound _ _ made _ refl c.remove-2.ensures
