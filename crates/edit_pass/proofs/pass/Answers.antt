-- The roles are ranked by the redundancies at the start, and those that are not in `todo` are taken up.
-- Assumes nothing.
use mathlib.Core.Path.{refl}
use Rattle.sets.specs.Held.{set_of}
use Rattle.hierarchy.proofs.Sieving.{fewer}
use Rattle.edit_order.specs.Ranking.{sets_of}
use Rattle.edit_pass.proofs.Taking.{Taking, ranks_asked, ranks_filled, taking_start, taking_bound, taking_more, taking_all, taken_prepared}
use Rattle.edit_pass.proofs.pass.Goals as goal
use Rattle.edit_pass.proofs.pass.Goals.{After-remove-todo}

pub fill_ranks-requires : goal.fill_ranks-requires
fill_ranks-requires c =
    let given = c.requires in
    let made = ranks_asked _ _ _ _ _ _ _ given.underway given.prepared given.underway.listed refl in
    record { prepared_for = made.0; worklist_bound = made.1 }

fewer-left : (c : After-remove-todo)
    → Taking c.args.rec.now c.args.index.now (sets_of c.fill_ranks.new.ranks) c.args.terms c.args.turn c.take_up-run.new.rec c.take_up-run.new.seniors
    c.take_up-run.result (set_of c.remove-todo.result) c.in-Some.front.rank
fewer-left c = taking_more _ _ _ _ _ _ _ _ _ _ c.loop-front.invariant _ _ c.in-Some.ensures _ _ _ _ c.take_up-run.ensures c.remove-todo.ensures

pub loop-front-init : goal.loop-front-init
loop-front-init c =
    let given = c.requires in
    taking_start _ _ _ _ _ _ _ refl given.underway
    (ranks_filled _ _ _ _ _ _ _ given.underway given.prepared given.underway.listed refl _ _ given.counted_value c.fill_ranks.ensures)

pub foremost-requires : goal.foremost-requires
foremost-requires c = c.loop-front.invariant.small

pub take_up-run-requires : goal.take_up-run-requires
take_up-run-requires c = let given = c.requires in
    let inv = c.loop-front.invariant in
    let next = c.in-Some.ensures in
    record { underway = inv.underway; so = inv.standing _ next.there; k_bound = next.small; examined_lt_most_examined = taking_bound _ _ _ _ _ _ _ _ _ _ inv _ _ next.there given.underway given.examined_bound }

pub loop-front-smaller : goal.loop-front-smaller
loop-front-smaller c = rw c.remove-todo.ensures (fewer _ _ c.in-Some.ensures.there)

pub loop-front-preserved : goal.loop-front-preserved
loop-front-preserved c = fewer-left (goal.at.loop-front-preserved c).After-remove-todo

pub returns : goal.returns
returns c = record {
  run_reached = taking_all _ _ _ _ _ _ _ _ _ _ c.loop-front.invariant c.in_default.ensures;
  prepared_2 = taken_prepared _ _ _ _ _ _ _ _ _ _ c.loop-front.invariant _ c.requires.prepared;
}
