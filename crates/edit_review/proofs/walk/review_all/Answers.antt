-- As many more passes may follow as c + 1 leaves.
-- Assumes nothing.
use mathlib.Core.Path.{◌≡◌}
use Prim.Native.Nat.{◌+◌, ◌-◌}
use native.Mathlib.Omega.{arith}
use lib.ListN.{get_or}
use Rattle.edit_trials.proofs.Runs.{ready_few, ready_weighed, weighed}
use Rattle.edit_review.proofs.Turns.{running_start, running_last, running_more, running_out}
use Rattle.edit_review.proofs.walk.review_all.Goals as goal

pub overflow_add-pass-end : goal.overflow_add-pass-end
overflow_add-pass-end c = let few = ready_few _ _ _ c.requires.ready in omega arith

pub begin-run-requires : goal.begin-run-requires
begin-run-requires c = let given = c.requires in
    ready_weighed _ _ _ given.ready _ given.exact

pub loop-pass-init : goal.loop-pass-init
loop-pass-init c = let given = c.requires in
    let begun = c.begin-run.ensures in
    running_start _ _ _ _ _ _ (record { ready = given.ready; exact = rw begun.counts given.exact }) (weighed _ _ _ _ given.exact begun.quality) begun.changed begun.examined (omega arith)

pub review_pass-next-requires : goal.review_pass-next-requires
review_pass-next-requires c = let given = c.requires in
    let inv = c.loop-pass.invariant in
    let x = inv.changed in
    let y = inv.examined in
    record { in_step = inv.in_step; changed_le_pass_room = (omega arith, omega arith) }

pub returns-then-next-run : goal.returns-then-next-run
returns-then-next-run c =
    let made = running_last _ _ _ _ _ _ _ c.loop-pass.invariant (omega arith) _ _ _ c.review_pass-next.ensures c.if-next-run.true in
    record { ready_2 = made.0; same_crew_list = made.1.0; result_after = made.1.1 }

pub loop-pass-preserved : goal.loop-pass-preserved
loop-pass-preserved c = let next : get_or c.args.rec.now 2 0 + 1 - c.loop-pass._pass - 1 ≡ get_or c.args.rec.now 2 0 + 1 - (c.loop-pass._pass + 1) = omega arith in
    rw next at (running_more _ _ _ _ _ _ _ c.loop-pass.invariant (omega arith) _ _ _ c.review_pass-next.ensures c.if-next-run.false)

pub returns : goal.returns
returns c =
    let made = running_out _ _ _ _ _ _ _ c.loop-pass.invariant (omega arith) in
    record { ready_2 = made.0; same_crew_list = made.1.0; result_after = made.1.1 }
