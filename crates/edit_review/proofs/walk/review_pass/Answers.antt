-- The candidates below k have been taken up.
-- Assumes nothing.
use mathlib.Core.Path.{◌≡◌}
use native.Mathlib.Omega.{arith}
use lib.ListN.{get_or}
use Rattle.edit_trials.proofs.Runs.{ready_few}
use Rattle.edit_review.proofs.Turns.{passing_start, passing_more, passing_bound, passing_count}
use Rattle.edit_review.proofs.walk.review_pass.Goals as goal

pub loop-k-init : goal.loop-k-init
loop-k-init c = passing_start _ _ _ _ _ c.requires.in_step

pub try_restore-run-requires : goal.try_restore-run-requires
try_restore-run-requires c = let given = c.requires in
    let inv = c.loop-k.invariant in
    let b = passing_bound _ _ _ _ _ _ _ _ inv in
    let n = passing_count _ _ _ _ _ _ _ _ inv _ given.in_step in
    let few = ready_few _ _ _ given.in_step.ready in
    let room = given.changed_le_pass_room in
    let x = b.0 in
    let y = b.1 in
    let u = room.0 in
    let v = room.1 in
    record { in_step = inv.in_step; k_bound = omega arith; changed_le_turn_room = (omega arith, omega arith) }

pub loop-k-preserved : goal.loop-k-preserved
loop-k-preserved c = passing_more _ _ _ _ _ _ _ _ c.loop-k.invariant _ _ _ c.try_restore-run.ensures

pub returns : goal.returns
returns c = let e : c.loop-k.k ≡ get_or c.args.rec.now 2 0 = omega arith in
    rw e at c.loop-k.invariant
