-- As many more passes may follow as c + 1 leaves.
-- Assumes nothing.
use mathlib.Core.Path.{◌≡◌, sym, ◌∙◌}
use Prim.Native.Nat.{◌+◌, ◌-◌}
use mathlib.Core.Logic.{◌≢◌}
use native.Mathlib.Omega.{arith}
use lib.ListN.{get_or}
use Rattle.sets.specs.Held.{set_of}
use Rattle.sets.proofs.Truth.{So-not, eqb_iff}
use Rattle.edit_trials.proofs.Runs.{ready_few}
use Rattle.edit_eliminate.proofs.Running.{running_start, running_empty, running_last, running_more, running_out}
use Rattle.edit_eliminate.proofs.all.run_passes.Goals as goal
use Rattle.edit_eliminate.proofs.all.run_passes.Goals.{Else-is_empty}

-- a pass has roles to take up
listed : (c : Else-is_empty) → set_of c.loop-pass.run.worklist ≢ 0
listed c e = So-not c.if-is_empty.false (c.is_empty.ensures ∙ (eqb_iff _ _).1 e)

pub overflow_add-pass-end : goal.overflow_add-pass-end
overflow_add-pass-end c = let few = ready_few _ _ _ c.requires.run_reached.underway.in_step.ready in omega arith

pub loop-pass-init : goal.loop-pass-init
loop-pass-init c = let given = c.requires in
    running_start _ _ _ _ _ _ _ given.run_reached given.prepared (omega arith)

pub returns-then-is_empty : goal.returns-then-is_empty
returns-then-is_empty c = running_empty _ _ _ _ _ _ _ _ _ c.loop-pass.invariant (omega arith) ((eqb_iff _ _).0 (sym c.is_empty.ensures ∙ c.if-is_empty.true))

pub pass-next-requires : goal.pass-next-requires
pass-next-requires c = let inv = c.loop-pass.invariant in
    let room = inv.room in
    record { underway = inv.underway; prepared = inv.prepared; counted_value = inv.counts; examined_bound = omega arith }

pub returns-then-next-run : goal.returns-then-next-run
returns-then-next-run c = running_last _ _ _ _ _ _ _ _ _ c.loop-pass.invariant (omega arith) (listed (goal.at.returns-then-next-run c).Else-is_empty) _ _ _ c.pass-next.ensures.run_reached c.if-next-run.true

pub loop-pass-preserved : goal.loop-pass-preserved
loop-pass-preserved c = let next : get_or c.args.rec.now 2 0 + 1 - c.loop-pass._pass - 1 ≡ get_or c.args.rec.now 2 0 + 1 - (c.loop-pass._pass + 1) = omega arith in
    rw next at
    (running_more _ _ _ _ _ _ _ _ _ c.loop-pass.invariant (omega arith) (listed (goal.at.loop-pass-preserved c).Else-is_empty) _ _ _ c.pass-next.ensures.run_reached
    c.if-next-run.false c.pass-next.ensures.prepared_2 _ c.strikable_roles-counted.ensures)

pub returns : goal.returns
returns c = running_out _ _ _ _ _ _ _ _ _ c.loop-pass.invariant (omega arith)
