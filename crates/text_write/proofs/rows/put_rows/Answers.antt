-- The lines of the users below u are written.
-- Assumes nothing.
use Prim.Native.Nat.{suc}
use native.Mathlib.Omega.{arith}
use Rattle.model.specs.Lists.{rows_at}
use Rattle.model.specs.Record.{crew_start}
use Rattle.text_lines.proofs.Lengths.{length-rows_more, length-rows_fewer}
use Rattle.text_write.proofs.Puts.{rows_none, rows_more, rows_put}
use Rattle.text_write.proofs.rows.put_rows.Goals as goal

pub loop-u-init : goal.loop-u-init
loop-u-init c = rows_none _ _ _ _

pub put_row-at-requires : goal.put_row-at-requires
put_row-at-requires c = let a = c.args in
    let u = c.loop-u.u in
    let rows = rows_at a.n a.rec.now crew_start in
    record { u_bound = omega arith; m_bound = omega arith; m_in_bounds = omega (arith, length-rows_more a.m rows u, length-rows_fewer a.m rows (suc u) a.n (omega arith)) }

pub loop-u-preserved : goal.loop-u-preserved
loop-u-preserved c = rows_more _ _ _ _ _ _ _ _ _ _ (omega arith) c.loop-u.invariant (c.put_row-at.ensures.value, c.put_row-at.ensures.out_after)

pub returns : goal.returns
returns c =
    let made = rows_put _ _ _ _ _ _ _ _ (omega arith) c.loop-u.invariant in
    record { value = made.0; out_after = made.1 }
