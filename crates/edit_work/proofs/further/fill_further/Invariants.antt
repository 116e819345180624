-- The entries before i are filled.
-- Assumes nothing.
use Rattle.edit_work.proofs.Narrowing.{FurtherFilling}
use Rattle.edit_work.proofs.further.fill_further.Given as goal

abbrev pub invariant-loop-i : goal.invariant-loop-i
invariant-loop-i l = FurtherFilling l.count l.initial.work l.work l.i
