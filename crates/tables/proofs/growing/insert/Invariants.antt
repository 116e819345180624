-- The words that go to places from i on have been moved.
-- Assumes nothing.
use Rattle.tables.proofs.Moving.{Moved}
use Rattle.tables.proofs.growing.insert.Given as goal

abbrev pub invariant-loop-i : goal.invariant-loop-i
invariant-loop-i l = Moved l.initial.table l.n l.at l.table l.i
