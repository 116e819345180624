-- The lines of the users below u are written.
-- Assumes nothing.
use Rattle.model.specs.Lists.{rows_at}
use Rattle.model.specs.Record.{crew_start}
use Rattle.text.proofs.Puts.{Put}
use Rattle.text_lines.specs.Format.{row_lines}
use Rattle.text_write.proofs.rows.put_rows.Given as goal

abbrev pub invariant-loop-u : goal.invariant-loop-u
invariant-loop-u l = Put l.initial.out l.start (row_lines l.m (rows_at l.n l.rec crew_start) l.u) l.out l.at
