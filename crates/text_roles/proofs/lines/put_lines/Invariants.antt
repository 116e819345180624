-- The lines of the roles below k are written.
-- Assumes nothing.
use Rattle.text_roles.specs.Words.{words_lines}
use Rattle.text.proofs.Puts.{Put}
use Rattle.text_roles.proofs.lines.put_lines.Given as goal

abbrev pub invariant-loop-k : goal.invariant-loop-k
invariant-loop-k l = Put l.initial.out l.start (words_lines l.rec l.k) l.out l.at
