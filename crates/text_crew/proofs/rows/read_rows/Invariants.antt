-- The rows so far are read, and the words hold them.
-- Assumes nothing.
use mathlib.Core.Path.{◌≡◌}
use Rattle.text_crew.proofs.Answers.{Filling}
use lib.ListN.{length}
use Rattle.text_crew.proofs.rows.read_rows.Given as goal

abbrev pub invariant-loop-u : goal.invariant-loop-u
invariant-loop-u l = (length l.words ≡ 512) × (l.rest.text.now ≡ l.start.text.now) × Filling l.start.text.now l.m l.start.at l.u l.rest.at l.words
