-- The words are those from place `at` on.
-- Assumes nothing.
use mathlib.Core.Path.{◌∙◌, ap}
use native.Mathlib.Omega.{arith}
use Rattle.sets.specs.Words.{value}
use Rattle.tables.proofs.Stores.{loaded}
use Rattle.tables.proofs.load.Goals as goal

pub returns : goal.returns
returns g c = c.from_words.ensures ∙ ap value c.copy_from_slice.ensures.after ∙ loaded g.row.WORDS _ c.args.at (omega arith)
