-- Assumes nothing.
use mathlib.Core.Path.{sym, ◌∙◌, ap}
use lib.ListN.{length}
use Rattle.model.proofs.Lists.{length-rows_at}
use Rattle.mining.proofs.candidates.Candidates.count.Goals as goal

pub returns-clause-value : goal.returns-clause-value
returns-clause-value c = sym (length-rows_at _ _ 0) ∙ ap length c.self.view_is
