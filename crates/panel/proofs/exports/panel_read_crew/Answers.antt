-- The call's own promise, and the conditions that follow from it.
-- Assumes nothing.
use Rattle.text_crew.proofs.Conditions.{read_conditions}
use Rattle.panel.proofs.exports.panel_read_crew.Goals as goal

pub returns : goal.returns
returns c = let e = c.read_crew.ensures in record { rows_after = e; read_conditions = rw e (read_conditions _ _) }
