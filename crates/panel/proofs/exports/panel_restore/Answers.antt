-- The call's own promise, and the conditions that follow from it.
-- Assumes nothing.
use Rattle.model.proofs.Conditions.{restore_conditions}
use Rattle.panel.proofs.exports.panel_restore.Goals as goal

pub returns : goal.returns
returns c = let e = c.panel_restore.ensures in record { rec_after = e; restore_conditions = restore_conditions _ _ _ e }
