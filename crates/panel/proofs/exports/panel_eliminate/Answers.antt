-- The call's own promise, and the conditions that follow from it.
-- Assumes nothing.
use Rattle.model.proofs.Conditions.{eliminate_conditions}
use Rattle.panel.proofs.exports.panel_eliminate.Goals as goal

pub returns : goal.returns
returns c = let e = c.panel_eliminate.ensures in record { rec_after = e; eliminate_conditions = eliminate_conditions _ _ _ _ e }
