-- The call's own promise, and the conditions that follow from it.
-- Assumes nothing.
use Rattle.model.proofs.Conditions.{may_conditions}
use Rattle.panel.proofs.exports.panel_may.Goals as goal

pub returns : goal.returns
returns c = let e = c.panel_may.ensures in record { result_value = e; may_conditions = may_conditions _ _ _ _ e }
