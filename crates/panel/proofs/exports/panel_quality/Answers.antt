-- The call's own promise, and the conditions that follow from it.
-- Assumes nothing.
use Rattle.model.proofs.Conditions.{quality_conditions}
use Rattle.panel.proofs.exports.panel_quality.Goals as goal

pub returns : goal.returns
returns c = let e = c.panel_quality.ensures in record { result_value = e; quality_conditions = quality_conditions _ _ _ e }
