-- The call's own promise, and the conditions that follow from it.
-- Assumes nothing.
use Rattle.model.proofs.Conditions.{mining_conditions}
use Rattle.panel.proofs.exports.panel_mine.Goals as goal

pub returns : goal.returns
returns c = let e = c.panel_mine.ensures in record { rec_after = e; mining_conditions = mining_conditions _ _ _ _ _ e }
