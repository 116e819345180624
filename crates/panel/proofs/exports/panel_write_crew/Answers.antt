-- The call's own promise, and the conditions that follow from it.
-- Assumes nothing.
use Rattle.call_write.proofs.Conditions.{write_conditions}
use Rattle.panel.proofs.exports.panel_write_crew.Goals as goal

pub returns : goal.returns
returns c = let e = c.panel_write_crew.ensures in record { text_after = e; write_conditions = write_conditions _ _ _ e }
