-- The call's own promise, and the conditions that follow from it.
-- Assumes nothing.
use Rattle.model.proofs.Conditions.{strike_conditions}
use Rattle.panel.proofs.exports.panel_strike.Goals as goal

pub returns : goal.returns
returns c = let e = c.panel_strike.ensures in record { rec_after = e; strike_conditions = strike_conditions _ _ _ e }
