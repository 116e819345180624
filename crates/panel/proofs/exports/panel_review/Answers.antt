-- The call's own promise, and the conditions that follow from it.
-- Assumes nothing.
use Rattle.model.proofs.Conditions.{review_conditions}
use Rattle.panel.proofs.exports.panel_review.Goals as goal

pub returns : goal.returns
returns c = let e = c.panel_review.ensures in record { rec_after = e; review_conditions = review_conditions _ _ _ e }
