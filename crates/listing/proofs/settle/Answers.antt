-- A sound record goes through the two calls.
-- Assumes nothing.
use Rattle.listing.proofs.Rendered.{settle_is}
use Rattle.listing.proofs.settle.Goals as goal

pub returns : goal.returns
returns c = settle_is _ _ _ _ _ c.requires c.panel_eliminate.ensures c.panel_review.ensures
