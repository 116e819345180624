-- One slot is written.
-- Assumes nothing.
use Rattle.mining.proofs.Seeing.{slot_stored}
use Rattle.mining.proofs.seen.remember.Goals as goal

pub returns : goal.returns
returns c = slot_stored _ _ _ c.told-seen c.slot_of.ensures
