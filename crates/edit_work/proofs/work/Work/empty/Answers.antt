-- Words that are zero, of each table.
-- Assumes nothing.
use Rattle.stores.proofs.Stores.{blank}
use Rattle.edit_work.proofs.work.Work.empty.Goals as goal

pub returns : goal.returns
returns c = record { down = blank 256; up = blank 256; samples = blank 256; holding = blank 256; further = blank 256; first = c.empty.ensures }
