-- Words that are zero, of each table.
-- Assumes nothing.
use Rattle.stores.proofs.Stores.{blank}
use Rattle.indexes.proofs.index.Index.empty.Goals as goal

pub returns : goal.returns
returns c = record { lower = blank 256; roles = blank 256; users = blank 256; holders = blank 512 }
