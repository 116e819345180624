-- The listing is what stands first in the output.
-- Assumes nothing.
use Rattle.streams.proofs.Texts.{first_stored}
use Rattle.listing.proofs.stream.fn.list_stream.through.Goals as goal

pub returns : goal.returns
returns c = let l = c.list_roles-end.ensures in first_stored _ _ _ _ l.2 (l.0, l.1)
