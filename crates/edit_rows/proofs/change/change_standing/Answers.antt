-- The standing mark, the upper rows and the lower rows, one after the other.
-- Assumes nothing.
use Rattle.edit_rows.proofs.Changing.{changed}
use Rattle.edit_rows.proofs.change.change_standing.Goals as goal

pub returns : goal.returns
returns c = changed _ _ _ _ _ _ _ _ _ _ c.store.ensures c.relink_uppers.ensures c.rewrite_lowers.ensures
