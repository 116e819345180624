-- The rows of k and of its neighbours are written anew.
-- Assumes nothing.
use Rattle.edit_rows.proofs.Changing.{taken_at_lem}
use Rattle.edit_rows.proofs.change.take_out_at.Goals as goal

pub returns : goal.returns
returns c = λ st ready. taken_at_lem st _ _ _ _ _ ready _ c.requires.k_bound _ _ _ _ _ _ _ _ c.load.ensures c.remove-left.ensures
    c.insert.ensures c.load-2.ensures c.heirs-lowers.ensures c.insert-2.ensures c.change_standing.ensures
