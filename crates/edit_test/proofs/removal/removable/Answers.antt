-- Assumes nothing.
use Rattle.edit_test.proofs.Removing.{told_strikable}
use Rattle.edit_test.proofs.removal.removable.Goals as goal

pub returns : goal.returns
returns c = λ st lim e. told_strikable st _ lim e _ _ _ _ _ _ c.requires.k_bound c.only.ensures
    c.load.ensures c.load-2.ensures c.grants_covered.ensures
