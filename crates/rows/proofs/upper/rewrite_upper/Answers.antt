-- Both entries of the row are those of the new building.
-- Assumes nothing.
use Rattle.rows.proofs.Rewriting.{upper_rewritten}
use Rattle.rows.proofs.upper.rewrite_upper.Goals as goal

pub returns : goal.returns
returns c = λ old st s p t to q. upper_rewritten old st p t _ _ _ to s _ _ _ _ _ c.requires.i_bound c.juniors_of-juniors.ensures
    (rw c.candidate_sets.ensures at c.permissions_of-permissions.ensures) c.store.ensures c.store-2.ensures q
