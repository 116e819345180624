-- `Set::is_subset` meets its contract, by `subset_test`.
-- Assumes nothing.
use Rattle.sets.proofs.Written.{subset_test}
use Rattle.sets.proofs.set.Set.is_subset.Goals as goal

pub returns : goal.returns
returns g c = subset_test _ _ _ _ c.is_empty.ensures c.difference.ensures
