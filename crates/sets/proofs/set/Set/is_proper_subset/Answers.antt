-- `Set::is_proper_subset` meets its contract, by `proper_test`.
-- Assumes nothing.
use Rattle.sets.proofs.Written.{words, proper_test}
use Rattle.sets.proofs.Held.{equal_sets}
use Rattle.sets.proofs.set.Set.is_proper_subset.Goals as goal

pub returns : goal.returns
returns g c = rw c.ne.ensures (proper_test _ _ _ _ c.is_subset.ensures (equal_sets c.args.self c.args.other (search words) (search words)))
