-- `Set::remove` meets its contract, by `without_only`.
-- Assumes nothing.
use mathlib.Core.Path.{◌∙◌}
use Rattle.sets.proofs.Written.{words, without_only}
use Rattle.sets.proofs.Held.{held}
use Rattle.sets.proofs.set.Set.remove.Goals as goal

pub returns : goal.returns
returns g c = rw c.only.ensures at c.difference.ensures ∙ without_only _ _ _ (held _ (search words))
