-- `Set::insert` meets its contract, by `with_only`.
-- Assumes nothing.
use mathlib.Core.Path.{◌∙◌}
use Rattle.sets.proofs.Written.{with_only}
use Rattle.sets.proofs.set.Set.insert.Goals as goal

pub returns : goal.returns
returns g c = rw c.only.ensures at c.union.ensures ∙ with_only _ c.args.i _
