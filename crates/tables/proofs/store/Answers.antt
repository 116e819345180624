-- The words put in are those of the set.
-- Assumes nothing.
use mathlib.Core.Path.{◌∙◌}
use Rattle.sets.specs.Held.{set_of}
use Rattle.sets.proofs.Written.{words}
use Rattle.tables.proofs.Stores.{stored}
use Rattle.tables.proofs.store.Goals as goal

pub returns : goal.returns
unfolding set_of
returns g c = c.copy.ensures ∙ stored _ _ _ _ (search words)
