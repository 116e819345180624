-- `Set::from_words` meets its contract, by computation.
-- Assumes nothing.
use mathlib.Core.Path.{refl}
use Rattle.sets.specs.Held.{set_of}
use Rattle.sets.proofs.set.Set.from_words.Goals as goal

pub returns : goal.returns
unfolding set_of
returns g c = refl
