-- `Set::empty` meets its contract.
-- Assumes nothing.
use Rattle.sets.specs.Held.{set_of}
use Rattle.sets.proofs.Words.{value_blank}
use Rattle.sets.proofs.set.Set.empty.Goals as goal

pub returns : goal.returns
unfolding set_of
returns g c = value_blank g.row.WORDS
