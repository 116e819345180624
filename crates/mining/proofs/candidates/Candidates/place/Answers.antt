-- A set that is found is there already.
-- Assumes nothing.
use mathlib.Core.Path.{sym}
use Rattle.model.proofs.Growing.{place-listed}
use Rattle.mining.proofs.Placing.{found_listed}
use Rattle.mining.proofs.candidates.Candidates.place.Goals as goal

pub returns-in_default : goal.returns-in_default
returns-in_default c = sym (place-listed c.find.ensures.grows (found_listed _ _ (rw c.in_default.is at c.find.ensures.place)))
