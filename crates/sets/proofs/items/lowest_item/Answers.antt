-- A set that is not empty has a lowest item.
-- Assumes nothing.
use mathlib.Core.Path.{sym, ◌∙◌}
use Rattle.sets.proofs.Written.{words}
use Rattle.sets.proofs.Held.{held}
use Rattle.sets.proofs.Extremes.{lowest_known}
use Rattle.sets.proofs.Taken.{lowest_there}
use Rattle.sets.proofs.items.lowest_item.Goals as goal

pub unwrap-requires : goal.unwrap-requires
unwrap-requires g c = lowest_there _ _ _ (held c.args.s (search words)) c.requires.some c.lowest.ensures.value

pub returns : goal.returns
returns g c = lowest_known _ _ _ (sym c.lowest.ensures.value ∙ c.unwrap.ensures)
