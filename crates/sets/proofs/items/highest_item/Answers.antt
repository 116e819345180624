-- A set that is not empty has a highest item.
-- Assumes nothing.
use mathlib.Core.Path.{sym, ◌∙◌}
use Rattle.sets.proofs.Written.{words}
use Rattle.sets.proofs.Held.{held}
use Rattle.sets.proofs.Extremes.{highest_known}
use Rattle.sets.proofs.Taken.{highest_there}
use Rattle.sets.proofs.items.highest_item.Goals as goal

pub unwrap-requires : goal.unwrap-requires
unwrap-requires g c = highest_there _ _ _ (held c.args.s (search words)) c.requires.some c.highest.ensures.value

pub returns : goal.returns
returns g c = highest_known _ _ _ (held c.args.s (search words)) (sym c.highest.ensures.value ∙ c.unwrap.ensures)
