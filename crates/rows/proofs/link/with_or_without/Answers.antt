-- Assumes nothing.
use mathlib.Core.Path.{sym, ◌∙◌}
use Rattle.sets.proofs.Truth.{ltb_iff, when-true, when-false}
use Rattle.rows.proofs.link.with_or_without.Goals as goal

pub returns-then-with : goal.returns-then-with
returns-then-with c = c.insert.ensures ∙ when-true _ _ _ ((ltb_iff _ 128).1 c.requires) ∙ sym (when-true _ _ _ c.if-with.true)

pub returns : goal.returns
returns c = c.remove.ensures ∙ sym (when-false _ _ _ c.if-with.false)
