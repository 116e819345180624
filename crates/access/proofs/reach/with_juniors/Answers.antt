-- Assumes nothing.
use mathlib.Core.Path.{sym, ◌∙◌}
use Rattle.sets.proofs.Truth.{when-true, when-false}
use Rattle.access.proofs.reach.with_juniors.Goals as goal

pub returns-then-contains : goal.returns-then-contains
returns-then-contains c = c.union.ensures ∙ sym (when-true _ _ _ (sym c.contains.ensures ∙ c.if-contains.true))

pub returns : goal.returns
returns c = sym (when-false _ _ _ (sym c.contains.ensures ∙ c.if-contains.false))
