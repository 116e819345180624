-- There is something left, or nothing.
-- Assumes nothing.
use mathlib.Core.Path.{sym, ◌∙◌}
use Rattle.sets.proofs.Truth.{when-true, when-false}
use Rattle.edit_rows.proofs.change.heirs.Goals as goal

pub returns-then-is_empty : goal.returns-then-is_empty
returns-then-is_empty g c = c.empty.ensures ∙ sym (when-true _ _ _ (sym c.is_empty.ensures ∙ c.if-is_empty.true))

pub returns : goal.returns
returns g c = sym (when-false _ _ _ (sym c.is_empty.ensures ∙ c.if-is_empty.false))
