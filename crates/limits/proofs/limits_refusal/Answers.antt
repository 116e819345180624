-- The check by its two sides.
-- Assumes nothing.
use mathlib.Core.Path.{sym, ◌∙◌}
use Rattle.sets.proofs.Truth.{So-not}
use Rattle.model.proofs.Refusals.{limits_check}
use Rattle.limits.proofs.limits_refusal.Goals as goal

pub returns-then-not-limits_kept : goal.returns-then-not-limits_kept
returns-then-not-limits_kept c = sym ((limits_check _ _).stops (So-not (sym c.limits_kept.ensures ∙ c.if-not-limits_kept.true)))

pub returns : goal.returns
returns c = sym ((limits_check _ _).passes (sym c.limits_kept.ensures ∙ c.if-not-limits_kept.false))
