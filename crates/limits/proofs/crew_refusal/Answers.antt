-- The check by its sides.
-- Assumes nothing.
use mathlib.Core.Path.{sym, ◌∙◌, ap}
use Rattle.sets.proofs.Truth.{So-not}
use Rattle.model.specs.State.{rows_within}
use Rattle.model.proofs.Refusals.{crew_check}
use Rattle.limits.proofs.crew_refusal.Goals as goal

pub returns-then-crew-n : goal.returns-then-crew-n
returns-then-crew-n c = sym ((crew_check _ _ _).stops (λ h. c.if-crew-n.true h.0))

pub returns-then-not-rows_within : goal.returns-then-not-rows_within
returns-then-not-rows_within c = sym ((crew_check _ _ _).stops (λ h. So-not (sym (c.rows_within.ensures ∙ ap (rows_within c.args.m) c.as_rows.ensures.value) ∙ c.if-not-rows_within.true) h.1))

pub returns : goal.returns
returns c = sym ((crew_check _ _ _).passes (c.if-crew-n.false, sym (c.rows_within.ensures ∙ ap (rows_within c.args.m) c.as_rows.ensures.value) ∙ c.if-not-rows_within.false))
