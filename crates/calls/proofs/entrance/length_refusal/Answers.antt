-- The check by its two sides.
-- Assumes nothing.
use mathlib.Core.Path.{sym}
use Rattle.model.proofs.Refusals.{length_check}
use Rattle.calls.proofs.entrance.length_refusal.Goals as goal

pub returns-then-rec-ne-LENGTH : goal.returns-then-rec-ne-LENGTH
returns-then-rec-ne-LENGTH c = sym ((length_check _).stops c.if-rec-ne-LENGTH.true)

pub returns : goal.returns
returns c = sym ((length_check _).passes c.if-rec-ne-LENGTH.false)
