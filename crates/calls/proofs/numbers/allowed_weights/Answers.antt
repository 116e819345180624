-- Assumes nothing.
use Rattle.model.proofs.Refusals.{weights_check}
use Rattle.calls.proofs.Making.{made_or_refused}
use Rattle.calls.proofs.numbers.allowed_weights.Goals as goal

pub returns-clause-number : goal.returns-clause-number
returns-clause-number c = rw c.ok_or.ensures.value (made_or_refused _ _ c.new.ensures.when (weights_check _))
