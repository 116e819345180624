-- Assumes nothing.
use Rattle.model.proofs.Refusals.{tolerance_check}
use Rattle.calls.proofs.Making.{made_or_refused}
use Rattle.call_eliminate.proofs.allowed_tolerance.Goals as goal

pub returns-clause-number : goal.returns-clause-number
returns-clause-number c = rw c.ok_or.ensures.value (made_or_refused _ _ c.new.ensures.when (tolerance_check _))
