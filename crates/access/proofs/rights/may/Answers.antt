-- Assumes nothing.
use Rattle.access.proofs.Asking.{may_found}
use Rattle.access.proofs.rights.may.Goals as goal

pub returns : goal.returns
returns c = λ h.
    may_found _ h _ _ _ _ _ (rw c.direct_members.ensures at c.column-direct.ensures) (rw c.immediate_juniors.ensures at c.reached_from-reached.ensures)
    (rw c.direct_permissions.ensures at c.some_has.ensures)
