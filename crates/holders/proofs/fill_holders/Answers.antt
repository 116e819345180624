-- The holders are filled, and the other tables of the index stay.
-- Assumes nothing.
use Rattle.holders.proofs.Holding.{holders_read}
use Rattle.holders.proofs.fill_holders.Goals as goal

pub returns : goal.returns
returns c = record { holders_for = λ st lim e. holders_read st _ _ _ lim e (rw c.candidate_sets.ensures at c.fill_holders_of.ensures); indexed = λ ρ ix. record { lower_roles = ix.lower_roles; user_roles = ix.user_roles; role_users = ix.role_users } }
