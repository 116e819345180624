-- Both are found among the roles that stand.
-- Assumes nothing.
use Rattle.edit_rows.proofs.links.Links.among.Goals as goal

pub returns : goal.returns
returns c = λ ρ numbered lower below. record { seniors = c.seniors_of.ensures ρ numbered lower below; juniors = c.juniors_of.ensures ρ numbered lower below }
