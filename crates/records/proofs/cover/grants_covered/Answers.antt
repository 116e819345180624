-- The row and the standing roles that are read are the user's.
-- Assumes nothing.
use mathlib.Core.Path.{◌∙◌}
use Rattle.indexes.proofs.Sources.{row_in}
use Rattle.records.proofs.Covering.{own_roles_are}
use Rattle.records.proofs.cover.grants_covered.Goals as goal

pub returns : goal.returns
returns c = λ st src same ix lu. (rw c.candidate_sets.ensures at c.user_covered.ensures) st _ _ _ _ src ix.lower_roles lu (c.load-row.ensures ∙ row_in st _ src _ lu)
    (own_roles_are st _ src.users _ ix _ _ _ _ lu c.load.ensures c.intersection-own.ensures same)
