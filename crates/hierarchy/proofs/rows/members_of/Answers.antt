-- The users of k less those of its immediate seniors.
-- Assumes nothing.
use mathlib.Core.Path.{sym, ◌∙◌}
use Rattle.hierarchy.proofs.Building.{absent, stands, members_found}
use Rattle.model.proofs.Building.{absent_members}
use Rattle.hierarchy.proofs.rows.members_of.Goals as goal
use Rattle.std.proofs.Common.{ap}
use mathlib.Core.Bool.{not}

pub returns-then-not-contains : goal.returns-then-not-contains
returns-then-not-contains c = λ ρ n w h b e. c.empty.ensures ∙ sym (absent_members ρ _ _ (absent _ _ _ c.contains.ensures (ap not c.if-not-contains.true)))

pub returns : goal.returns
returns c = λ ρ n w h b e.
    c.less.ensures
    ∙ members_found ρ _ _ _ _ _ n w h b (stands _ _ _ c.contains.ensures (ap not c.if-not-contains.false)) c.load.ensures e
