-- The set of k less those of its immediate juniors.
-- Assumes nothing.
use mathlib.Core.Path.{sym, ◌∙◌}
use Rattle.hierarchy.proofs.Building.{absent, stands, permissions_found}
use Rattle.model.proofs.Building.{absent_permissions}
use Rattle.hierarchy.proofs.rows.permissions_of.Goals as goal
use Rattle.std.proofs.Common.{ap}
use mathlib.Core.Bool.{not}

pub returns-then-not-contains : goal.returns-then-not-contains
returns-then-not-contains c = λ ρ n w h b e. c.empty.ensures ∙ sym (absent_permissions ρ _ _ (absent _ _ _ c.contains.ensures (ap not c.if-not-contains.true)))

pub returns : goal.returns
returns c = λ ρ n w h b e.
    c.less.ensures
    ∙ permissions_found ρ _ _ _ _ _ n w h b (stands _ _ _ c.contains.ensures (ap not c.if-not-contains.false)) c.load.ensures e
