-- The maximal ones of the lower roles that stand.
-- Assumes nothing.
use mathlib.Core.Path.{sym, ◌∙◌}
use Rattle.hierarchy.proofs.Building.{absent, stands, juniors_found}
use Rattle.model.proofs.Building.{absent_juniors}
use Rattle.hierarchy.proofs.rows.juniors_of.Goals as goal
use Rattle.std.proofs.Common.{ap}
use mathlib.Core.Bool.{not}

pub returns-then-not-contains : goal.returns-then-not-contains
returns-then-not-contains c = λ ρ n h b. c.empty.ensures ∙ sym (absent_juniors ρ _ _ (absent _ _ _ c.contains.ensures (ap not c.if-not-contains.true)))

pub returns : goal.returns
returns c = λ ρ n h b.
    juniors_found ρ _ _ _ _ _ _ n h b (stands _ _ _ c.contains.ensures (ap not c.if-not-contains.false)) c.load.ensures
    c.intersection.ensures (c.maximal_of.ensures ρ n h)
