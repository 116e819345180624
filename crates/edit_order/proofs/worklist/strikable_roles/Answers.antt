-- The strikable ones of the standing roles that are not in `rest` are found.
-- Assumes nothing.
use Rattle.edit_order.proofs.Gathering.{gathering_start, gathering_more, gathering_all}
use mathlib.Core.Path.{◌∙◌}
use Rattle.sets.proofs.Taken.{begun}
use Rattle.edit_order.proofs.worklist.strikable_roles.Goals as goal

pub loop-k-init : goal.loop-k-init
loop-k-init c = gathering_start _ _ _ _ c.empty-found.ensures
    (begun c.into_iter-k-iterator.ensures.into_iter_gives c.items-k-items.ensures ∙ c.load.ensures)

pub loop-k-preserved : goal.loop-k-preserved
loop-k-preserved c = gathering_more _ _ _ _ _ _ _ _ c.loop-k.invariant c.in-Some.ensures.steps.0.there c.removable.ensures
    c.with_strikable-found.ensures c.in-Some.ensures.steps.1

pub returns : goal.returns
returns c = gathering_all _ _ _ _ c.loop-k.invariant c.in-None.ensures.steps.0
