-- Of all samples those are left that have each role of sample i that is not in `rest`.
-- Assumes nothing.
use Rattle.edit_work.proofs.Narrowing.{narrowing_start, narrowing_fewer, narrowing_more, narrowing_all}
use Rattle.edit_work.proofs.further.further_from.Goals as goal
use Rattle.edit_work.proofs.further.further_from.Goals.{Start}

pub loop-k-init : goal.loop-k-init
loop-k-init c = narrowing_start _ _ _ _ c.load-rest.ensures

pub loop-k-smaller : goal.loop-k-smaller
loop-k-smaller c = rw c.difference-rest.ensures (narrowing_fewer _ _ _ _ _ c.requires c.loop-k.invariant _ c.in-Some.ensures.told.there _ c.load-in-Some.ensures)

pub loop-k-preserved : goal.loop-k-preserved
loop-k-preserved c = narrowing_more _ _ _ _ _ c.requires c.loop-k.invariant _ c.in-Some.ensures.told.there _ c.load-in-Some.ensures
    _ _ _ c.load.ensures c.intersection-found.ensures c.difference-rest.ensures

pub returns : goal.returns
returns c = narrowing_all _ _ _ _ _ c.loop-k.invariant c.in_default.ensures.told
