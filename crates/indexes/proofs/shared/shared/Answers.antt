-- What is left are the roles of all users that were met.
-- Assumes nothing.
use Rattle.sets.proofs.Order.{∖-iff}
use Rattle.indexes.proofs.Owning.{sharing_start, sharing_more, sharing_end}
use Rattle.sets.proofs.Taken.{begun}
use Rattle.indexes.proofs.shared.shared.Goals as goal

pub loop-u-init : goal.loop-u-init
loop-u-init c = (sharing_start _ _ _ c.below-left.ensures, λ u t. t)

pub loop-u-preserved : goal.loop-u-preserved
loop-u-preserved c = let item = c.in-Some.ensures.steps.0 in
    let inv = c.loop-u.invariant in (
      sharing_more _ _ _ _ _ _ _ _ inv.0 item.small (inv.1 _ item.there) c.load.ensures c.intersection-left.ensures c.in-Some.ensures.steps.1,
      λ u t. inv.1 u ((∖-iff _ _ u).0 (rw c.in-Some.ensures.steps.1 at t)).0,
    )

pub returns : goal.returns
returns c = rw (begun c.into_iter-u-iterator.ensures.into_iter_gives c.items-u-items.ensures) at (sharing_end _ _ _ _ c.loop-u.invariant.0 c.in-None.ensures.steps.0)
