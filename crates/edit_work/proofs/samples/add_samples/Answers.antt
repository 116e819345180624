-- The users that are not in `rest` have their samples.
-- Assumes nothing.
use Rattle.edit_work.proofs.Sampling.{adding_start, adding_more, adding_room, adding_all}
use Rattle.sets.proofs.Taken.{begun}
use Rattle.edit_work.proofs.samples.add_samples.Goals as goal

pub loop-u-init : goal.loop-u-init
loop-u-init c = rw (begun c.into_iter-u-iterator.ensures.into_iter_gives c.items-u-items.ensures) (adding_start _ _ _ _)

pub add_sample-found-requires : goal.add_sample-found-requires
add_sample-found-requires c = adding_room _ _ _ _ _ _ _ _ c.loop-u.invariant c.requires c.in-Some.ensures.steps.0.there

pub loop-u-preserved : goal.loop-u-preserved
loop-u-preserved c = adding_more _ _ _ _ _ _ _ _ _ _ _ _ c.loop-u.invariant c.in-Some.ensures.steps.0.there c.load.ensures
    (c.add_sample-found.ensures.upper_bound, c.add_sample-found.ensures.by_index) c.in-Some.ensures.steps.1

pub returns : goal.returns
returns c =
    let made = adding_all _ _ _ _ _ _ _ c.loop-u.invariant c.in-None.ensures.steps.0 in
    record { upper_bound = made.0; by_index = made.1 }
