-- Put in exactly where the test holds.
-- Assumes nothing.
use Rattle.sets.proofs.Order.{put_in, left_out}
use Rattle.edit_order.proofs.worklist.with_strikable.Goals as goal

pub returns-then-strikable : goal.returns-then-strikable
returns-then-strikable c = put_in _ _ _ _ 128 c.requires c.if-strikable.true c.insert.ensures

pub returns : goal.returns
returns c = left_out _ _ _ c.if-strikable.false
