-- The lowest item of a set that is not empty is put in.
-- Assumes nothing.
use Rattle.edit_work.proofs.Reaching.{put_lowest, put_none}
use Rattle.edit_work.proofs.holders.with_lowest.Goals as goal

pub returns-in-None : goal.returns-in-None
returns-in-None c = put_none _ _ c.in-None.ensures.told

pub returns-in-Some : goal.returns-in-Some
returns-in-Some c = put_lowest _ _ _ _ c.in-Some.ensures.told c.insert.ensures
