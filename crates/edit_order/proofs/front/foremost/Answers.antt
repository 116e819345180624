-- No role to do has a key from `rank` on.
-- Assumes nothing.
use mathlib.Core.Path.{sym}
use native.Mathlib.Omega.{arith}
use Rattle.edit_order.proofs.Leading.{sinking_start, sinking_more, sinking_out, sinking_found}
use Rattle.edit_order.proofs.Sorting.{rank_is}
use Rattle.edit_order.proofs.front.foremost.Goals as goal

pub loop-rank-init : goal.loop-rank-init
loop-rank-init c = sinking_start _ _ _

pub returns-in-Some : goal.returns-in-Some
returns-in-Some c = let s = c.loop-rank.invariant.low in
    sinking_found _ _ _ _ c.loop-rank.invariant _ _ (omega arith) (sym (rank_is c.args.ranks.now _ _ (omega arith))) c.intersection.ensures _ c.in-Some.ensures.told

pub loop-rank-preserved : goal.loop-rank-preserved
loop-rank-preserved c = let s = c.loop-rank.invariant.low in
    sinking_more _ _ _ _ c.loop-rank.invariant _ _ (omega arith) (sym (rank_is c.args.ranks.now _ _ (omega arith))) c.intersection.ensures c.in_default.ensures.told

pub returns : goal.returns
returns c = sinking_out _ _ _ _ _ c.loop-rank.invariant (omega arith) c.in_ok-role.ensures.told
