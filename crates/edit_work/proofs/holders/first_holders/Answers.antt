-- The picks of the entries before p are found.
-- Assumes nothing.
use mathlib.Core.Path.{◌≡◌}
use native.Mathlib.Omega.{arith}
use Rattle.edit_work.proofs.Reaching.{lowest-none, lowest_more}
use Rattle.edit_work.proofs.holders.first_holders.Goals as goal

pub loop-p-init : goal.loop-p-init
loop-p-init c = lowest-none _ _ c.empty-found.ensures

pub loop-p-preserved : goal.loop-p-preserved
loop-p-preserved c = lowest_more _ _ _ _ _ c.loop-p.invariant c.load.ensures c.with_lowest-found.ensures

pub returns : goal.returns
returns c = let e : c.loop-p.p ≡ c.args.m = omega arith in
    rw e at c.loop-p.invariant
