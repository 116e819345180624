-- The meets of r with the first i sets are there.
-- Assumes nothing.
use mathlib.Core.Path.{subst}
use Rattle.model.proofs.Lists.{length-rows_at}
use Rattle.mining.specs.Mining.{Known}
use Rattle.mining.proofs.Meeting.{walked_none, walked_all}
use Rattle.mining.proofs.Placing.{set_read}
use Rattle.mining.proofs.Walking.{walking_known, walking_placed, walking_full}
use Rattle.mining.proofs.candidates.Candidates.add_meets.Goals as goal

pub loop-i-init : goal.loop-i-init
loop-i-init c = walked_none _ _ c.requires.grows

pub loop-i-preserved-then-is_known : goal.loop-i-preserved-then-is_known
loop-i-preserved-then-is_known c = walking_known _ _ _ _ c.loop-i.invariant _ _ (set_read _ _ c.self.view_is c.loop-i-test.true c.load-x.ensures) c.intersection-y.ensures
    _ (rw c.self.view_is at c.self.invariant.seen) (rw c.if-is_known.true at c.is_known.ensures)

pub loop-i-preserved : goal.loop-i-preserved
loop-i-preserved c = rw c.in_ok-admit.ensures (walking_placed _ _ _ _ c.loop-i.invariant _ _ (set_read _ _ c.self.view_is c.loop-i-test.true c.load-x.ensures) c.intersection-y.ensures
    (subst (Known _ _ _) c.if-is_known.false c.is_known.ensures))

pub returns-in_err-admit : goal.returns-in_err-admit
returns-in_err-admit c = rw c.from_residual.ensures (walking_full _ _ _ _ c.loop-i.invariant _ _ (set_read _ _ c.self.view_is c.loop-i-test.true c.load-x.ensures) c.intersection-y.ensures
    (subst (Known _ _ _) c.if-is_known.false c.is_known.ensures) c.requires.grows c.in_err-admit.ensures)

pub returns : goal.returns
returns c = walked_all _ _ c.loop-i.invariant c.requires.grows c.requires.there (rw (← c.self.view_is, length-rows_at) c.loop-i-test.false)
