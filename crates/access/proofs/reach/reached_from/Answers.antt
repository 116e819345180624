-- The links of the roles from k up are followed.
-- Assumes nothing.
use mathlib.Core.Path.{◌≡◌}
use Prim.Native.Nat.{suc, ◌-◌}
use native.Mathlib.Omega.{arith}
use Rattle.access.proofs.Following.{following_none, following_more, following_all}
use Rattle.access.proofs.reach.reached_from.Goals as goal

pub loop-k-init : goal.loop-k-init
loop-k-init c = following_none _ _

pub loop-k-preserved : goal.loop-k-preserved
loop-k-preserved c = let e : c.loop-k.k ≡ suc (c.loop-k.k - 1) = omega arith in
    following_more _ _ _ _ _ _ _ c.loop-k.invariant e c.load.ensures c.with_juniors-found.ensures

pub returns : goal.returns
returns c = following_all _ _ _ _ c.loop-k.invariant (omega arith)
