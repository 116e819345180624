-- The words below 2 i are shuffled.
-- Assumes nothing.
use borrow.Author.Rules.{rules}
use mathlib.Core.Path.{◌≡◌}
use native.Mathlib.Omega.{arith}
use Prim.Native.Nat.{◌+◌}
use lib.ListN.{length-set}
use Rattle.blocks.proofs.Shuffling.{shuffled_none, shuffled_more}
use Rattle.blocks.proofs.shuffle.Goals as goal

pub loop-i-init : goal.loop-i-init
loop-i-init c = (search rules, shuffled_none _ _ _ _)

pub loop-i-preserved : goal.loop-i-preserved
loop-i-preserved c = let l = c.loop-i in
    (simp length-set (omega arith), shuffled_more _ _ _ _ _ (search rules) l.invariant.0 c.ranges.m.fits (c.type_inv.from (l.i + 32)).fits c.requires.3 l.invariant.1)

pub returns : goal.returns
returns c = let e : c.loop-i.i ≡ 32 = omega arith in
    rw e at c.loop-i.invariant.1
