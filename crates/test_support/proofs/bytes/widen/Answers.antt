-- The first i words are the first i bytes.
-- Assumes nothing.
use mathlib.Core.Path.{refl, sym}
use native.Mathlib.Omega.{arith}
use lib.ListN.{length-set}
use Rattle.test_support.proofs.Widening.{one_more, all_there}
use Rattle.test_support.proofs.bytes.widen.Goals as goal

pub loop-i-init : goal.loop-i-init
loop-i-init c = (refl, sym c.requires, refl)

pub loop-i-preserved : goal.loop-i-preserved
loop-i-preserved c = let i = c.loop-i.invariant in
    (simp length-set i.0, simp length-set i.1, one_more _ _ _ _ i.1 (omega arith) c.from.ensures i.2)

pub returns : goal.returns
returns c = let i = c.loop-i.invariant in all_there _ _ _ i.1 (omega arith) i.2
