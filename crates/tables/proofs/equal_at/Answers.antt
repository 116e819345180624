-- The words before place i that differ have left a bit.
-- Assumes nothing.
use mathlib.Core.Path.{◌≡◌, refl, sym}
use native.Mathlib.Omega.{arith}
use Prim.Native.Nat.{◌+◌}
use lib.ListN.{length, get_or}
use Rattle.sets.proofs.Truth.{all_none}
use Rattle.sets.proofs.Compare.{differ_more}
use Rattle.tables.proofs.equal_at.Goals as goal

pub loop-i-init : goal.loop-i-init
loop-i-init c = sym (all_none _)

pub loop-i-preserved : goal.loop-i-preserved
loop-i-preserved c = differ_more c.loop-i.differing (get_or c.args.ws.now (c.args.at + c.loop-i.i) 0) (get_or c.args.src.now c.loop-i.i 0) _ _
    c.loop-i.invariant refl

pub returns : goal.returns
returns c = let e : c.loop-i.i ≡ length c.args.src.now = omega arith in rw e at c.loop-i.invariant
