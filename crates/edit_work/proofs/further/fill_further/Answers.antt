-- The entries before i are filled.
-- Assumes nothing.
use Prim.Native.Nat.{◌^◌, ◌<◌}
use mathlib.Core.Path.{◌≡◌}
use native.Mathlib.Omega.{arith}
use Rattle.sets.specs.Held.{set_of}
use Rattle.sets.proofs.Written.{words}
use Rattle.sets.proofs.Held.{held128}
use Rattle.edit_work.proofs.Narrowing.{filling_start, filling_among, filling_more}
use Rattle.edit_work.proofs.further.fill_further.Goals as goal

pub loop-i-init : goal.loop-i-init
loop-i-init c = filling_start _ _

pub further_from-beyond-requires : goal.further_from-beyond-requires
further_from-beyond-requires c = filling_among _ _ _ _ _ c.requires c.loop-i.invariant (omega arith) c.below-all.ensures

pub loop-i-preserved : goal.loop-i-preserved
loop-i-preserved c = let small : set_of c.further_from-beyond.result < 2 ^ 128 = search (words, held128) in
    rw c.store.ensures
    (filling_more _ _ _ _ _ c.requires c.loop-i.invariant (omega arith) c.below-all.ensures _ (omega arith) small c.further_from-beyond.ensures)

pub returns : goal.returns
returns c = let e : c.loop-i.i ≡ c.args.count = omega arith in
    record { kept = c.loop-i.invariant.kept; filled = rw e at c.loop-i.invariant.filled }
