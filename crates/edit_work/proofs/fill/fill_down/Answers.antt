-- The entries below k are filled.
-- Assumes nothing.
use mathlib.Core.Path.{◌≡◌}
use native.Mathlib.Omega.{arith}
use Prim.Native.Nat.{◌^◌, ◌<◌}
use Rattle.sets.specs.Held.{set_of}
use Rattle.sets.proofs.Written.{words}
use Rattle.sets.proofs.Held.{held128}
use Rattle.tables.proofs.Tables.{filled_none, filled_more}
use Rattle.edit_work.proofs.Reaching.{put_self}
use Rattle.edit_work.proofs.fill.fill_down.Goals as goal

pub loop-k-init : goal.loop-k-init
loop-k-init c = filled_none 2 _ _

pub loop-k-preserved : goal.loop-k-preserved
loop-k-preserved c = let small : set_of c.insert.result < 2 ^ 128 = search (words, held128) in
    rw c.store.ensures
    (filled_more 2 _ _ _ c.args.down.now c.loop-k.down c.loop-k.invariant (omega arith) small (put_self _ _ _ _ (omega arith) c.load.ensures c.insert.ensures))

pub returns : goal.returns
returns c = let e : c.loop-k.k ≡ c.args.c = omega arith in
    rw e at c.loop-k.invariant
