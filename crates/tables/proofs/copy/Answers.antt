-- The list so far is the one lent with the first i words of src put in.
-- Assumes nothing.
use mathlib.Core.Path.{refl}
use native.Mathlib.Omega.{arith}
use lib.ListN.{length-set}
use Rattle.stores.specs.Stores.{put_at}
use Rattle.stores.proofs.Stores.{put_at-take, put_at_taken}
use Rattle.tables.proofs.copy.Goals as goal

pub loop-i-init : goal.loop-i-init
unfolding put_at
loop-i-init c = (refl, refl)

pub loop-i-preserved : goal.loop-i-preserved
loop-i-preserved c = (
  simp length-set c.loop-i.invariant.0,
  put_at-take _ _ _ _ (omega arith) c.loop-i.invariant.1,
)

pub returns : goal.returns
returns c = put_at_taken _ _ _ _ (omega arith) c.loop-i.invariant.1
