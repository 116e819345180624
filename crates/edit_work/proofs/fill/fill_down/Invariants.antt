-- The entries below k are filled.
-- Assumes nothing.
use Prim.Native.Nat.{◌*◌}
use Rattle.sets.specs.Sets.{◌∪◌, single}
use Rattle.model.specs.Lists.{set_at}
use Rattle.tables.specs.Tables.{Filled}
use Rattle.edit_work.proofs.fill.fill_down.Given as goal

abbrev pub invariant-loop-k : goal.invariant-loop-k
invariant-loop-k l = Filled 2 l.k (λ i. set_at 2 l.low (2 * i) ∪ single i) l.initial.down l.down
