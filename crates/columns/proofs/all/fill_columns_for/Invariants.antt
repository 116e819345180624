-- The items that are not in `rest` have their entries.
-- Assumes nothing.
use Prim.Native.Nat.{◌*◌}
use Rattle.sets.specs.Held.{set_of}
use Rattle.sets.specs.Sets.{has, collect}
use Rattle.model.specs.Lists.{set_at}
use Rattle.columns.proofs.Filling.{Filling}
use Rattle.columns.proofs.all.fill_columns_for.Given as goal

abbrev pub invariant-loop-k : goal.invariant-loop-k
invariant-loop-k g l = Filling (set_of l.initial.k-iterator.rest) (set_of l.k-iterator.rest) (λ k. collect l.n (λ i. has (set_at g.row.WORDS l.table (g.row.WORDS * i)) k)) l.initial.out l.out
