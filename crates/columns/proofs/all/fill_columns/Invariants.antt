-- The entries of the words before j are filled.
-- Assumes nothing.
use mathlib.Core.Path.{◌≡◌}
use Prim.Native.Nat.{◌*◌, min}
use lib.ListN.{length}
use Rattle.sets.specs.Sets.{has, collect}
use Rattle.model.specs.Lists.{set_at}
use Rattle.tables.specs.Tables.{Filled}
use Rattle.columns.proofs.all.fill_columns.Given as goal

abbrev pub invariant-loop-j : goal.invariant-loop-j
invariant-loop-j g l = (length l.out ≡ length l.initial.out) × Filled 2 (min (64 * l.j) l.c) (λ k. collect l.n (λ i. has (set_at g.row.WORDS l.table (g.row.WORDS * i)) k)) l.initial.out l.out
