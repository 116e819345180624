-- The words before q are loaded.
-- Assumes nothing.
use mathlib.Core.Path.{◌≡◌}
use Prim.Native.Nat.{◌+◌, ◌*◌}
use lib.ListN.{length, get_or}
use Rattle.columns.specs.Loading.{Loaded}
use Rattle.columns.proofs.all.load_words.Given as goal

abbrev pub invariant-loop-q : goal.invariant-loop-q
invariant-loop-q g l = (length l.block ≡ 64) × Loaded l.q (λ i. get_or l.table (g.row.WORDS * (l.from + i) + l.j) 0) l.initial.block l.block
