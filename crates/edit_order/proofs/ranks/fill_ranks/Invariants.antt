-- The roles that are not in `rest` are at their ranks.
-- Assumes nothing.
use Rattle.sets.specs.Held.{set_of}
use Rattle.edit_order.specs.Ranking.{sets_of}
use Rattle.edit_order.proofs.Sorting.{Sorting}
use Rattle.edit_order.proofs.ranks.fill_ranks.Given as goal

abbrev pub invariant-loop-k : goal.invariant-loop-k
invariant-loop-k l = Sorting l.work l.c (set_of l.counted) (set_of l.fn.worklist) (sets_of l.ranks) (set_of l.k-iterator.rest)
