-- No role to do has a key from `rank` on.
-- Assumes nothing.
use Rattle.sets.specs.Held.{set_of}
use Rattle.edit_order.specs.Ranking.{sets_of}
use Rattle.edit_order.proofs.Leading.{Sinking}
use Rattle.edit_order.proofs.front.foremost.Given as goal

abbrev pub invariant-loop-rank : goal.invariant-loop-rank
invariant-loop-rank l = Sinking (sets_of l.ranks) (set_of l.todo) l.top l.rank
