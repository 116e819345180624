-- The roles that are not in `todo` are taken up.
-- Assumes nothing.
use lib.Count.{ones}
use Rattle.sets.specs.Held.{set_of}
use Rattle.edit_order.specs.Ranking.{sets_of}
use Rattle.edit_pass.proofs.Taking.{Taking}
use Rattle.edit_pass.proofs.pass.Given as goal

abbrev pub invariant-loop-front : goal.invariant-loop-front
invariant-loop-front l = Taking l.initial.rec l.index (sets_of l.ranks) l.terms l.initial.run l.rec l.seniors l.run (set_of l.todo) l.top

abbrev pub decreases-loop-front : goal.decreases-loop-front
decreases-loop-front l = ones (set_of l.todo)
