-- The candidates below k have been taken up.
-- Assumes nothing.
use Rattle.quality.specs.Numbers.{weights_in}
use Rattle.edit_review.proofs.Turns.{Passing}
use Rattle.edit_review.proofs.walk.review_pass.Given as goal

abbrev pub invariant-loop-k : goal.invariant-loop-k
invariant-loop-k l = Passing l.initial.rec l.index (weights_in l.w) l.initial.run l.rec l.seniors l.run l.k
