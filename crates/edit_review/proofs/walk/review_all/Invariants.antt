-- As many more passes may follow as c + 1 leaves.
-- Assumes nothing.
use Prim.Native.Nat.{◌+◌, ◌-◌}
use lib.ListN.{get_or}
use Rattle.quality.specs.Numbers.{weights_in}
use Rattle.edit_review.proofs.Turns.{Running}
use Rattle.edit_review.proofs.walk.review_all.Given as goal

abbrev pub invariant-loop-pass : goal.invariant-loop-pass
invariant-loop-pass l = Running l.initial.rec l.index (weights_in l.w) l.rec l.seniors l.run (get_or l.initial.rec 2 0 + 1 - l._pass)
