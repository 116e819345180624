-- The picks of the entries before p are found.
-- Assumes nothing.
use Rattle.sets.specs.Held.{set_of}
use Rattle.edit_work.specs.Work.{LowestOf}
use Rattle.edit_work.proofs.holders.first_holders.Given as goal

abbrev pub invariant-loop-p : goal.invariant-loop-p
invariant-loop-p l = LowestOf l.p l.holders (set_of l.found)
