-- As many more passes may follow as c + 1 leaves.
-- Assumes nothing.
use Prim.Native.Nat.{◌+◌, ◌-◌}
use lib.ListN.{get_or}
use Rattle.sets.specs.Held.{set_of}
use Rattle.edit_eliminate.proofs.Running.{Running}
use Rattle.edit_eliminate.proofs.all.run_passes.Given as goal

abbrev pub invariant-loop-pass : goal.invariant-loop-pass
invariant-loop-pass l = Running l.initial.rec l.index l.terms l.work l.rec l.seniors l.run (set_of l.counted) (get_or l.initial.rec 2 0 + 1 - l._pass)
