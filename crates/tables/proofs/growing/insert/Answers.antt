-- The words that go to places from i on have been moved.
-- Assumes nothing.
use Prim.Native.Nat.{◌^◌, ◌<◌}
use Rattle.sets.specs.Held.{set_of}
use Rattle.sets.proofs.Written.{words}
use Rattle.sets.proofs.Held.{held256}
use Rattle.tables.proofs.Moving.{moved_none, moved_more, inserted}
use Rattle.tables.proofs.growing.insert.Goals as goal
use Rattle.tables.proofs.growing.insert.Goals.{Start}

within : (c : Start) → set_of c.args.x < 2 ^ 256
within c = search (words, held256)

pub loop-i-init : goal.loop-i-init
loop-i-init c = moved_none _ _ _ c.requires.at_le_n

pub loop-i-preserved : goal.loop-i-preserved
loop-i-preserved c = moved_more c.requires.n_in_bounds c.loop-i.invariant c.loop-i-test.true

pub returns : goal.returns
returns c = rw c.store.ensures
    (inserted c.requires.n_in_bounds c.loop-i.invariant (set_of c.args.x) (within (goal.at.returns c).Start) c.requires.at_le_n c.loop-i-test.false)
