-- The users that are not in `rest` have their samples.
-- Assumes nothing.
use Rattle.sets.specs.Held.{set_of}
use Rattle.edit_work.specs.Work.{entries}
use Rattle.edit_work.proofs.Sampling.{Adding}
use Rattle.edit_work.proofs.samples.add_samples.Given as goal

abbrev pub invariant-loop-u : goal.invariant-loop-u
invariant-loop-u l = Adding (entries l.index.roles) (set_of l.fn.users) l.initial.found l.initial.table l.table l.found (set_of l.u-iterator.rest)
