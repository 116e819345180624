-- Whoever has a role from k on is met.
-- Assumes nothing.
use Rattle.sets.specs.Held.{set_of}
use Rattle.edit_work.proofs.Sampling.{Meeting}
use Rattle.edit_work.proofs.samples.find_samples.Given as goal

abbrev pub invariant-loop-k : goal.invariant-loop-k
invariant-loop-k l = Meeting l.index l.c l.table l.count (set_of l.met) l.k
