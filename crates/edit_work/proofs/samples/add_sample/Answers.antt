-- The last sample is the same, or one more is stored.
-- Assumes nothing.
use borrow.Author.Rules.{rules}
use native.Mathlib.Omega.{arith}
use mathlib.Core.Path.{◌∙◌}
use Prim.Native.Nat.{◌^◌, ◌<◌}
use Rattle.sets.specs.Held.{set_of}
use Rattle.sets.proofs.Written.{words}
use Rattle.sets.proofs.Held.{held128, equal_sets}
use Rattle.edit_work.proofs.Sampling.{sample_again, sample_more}
use Rattle.edit_work.proofs.samples.add_sample.Goals as goal

pub returns-then-eq : goal.returns-then-eq
returns-then-eq c = record {
  upper_bound = search rules;
  by_index = λ users u roles s e. sample_again users u roles _ _ _ _ _ c.if-count-gt0.true c.load.ensures
      (c.eq.ensures ∙ equal_sets c.load.result c.args.s (search words) (search words)) c.if-eq.true e s;
}

pub returns : goal.returns
returns c = let small : set_of c.args.s < 2 ^ 128 = search (words, held128) in
    record { upper_bound = search rules; by_index = λ users u roles s e. rw c.store.ensures (sample_more users u roles _ _ _ (omega arith) c.requires small e s) }
