-- Two shifts up, one down, as the definition has them.
-- Assumes nothing.
use borrow.Author.Rules.{rules}
use Rattle.test_support.specs.Digest.{up, mixed}
use Rattle.test_support.proofs.mixing.mix.Goals as goal

pub returns : goal.returns
unfolding mixed up
returns c = search rules
