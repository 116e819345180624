-- `Set::word` meets its contract, by `word_in` and `word_past`.
-- Assumes nothing.
use Rattle.sets.specs.Held.{set_of}
use Rattle.sets.proofs.Written.{words, word_in, word_past}
use Rattle.sets.proofs.set.Set.word.Goals as goal

pub returns-then-j : goal.returns-then-j
unfolding set_of
returns-then-j g c = word_in g.row.WORDS _ (search words) _

pub returns-else-j : goal.returns-else-j
unfolding set_of
returns-else-j g c = word_past g.row.WORDS _ (search words) _ c.if-j.false
