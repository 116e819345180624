-- `Set::only` meets its contract: each word is that of the one item.
-- Assumes nothing.
use borrow.Author.Rules.{rules}
use Rattle.sets.specs.Held.{set_of}
use Rattle.sets.proofs.Made.{made_words}
use Rattle.sets.proofs.Written.{words, only_words}
use Rattle.sets.proofs.set.Set.only.Goals as goal

pub returns : goal.returns
unfolding set_of
returns g c = only_words g.row.WORDS _ _ (search words) (made_words _ _ _ _ _ (λ k y q b. search rules) c.from_fn.ensures.items)
