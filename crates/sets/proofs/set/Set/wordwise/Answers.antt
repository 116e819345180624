-- Each word is what the closure gives.
-- Assumes nothing.
use borrow.Author.Rules.{rules}
use lib.ListN.{get_or}
use Rattle.sets.proofs.Made.{made_words}
use Rattle.sets.proofs.set.Set.wordwise.Goals as goal

pub returns : goal.returns
returns g c = λ h told. made_words _ _ (λ j. h (get_or c.args.self.words j 0) (get_or c.args.other.words j 0)) _ _ (λ k y q b. search (rules, told)) c.from_fn.ensures.items
