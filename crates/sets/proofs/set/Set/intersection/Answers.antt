-- `Set::intersection` meets its contract: each word is made of those of both.
-- Assumes nothing.
use borrow.Author.Rules.{rules}
use lib.Bits.{bit_and}
use Rattle.sets.specs.Held.{set_of}
use Rattle.sets.proofs.Made.{all_made}
use Rattle.sets.proofs.Words.{wordwise-∩}
use Rattle.sets.proofs.Written.{words}
use Rattle.sets.proofs.set.Set.intersection.Goals as goal

pub returns : goal.returns
unfolding set_of
returns g c = all_made _ _ wordwise-∩ g.row.WORDS _ _ _ (search words) (search words) (search words) (search words) (search words) (c.wordwise.ensures bit_and (λ x y t e. search rules))
