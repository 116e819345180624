-- `Set::below` meets its contract: each word is the mask of the items below n.
-- Assumes nothing.
use borrow.Author.Rules.{rules}
use Prim.Native.Nat.{◌*◌}
use Rattle.sets.specs.Held.{set_of}
use Rattle.sets.proofs.Made.{made_words}
use Rattle.sets.proofs.Below.{mask_from, mask_capped, below_words}
use Rattle.sets.proofs.Written.{words}
use Rattle.sets.proofs.set.Set.below.Goals as goal

pub returns : goal.returns
unfolding set_of
returns g c = below_words g.row.WORDS _ _ (search words) (made_words _ _ (λ j. mask_from (64 * j) c.args.n) _ _ (λ k y q b. let m = mask_capped k c.args.n c.ranges.n.fits in search (rules, m)) c.from_fn.ensures.items)
