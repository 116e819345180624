-- `Set::less` meets its contract, word after word.
-- Assumes nothing.
use mathlib.Core.Path.{refl}
use Rattle.sets.specs.Held.{set_of}
use Rattle.sets.proofs.Written.{words}
use Rattle.sets.proofs.Walked.{less_more, less_all}
use Rattle.sets.proofs.set.Set.less.Goals as goal

pub loop-j-init : goal.loop-j-init
loop-j-init g c = refl

pub loop-j-preserved : goal.loop-j-preserved
loop-j-preserved g c = rw c.less_or-less.ensures (less_more g.row.WORDS _ _ (search words) (search words) _ c.loop-j-test.true _ c.loop-j.invariant)

pub returns : goal.returns
unfolding set_of
returns g c = less_all g.row.WORDS _ _ (search words) (search words) _ _ c.loop-j-test.false c.loop-j.invariant
