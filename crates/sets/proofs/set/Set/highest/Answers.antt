-- `Set::highest` meets its contract: the highest item before word j is at hand.
-- Assumes nothing.
use mathlib.Core.Path.{refl}
use Rattle.sets.specs.Held.{set_of}
use Rattle.sets.proofs.Written.{words, arr_lt}
use Rattle.sets.proofs.Walked.{highest_more, highest_all}
use Rattle.sets.proofs.Taken.{last_told}
use Rattle.sets.proofs.set.Set.highest.Goals as goal

pub loop-j-init : goal.loop-j-init
loop-j-init g c = refl

pub loop-j-preserved : goal.loop-j-preserved
loop-j-preserved g c = rw c.highest_or-highest.ensures (highest_more g.row.WORDS _ (search words) _ c.loop-j-test.true _ c.loop-j.invariant)

pub returns : goal.returns
unfolding set_of
returns g c = let e = highest_all g.row.WORDS c.args.self.words (search words) _ _ c.loop-j-test.false c.loop-j.invariant in
    record { value = e; told = last_told _ _ _ (arr_lt g.row.WORDS c.args.self.words (search words)) e }
