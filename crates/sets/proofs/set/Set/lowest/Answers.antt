-- `Set::lowest` meets its contract: no word before word j has an item.
-- Assumes nothing.
use mathlib.Core.Path.{refl}
use Rattle.sets.specs.Held.{set_of}
use Rattle.sets.proofs.Written.{words, arr_lt}
use Rattle.sets.proofs.Walked.{none_more, lowest_here, lowest_nowhere}
use Rattle.sets.proofs.Taken.{first_told}
use Rattle.sets.proofs.set.Set.lowest.Goals as goal

pub loop-j-init : goal.loop-j-init
loop-j-init g c = refl

pub loop-j-preserved : goal.loop-j-preserved
loop-j-preserved g c = none_more g.row.WORDS _ (search words) _ c.loop-j-test.true c.if-self-j-ne0.false c.loop-j.invariant

pub returns-then-self-j-ne0 : goal.returns-then-self-j-ne0
unfolding set_of
returns-then-self-j-ne0 g c = let e = lowest_here g.row.WORDS c.args.self.words (search words) _ c.loop-j-test.true c.if-self-j-ne0.true c.loop-j.invariant in
    record { value = e; told = first_told _ _ _ (arr_lt g.row.WORDS c.args.self.words (search words)) e }

pub returns : goal.returns
unfolding set_of
returns g c = let e = lowest_nowhere g.row.WORDS c.args.self.words (search words) _ c.loop-j-test.false c.loop-j.invariant in
    record { value = e; told = first_told _ _ _ (arr_lt g.row.WORDS c.args.self.words (search words)) e }
