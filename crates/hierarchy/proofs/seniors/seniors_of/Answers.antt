-- What is found are immediate seniors, and the others are left, or above one that is found.
-- Assumes nothing.
use mathlib.Core.Path.{sym, ◌∙◌}
use Rattle.hierarchy.proofs.Seeking.{sought_absent, sought_start, sought_more, sought_all}
use Rattle.sets.proofs.Taken.{begun}
use Rattle.hierarchy.proofs.seniors.seniors_of.Goals as goal

pub returns-then-not-contains : goal.returns-then-not-contains
returns-then-not-contains c = sought_absent _ _ _ _ (sym c.contains.ensures ∙ c.if-not-contains.true) c.empty.ensures

pub loop-i-init : goal.loop-i-init
loop-i-init c = λ R e h. sought_start _ R _ h _ _ c.empty-found.ensures e

pub loop-i-preserved : goal.loop-i-preserved
loop-i-preserved c = λ R e h. let step = c.in-Some.ensures.steps in
    sought_more _ R _ h _ _ _ _ _ _ (c.loop-i.invariant R e h) step.0 c.load.ensures c.with_senior-found.ensures step.1

pub returns : goal.returns
returns c = let here = sym c.contains.ensures ∙ c.if-not-contains.false in
    let start = begun c.into_iter-i-iterator.ensures.into_iter_gives c.items-i-items.ensures ∙ rw c.below.ensures at c.difference.ensures in
    sought_all _ _ _ here _ _ (c.loop-i.invariant _ start here) c.in-None.ensures.steps.0
