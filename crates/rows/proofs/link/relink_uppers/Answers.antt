-- The roles of `rest` still have their old rows, and the table holds the seniors of the record as it is.
-- Assumes nothing.
use Rattle.sets.proofs.Taken.{begun}
use Rattle.rows.proofs.link.relink_uppers.Goals as goal

pub loop-i-init : goal.loop-i-init
loop-i-init c = λ old st t to q l. (q, l)

pub loop-i-preserved : goal.loop-i-preserved
loop-i-preserved c = λ old st t to q l.
    let was = c.loop-i.invariant old st t to q l in
    rw c.in-Some.ensures.steps.1 (c.relink_upper.ensures old st _ _ t to was.0 was.1)

pub returns : goal.returns
returns c = λ old st t to q l. let b = begun c.into_iter-i-iterator.ensures.into_iter_gives c.items-i-items.ensures in
    rw c.in-None.ensures.steps.0 at (c.loop-i.invariant old st t to (rw b q) l)
