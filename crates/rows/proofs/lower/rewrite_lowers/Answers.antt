-- The roles of `rest` still have their old members.
-- Assumes nothing.
use Rattle.rows.proofs.Rewriting.{linked_still}
use Rattle.sets.proofs.Taken.{begun}
use Rattle.rows.proofs.lower.rewrite_lowers.Goals as goal

pub loop-j-init : goal.loop-j-init
loop-j-init c = λ old st p to l q. (q, l)

pub loop-j-preserved : goal.loop-j-preserved
loop-j-preserved c = λ old st p to l q.
    let was = c.loop-j.invariant old st p to l q in
    let now = c.rewrite_lower.ensures old st p _ to was.1 was.0 in
    (rw c.in-Some.ensures.steps.1 now, linked_still old st 0 p _ p _ _ _ _ was.0 now was.1)

pub returns : goal.returns
returns c = λ old st p to l q. let b = begun c.into_iter-j-iterator.ensures.into_iter_gives c.items-j-items.ensures in
    rw c.in-None.ensures.steps.0 at (c.loop-j.invariant old st p to l (rw b q))
