-- The roles from number j on still have their old members.
-- Assumes nothing.
use mathlib.Core.Path.{◌≡◌, ◌∙◌}
use native.Mathlib.Omega.{arith}
use Rattle.sets.specs.Held.{set_of}
use Rattle.rows.proofs.Rewriting.{linked_still, from_start, from_more, from_all}
use Rattle.rows.proofs.lower.fill_lowers.Goals as goal

pub loop-j-init : goal.loop-j-init
loop-j-init c = λ old st p to l q. (rw (from_start (set_of c.args.standing)) at q, l)

pub loop-j-preserved : goal.loop-j-preserved
loop-j-preserved c = λ old st p to l q.
    let was = c.loop-j.invariant old st p to l q in
    let now = c.rewrite_lower.ensures old st p _ to was.1 was.0 in
    (rw (← from_more _ c.loop-j.j) now, linked_still old st 0 p _ p _ _ _ _ was.0 now was.1)

pub returns : goal.returns
returns c = λ old st p to count l q. let e : c.args.c ≡ c.loop-j.j = omega arith in
    rw (from_all st _ _ _ to (count ∙ e)) at (c.loop-j.invariant old st p to l q)
