-- The roles from number k on still have their old rows.
-- Assumes nothing.
use mathlib.Core.Path.{◌≡◌, ◌∙◌}
use native.Mathlib.Omega.{arith}
use Rattle.sets.specs.Held.{set_of}
use Rattle.rows.proofs.Rewriting.{from_start, from_more, from_all}
use Rattle.rows.proofs.upper.fill_uppers.Goals as goal

pub loop-k-init : goal.loop-k-init
loop-k-init c = λ old st t to q. rw (from_start (set_of c.args.standing)) at q

pub loop-k-preserved : goal.loop-k-preserved
loop-k-preserved c = λ old st t to q. rw (← from_more _ c.loop-k.k) (c.rewrite_upper.ensures old st _ _ t to (c.loop-k.invariant old st t to q))

pub returns : goal.returns
returns c = λ old st t to count q. let e : c.args.c ≡ c.loop-k.k = omega arith in
    rw (from_all st _ _ _ to (count ∙ e)) at (c.loop-k.invariant old st t to q)
