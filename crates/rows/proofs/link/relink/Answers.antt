-- The entries of the roles in `rest` still have to be altered.
-- Assumes nothing.
use mathlib.Core.Path.{◌∙◌}
use Prim.Native.Nat.{◌^◌, ◌<◌}
use native.Mathlib.Omega.{arith}
use Rattle.sets.specs.Held.{set_of}
use Rattle.sets.proofs.Written.{words}
use Rattle.sets.proofs.Held.{held128}
use Rattle.rows.proofs.Linking.{relinked_start, relinked_more, relinked_all}
use Rattle.sets.proofs.Taken.{begun}
use Rattle.rows.proofs.link.relink.Goals as goal
use Rattle.rows.proofs.link.relink.Goals.{After-with_or_without}

small : (c : After-with_or_without) → set_of c.with_or_without.result < 2 ^ 128
small c = search (words, held128)

pub loop-j-init : goal.loop-j-init
loop-j-init c = λ f r. r

pub loop-j-preserved : goal.loop-j-preserved
loop-j-preserved c = λ f r.
    let l = c.in-Some.ensures.steps.0.small in
    rw (c.in-Some.ensures.steps.1, c.store.ensures)
    (relinked_more f _ _ _ _ _ _ _ _ l (omega arith) (c.loop-j.invariant f r) c.load-entry.ensures c.contains.ensures c.with_or_without.ensures (small (goal.at.loop-j-preserved c).After-with_or_without))

pub returns : goal.returns
returns c = λ f g turned eo en same. relinked_all f _ _ g _ _
    (c.loop-j.invariant f
    (relinked_start f _ _ _ _ _ _ _ c.requires.i_bound c.difference.ensures c.difference-2.ensures (begun c.into_iter-j-iterator.ensures.into_iter_gives c.items-j-items.ensures ∙ c.union.ensures) turned eo))
    c.in-None.ensures.steps.0 en same
