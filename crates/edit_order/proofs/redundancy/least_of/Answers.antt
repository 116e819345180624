-- The first holders that are not in `rest` are taken into account.
-- Assumes nothing.
use mathlib.Core.Path.{◌≡◌, ◌∙◌, ap}
use Prim.Native.Nat.{ℕ}
use Rattle.sets.specs.Held.{set_of}
use Rattle.sets.specs.Sets.{◌∩◌}
use Rattle.edit_work.specs.Work.{entries}
use Rattle.edit_order.proofs.Walking.{HolderAsked, asked, asking_start, asking_more, asking_fewer, asking_stop, asking_all}
use Rattle.edit_order.proofs.redundancy.least_of.Goals as goal
use Rattle.edit_order.proofs.redundancy.least_of.Goals.{After-intersection-own, After-min-least}

own-roles : (c : After-intersection-own) → set_of c.intersection-own.result ≡ entries c.args.work.now.samples c.args.i ∩ set_of c.args.counted
own-roles c = c.intersection-own.ensures ∙ ap (λ (x : ℕ). x ∩ set_of c.args.counted) c.load.ensures

-- one holder is asked
one : (c : After-min-least)
    → HolderAsked c.args.work.now (set_of c.intersection-own.result) c.loop-g.least (set_of c.loop-g.rest) c.in-Some.g c.min-least.result
one c =
    asked _ _ _ _ _ _ _ _ _ c.in-Some.ensures.told.there c.load-in-Some.ensures
    c.intersection.ensures c.count-covering.ensures c.min-least.ensures

pub loop-g-init : goal.loop-g-init
loop-g-init c = asking_start _ _ _ _

pub returns-then-least-floor : goal.returns-then-least-floor
returns-then-least-floor c =
    rw (own-roles (goal.at.returns-then-least-floor c).After-intersection-own) at (asking_stop _ _ _ _ _ _ c.requires.prepared c.loop-g.invariant _ _ (one (goal.at.returns-then-least-floor c).After-min-least) _ c.if-least-floor.true)

pub loop-g-smaller : goal.loop-g-smaller
loop-g-smaller c = rw c.difference-rest.ensures (asking_fewer _ _ _ _ _ _ c.requires.prepared c.loop-g.invariant _ _ (one (goal.at.loop-g-smaller c).After-min-least) _ c.load-in-Some-2.ensures)

pub loop-g-preserved : goal.loop-g-preserved
loop-g-preserved c = asking_more _ _ _ _ _ _ c.requires.prepared c.loop-g.invariant _ _ (one (goal.at.loop-g-preserved c).After-min-least) _ _ c.load-in-Some-2.ensures c.difference-rest.ensures

pub returns : goal.returns
returns c = rw (own-roles (goal.at.returns c).After-intersection-own) at
    (asking_all _ _ _ _ _ _ c.requires.prepared c.loop-g.invariant c.args.floor c.in_default.ensures.told)
