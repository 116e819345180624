-- What is left of s less the sets of js is what is left now less those of the rest.
-- Assumes nothing.
use mathlib.Core.Path.{refl, sym, ◌∙◌, ap, ap₂}
use Rattle.sets.specs.Held.{set_of}
use Rattle.sets.proofs.Written.{words}
use Rattle.sets.proofs.Held.{held}
use Rattle.sets.proofs.Order.{∖-lt}
use Rattle.hierarchy.specs.Tables.{less_all}
use Rattle.hierarchy.proofs.Sieving.{less_one, less_none}
use Rattle.sets.proofs.Taken.{begun}
use Rattle.hierarchy.proofs.sieve.less.Goals as goal

pub loop-j-init : goal.loop-j-init
loop-j-init g c = (held c.args.s (search words), refl)

pub loop-j-preserved : goal.loop-j-preserved
loop-j-preserved g c = let inv = c.loop-j.invariant in let step = c.in-Some.ensures.steps in (
  rw c.difference-left.ensures (∖-lt _ _ _ inv.0),
  inv.1 ∙ less_one g.row.WORDS _ _ _ _ _ step.0.small step.0.there c.load.ensures
      ∙ sym (ap₂ (less_all g.row.WORDS _) c.difference-left.ensures step.1),
)

pub returns : goal.returns
returns g c = let inv = c.loop-j.invariant in
    let all = begun c.into_iter-j-iterator.ensures.into_iter_gives c.items-j-items.ensures in
    less_none g.row.WORDS _ _ _ inv.0 c.in-None.ensures.steps.0 ∙ sym inv.1 ∙ ap (less_all g.row.WORDS c.args.table.now (set_of c.args.s)) all
