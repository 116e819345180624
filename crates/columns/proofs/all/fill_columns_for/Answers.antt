-- The items that are not in `rest` have their entries.
-- Assumes nothing.
use Prim.Native.Nat.{◌+◌, ◌*◌, ◌^◌, ◌≤◌, ◌<◌}
use native.Mathlib.Omega.{arith}
use borrow.Author.Rules.{rules}
use lib.ListN.{length}
use Rattle.sets.specs.Held.{set_of}
use Rattle.sets.proofs.Held.{held128}
use Rattle.sets.proofs.Taken.{begun}
use Rattle.sets.proofs.Written.{words}
use Rattle.columns.proofs.Filling.{filling_none, filling_more, filled_for}
use Rattle.columns.proofs.all.fill_columns_for.Goals as goal
use Rattle.columns.proofs.all.fill_columns_for.Goals.{After-column}
use Rattle.columns.proofs.all.fill_columns_for.Given.{Over}

room : (g : Over) (c : After-column g) → 2 * c.in-Some.k + 2 ≤ length c.args.out.now
room g c = c.requires.2 _ (rw (begun c.into_iter-k-iterator.ensures.into_iter_gives c.items-k-items.ensures) at (c.loop-k.invariant.within _ c.in-Some.ensures.steps.0.there))

pub loop-k-init : goal.loop-k-init
loop-k-init g c = filling_none _ _ _

pub store-requires : goal.store-requires
store-requires g c = (search rules, omega (arith, room g c, c.loop-k.invariant.long))

pub loop-k-preserved : goal.loop-k-preserved
loop-k-preserved g c = let here = (goal.at.loop-k-preserved g c).After-column in
    let small : set_of here.column.result < 2 ^ 128 = search (words, held128) in
    rw (c.in-Some.ensures.steps.1, c.store.ensures)
    (filling_more _ _ _ _ _ _ _ c.loop-k.invariant c.in-Some.ensures.steps.0.there (room g here) small c.column.ensures)

pub returns : goal.returns
returns g c = rw (begun c.into_iter-k-iterator.ensures.into_iter_gives c.items-k-items.ensures) at (filled_for _ _ _ _ _ c.loop-k.invariant c.in-None.ensures.steps.0)
