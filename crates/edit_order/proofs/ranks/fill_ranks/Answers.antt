-- The roles that are not in `rest` are at their ranks.
-- Assumes nothing.
use mathlib.Core.Path.{◌≡◌, sym, ◌∙◌}
use Prim.Native.Nat.{◌≤◌}
use native.Mathlib.Nat.{le_trans}
use native.Mathlib.Omega.{arith}
use lib.ListN.{length}
use Rattle.sets.proofs.Taken.{begun}
use Rattle.edit_order.proofs.Sorting.{rank_is, rank_set, ranks_length, ranks_all, ranks_none, sorting_start, sorting_below, sorting_more, sorting_all}
use Rattle.edit_order.proofs.ranks.fill_ranks.Goals as goal
use Rattle.edit_order.proofs.ranks.fill_ranks.Goals.{Start}

few : (c : Start) → c.args.c ≤ 128
few c = let e = c.requires.prepared_for.1 in let f = c.requires.prepared_for.2.reach.few in omega arith

pub loop-k-init : goal.loop-k-init
loop-k-init c = rw (begun c.into_iter-k-iterator.ensures.into_iter_gives c.items-k-items.ensures) (sorting_start _ _ _ _ _ (ranks_all _) (λ q l. ranks_none _ c.empty-ranks.ensures q (le_trans l (few (goal.at.loop-k-init c).Start))))

pub redundancy-q-requires-clause-k_lt_c : goal.redundancy-q-requires-clause-k_lt_c
redundancy-q-requires-clause-k_lt_c c = sorting_below _ _ _ _ _ _ c.loop-k.invariant _ c.requires.worklist_bound c.in-Some.ensures.steps.0.there

pub loop-k-preserved : goal.loop-k-preserved
loop-k-preserved c = let item = c.in-Some.ensures.steps.0 in
    let size : length c.loop-k.ranks ≡ 129 = sym (ranks_length c.loop-k.ranks) ∙ c.loop-k.invariant.size in
    let q : c.redundancy-q.result ≤ 128 = le_trans c.redundancy-q.ensures.upper_bound (few (goal.at.loop-k-preserved c).Start) in
    rw (rank_set c.loop-k.ranks c.redundancy-q.result c.insert.result)
    (sorting_more _ _ _ _ _ _ c.loop-k.invariant _ _ _ _ item.there item.small (few (goal.at.loop-k-preserved c).Start)
    (c.redundancy-q.ensures.upper_bound, c.redundancy-q.ensures.value) (sym (rank_is c.loop-k.ranks _ _ (omega arith))) c.insert.ensures
    _ c.in-Some.ensures.steps.1)

pub returns : goal.returns
returns c = sorting_all _ _ _ _ _ _ c.loop-k.invariant c.in-None.ensures.steps.0
