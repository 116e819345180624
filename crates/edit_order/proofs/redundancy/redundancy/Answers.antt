-- The samples that are not in `samples` are taken into account.
-- Assumes nothing.
use mathlib.Core.Path.{◌∙◌, ap}
use Prim.Native.Nat.{ℕ}
use Rattle.sets.specs.Held.{set_of}
use Rattle.sets.specs.Sets.{◌∩◌}
use Rattle.edit_order.proofs.Walking.{WalkBegun, holders_below, walking_start, walking_more, walking_fewer, walking_stop, walking_all}
use Rattle.edit_order.proofs.redundancy.redundancy.Goals as goal
use Rattle.edit_order.proofs.redundancy.redundancy.Goals.{At-loop-i, Start}

begun : (c : At-loop-i)
    → WalkBegun c.args.work.now c.args.c c.args.k (set_of c.intersection-holders.result) (set_of c.load-samples.result)
begun c =
    record {
      given = c.requires.prepared_for;
      low = c.requires.k_lt_c;
      holders = c.intersection-holders.ensures ∙ ap (λ (x : ℕ). x ∩ set_of c.args.work.now.first) c.load.ensures;
      samples = c.load-samples.ensures;
    }

pub loop-i-init : goal.loop-i-init
loop-i-init c = walking_start _ _ _ _ _

pub least_of-least-requires : goal.least_of-least-requires
least_of-least-requires c = record { i_bound = c.in-Some.ensures.told.small; prepared = holders_below _ _ _ _ _ (begun (goal.at.least_of-least-requires c).At-loop-i) }

pub returns-then-least-floor : goal.returns-then-least-floor
returns-then-least-floor c =
    let made = walking_stop _ _ _ _ _ (begun (goal.at.returns-then-least-floor c).At-loop-i) _ _ _ c.loop-i.invariant _ _ _ c.in-Some.ensures.told.there c.least_of-least.ensures
    c.floor_of-floor.ensures c.if-least-floor.true in
    record { upper_bound = made.0; value = made.1 }

pub loop-i-smaller : goal.loop-i-smaller
loop-i-smaller c = rw c.difference-samples.ensures
    (walking_fewer _ _ _ _ _ (begun (goal.at.loop-i-smaller c).At-loop-i) _ _ _ c.loop-i.invariant _ _ _ c.in-Some.ensures.told.there c.least_of-least.ensures _ c.load-in-Some.ensures)

pub loop-i-preserved : goal.loop-i-preserved
loop-i-preserved c = walking_more _ _ _ _ _ (begun (goal.at.loop-i-preserved c).At-loop-i) _ _ _ c.loop-i.invariant _ _ _ c.in-Some.ensures.told.there c.least_of-least.ensures
    _ _ c.if-least-floor.false c.load-in-Some.ensures c.difference-samples.ensures

pub returns : goal.returns
returns c =
    let made = walking_all _ _ _ _ _ (begun (goal.at.returns c).At-loop-i) _ _ _ c.loop-i.invariant c.in_default.ensures.told in
    record { upper_bound = made.0; value = made.1 }
