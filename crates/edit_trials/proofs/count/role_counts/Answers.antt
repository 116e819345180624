-- Each part is a count of ones.
-- Assumes nothing.
use mathlib.Core.Path.{refl, ap₂}
use Prim.Native.Nat.{◌+◌, ◌^◌, ◌<◌}
use native.Mathlib.Omega.{arith}
use Rattle.sets.specs.Held.{set_of}
use Rattle.sets.proofs.Written.{words}
use Rattle.sets.proofs.Held.{held128, held256}
use Rattle.edit_trials.proofs.Counting.{count_small, role_all}
use Rattle.edit_trials.proofs.count.role_counts.Goals as goal
use Rattle.edit_trials.proofs.count.role_counts.Goals.{Start}

members : (c : Start) → set_of c.args.members < 2 ^ 128
members c = search (words, held128)

permissions : (c : Start) → set_of c.args.permissions < 2 ^ 256
permissions c = search (words, held256)

above : (c : Start) → set_of c.args.links.above < 2 ^ 128
above c = search (words, held128)

below : (c : Start) → set_of c.args.links.below < 2 ^ 128
below c = search (words, held128)

pub overflow_add-neighbours : goal.overflow_add-neighbours
overflow_add-neighbours c = let t = count_small 128 _ _ (below (goal.at.overflow_add-neighbours c).Start) c.count.ensures in
    let s = count_small 128 _ _ (above (goal.at.overflow_add-neighbours c).Start) c.count-2.ensures in
    omega arith

pub returns : goal.returns
returns c = let t = count_small 128 _ _ (below (goal.at.returns c).Start) c.count.ensures in
    let s = count_small 128 _ _ (above (goal.at.returns c).Start) c.count-2.ensures in
    let u = count_small 128 _ _ (members (goal.at.returns c).Start) c.count-3.ensures in
    let p = count_small 256 _ _ (permissions (goal.at.returns c).Start) c.count-4.ensures in record { few = record { roles = omega arith; members = omega arith; permissions = omega arith; links = omega arith }; result_value = role_all _ _ _ _ _ refl c.count-3.ensures c.count-4.ensures (ap₂ ◌+◌ c.count.ensures c.count-2.ensures) }
