-- Whoever has a role from k on is met.
-- Assumes nothing.
use Prim.Native.Nat.{◌^◌, ◌<◌}
use native.Mathlib.Omega.{arith}
use Rattle.sets.specs.Held.{set_of}
use Rattle.sets.proofs.Written.{words}
use Rattle.sets.proofs.Held.{held128}
use Rattle.edit_work.proofs.Sampling.{meeting_start, meeting_room, meeting_more, meeting_all}
use Rattle.edit_work.proofs.samples.find_samples.Goals as goal
use Rattle.edit_work.proofs.samples.find_samples.Goals.{After-difference-users}

narrow : (c : After-difference-users) → set_of c.difference-users.result < 2 ^ 128
narrow c = search (words, held128)

pub loop-k-init : goal.loop-k-init
loop-k-init c = let small : set_of c.empty-met.result < 2 ^ 128 = search (words, held128) in meeting_start _ _ _ _ c.empty-met.ensures small

pub add_samples-count-requires : goal.add_samples-count-requires
add_samples-count-requires c = meeting_room _ _ _ _ _ _ _ _ (omega arith) c.loop-k.invariant c.load.ensures c.difference-users.ensures (narrow (goal.at.add_samples-count-requires c).After-difference-users)

pub loop-k-preserved : goal.loop-k-preserved
loop-k-preserved c = meeting_more _ _ _ _ _ _ _ _ (omega arith) c.loop-k.invariant c.load.ensures c.difference-users.ensures (narrow (goal.at.loop-k-preserved c).After-difference-users)
    _ _ _ (c.add_samples-count.ensures.upper_bound, c.add_samples-count.ensures.by_index) c.union-met.ensures

pub returns : goal.returns
returns c =
    let made = meeting_all _ _ _ _ _ _ c.requires (omega arith) c.loop-k.invariant in
    record { upper_bound = made.0; samples_of = made.1 }
