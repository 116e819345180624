-- The roles that are not in `rest` have their entries.
-- Assumes nothing.
use mathlib.Core.Path.{◌≡◌, ◌∙◌, ap}
use Prim.Native.Nat.{ℕ, ◌^◌, ◌<◌}
use native.Mathlib.Omega.{arith}
use Rattle.sets.specs.Held.{set_of}
use Rattle.sets.specs.Sets.{◌∩◌, ◌∖◌, single}
use Rattle.sets.proofs.Truth.{So-not}
use Rattle.sets.proofs.Members.{has-zero}
use Rattle.sets.proofs.Order.{∖-iff}
use Rattle.sets.proofs.Written.{words}
use Rattle.sets.proofs.Held.{held128}
use Rattle.tables.proofs.Tables.{held_more}
use Rattle.indexes.specs.Tables.{shared_by}
use Rattle.indexes.proofs.Owning.{shared_is, every_iff, lowered_start, to_do}
use Rattle.sets.proofs.Taken.{begun}
use Rattle.indexes.proofs.shared.fill_shared.Goals as goal

pub loop-k-init : goal.loop-k-init
loop-k-init c = (to_do _ _ _ _ c.requires c.below.ensures (begun c.into_iter-k-iterator.ensures.into_iter_gives c.items-k-items.ensures ∙ c.difference.ensures), λ st known lim count hr hu h begun. begun)

pub loop-k-preserved : goal.loop-k-preserved
loop-k-preserved c = let item = c.in-Some.ensures.steps.0 in
    let inv = c.loop-k.invariant in
    let small : set_of c.remove.result < 2 ^ 128 = search (words, held128) in
    let lk = inv.0 _ item.there in (
      λ i t. inv.0 i ((∖-iff _ _ i).0 (rw c.in-Some.ensures.steps.1 at t)).0,
      λ st known lim count hr hu h begun.
          rw (c.in-Some.ensures.steps.1, c.store.ensures)
          (held_more _ _ _ _ _ _ (inv.1 st known lim count hr hu h begun) (let l = item.small in omega arith) small
          (shared_is st lim _ c.args.roles.now c.args.users.now known _ h hr _ (rw count lk) (hu _ lk) _
          (c.remove.ensures ∙ ap (λ (x : ℕ). x ∖ single c.in-Some.k)
          (c.shared.ensures ∙ ap (shared_by c.args.roles.now)
          (c.intersection-asked.ensures ∙ ap (λ (x : ℕ). x ∩ set_of c.args.own.users)
          c.load.ensures))))),
    )

pub returns : goal.returns
returns c = let z : set_of c.loop-k.k-iterator.rest ≡ 0 = c.in-None.ensures.steps.0 in
    λ st lim count hr hu h i l.
    c.loop-k.invariant.1 st _ lim count hr hu h
    (rw c.below.ensures at (lowered_start st _ _ _ _ _ _ h (begun c.into_iter-k-iterator.ensures.into_iter_gives c.items-k-items.ensures ∙ c.difference.ensures))) i
    ((every_iff _ c.requires i).1 l) (λ t. So-not (has-zero i) (rw z at t))
