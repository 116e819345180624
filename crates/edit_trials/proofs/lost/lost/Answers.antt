-- The three sums together.
-- Assumes nothing.
use borrow.Author.Rules.{rules}
use mathlib.Core.Path.{refl, ◌∙◌, ap}
use Prim.Native.Nat.{◌^◌, ◌<◌}
use native.Mathlib.Omega.{arith}
use Rattle.sets.specs.Held.{set_of}
use Rattle.sets.proofs.Written.{words}
use Rattle.sets.proofs.Held.{held128, held256}
use Rattle.model.specs.Record.{permissions_start, members_start, juniors_start}
use Rattle.edit_trials.proofs.Adding.{shared_fits, shared_summed}
use Rattle.edit_trials.proofs.Counting.{lost_all}
use Rattle.edit_trials.proofs.lost.lost.Goals as goal
use Rattle.edit_trials.proofs.lost.lost.Goals.{Start}

above : (c : Start) → set_of c.args.links.above < 2 ^ 128
above c = search (words, held128)

below : (c : Start) → set_of c.args.links.below < 2 ^ 128
below c = search (words, held128)

pub sum-members-requires-clause-fits : goal.sum-members-requires-clause-fits
sum-members-requires-clause-fits c =
    shared_fits 128 2 members_start c.args.rec.now (set_of c.load-users.result) c.map.result _ (ap (λ i. set_of i.rest) c.map.ensures.source ∙ c.items.ensures) c.map.ensures.closure
    (λ i r q t. search rules) (below (goal.at.sum-members-requires-clause-fits c).Start) (search (words, held128)) (omega arith)

pub sum-permissions-requires-clause-fits : goal.sum-permissions-requires-clause-fits
sum-permissions-requires-clause-fits c =
    shared_fits 256 4 permissions_start c.args.rec.now (set_of c.load-own.result) c.map-2.result _ (ap (λ i. set_of i.rest) c.map-2.ensures.source ∙ c.items-2.ensures) c.map-2.ensures.closure
    (λ i r q t. search rules) (above (goal.at.sum-permissions-requires-clause-fits c).Start) (search (words, held256)) (omega arith)

pub sum-links-requires-clause-fits : goal.sum-links-requires-clause-fits
sum-links-requires-clause-fits c =
    shared_fits 128 2 juniors_start c.args.rec.now (set_of c.args.links.below) c.map-3.result _ (ap (λ i. set_of i.rest) c.map-3.ensures.source ∙ c.items-3.ensures) c.map-3.ensures.closure
    (λ i r q t. search rules) (above (goal.at.sum-links-requires-clause-fits c).Start) (below (goal.at.sum-links-requires-clause-fits c).Start) (omega arith)

pub returns : goal.returns
returns c =
    let members = shared_summed 128 2 members_start c.args.rec.now (set_of c.load-users.result) c.map.result _ (ap (λ i. set_of i.rest) c.map.ensures.source ∙ c.items.ensures) c.map.ensures.closure
    (λ i r q t. search rules) _ c.sum-members.ensures.ran in
    let permissions = shared_summed 256 4 permissions_start c.args.rec.now (set_of c.load-own.result) c.map-2.result _ (ap (λ i. set_of i.rest) c.map-2.ensures.source ∙ c.items-2.ensures) c.map-2.ensures.closure
    (λ i r q t. search rules) _ c.sum-permissions.ensures.ran in
    let links = shared_summed 128 2 juniors_start c.args.rec.now (set_of c.args.links.below) c.map-3.result _ (ap (λ i. set_of i.rest) c.map-3.ensures.source ∙ c.items-3.ensures) c.map-3.ensures.closure
    (λ i r q t. search rules) _ c.sum-links.ensures.ran in
    lost_all _ _ _ _ _ _ _ _ c.load-users.ensures c.load-own.ensures refl members permissions links
