-- The three sums together.
-- Assumes nothing.
use borrow.Author.Rules.{rules}
use mathlib.Core.Path.{refl, ◌∙◌, ap}
use mathlib.Core.List.{List}
use Prim.Native.Nat.{ℕ, ◌+◌, ◌*◌, ◌^◌, ◌<◌}
use native.Mathlib.Omega.{arith}
use lib.ListN.{take, drop}
use Rattle.sets.specs.Held.{set_of}
use Rattle.sets.proofs.Written.{words}
use Rattle.sets.proofs.Held.{held128}
use Rattle.sets.specs.Sets.{◌∖◌, single}
use Rattle.model.specs.Lists.{set_at}
use Rattle.model.specs.Record.{sets_start, juniors_start}
use Rattle.edit_trials.specs.Trying.{other_seniors, other_juniors}
use Rattle.edit_trials.proofs.Adding.{taken_fits, taken_summed, taken_few}
use Rattle.edit_trials.proofs.Counting.{taken_counts}
use Rattle.edit_trials.proofs.taken.taken.Goals as goal
use Rattle.edit_trials.proofs.taken.taken.Goals.{Start}

-- the other juniors whose roles below the code takes away for a link from role i
abbrev linked : List ℕ → ℕ → ℕ → ℕ
linked ws k i = set_at 2 ws (juniors_start + 2 * i) ∖ single k

above : (c : Start) → set_of c.args.links.above < 2 ^ 128
above c = search (words, held128)

below : (c : Start) → set_of c.args.links.below < 2 ^ 128
below c = search (words, held128)

pub sum-members-requires-clause-fits : goal.sum-members-requires-clause-fits
unfolding other_seniors
sum-members-requires-clause-fits c =
    taken_fits 2 c.args.index.now.users (set_of c.load-users.result) (other_seniors c.args.seniors.now c.args.k) c.map.result _ _ (ap (λ i. set_of i.rest) c.map.ensures.source ∙ c.items.ensures) c.heirs.ensures
    c.map.ensures.closure (λ i r q t. search rules) (below (goal.at.sum-members-requires-clause-fits c).Start) (omega arith)

pub sum-permissions-requires-clause-fits : goal.sum-permissions-requires-clause-fits
unfolding other_juniors
sum-permissions-requires-clause-fits c =
    taken_fits 4 (take 512 (drop sets_start c.args.rec.now)) (set_of c.load-own.result) (other_juniors c.args.rec.now c.args.k) c.map-2.result _ _ (ap (λ i. set_of i.rest) c.map-2.ensures.source ∙ c.items-2.ensures) c.heirs-2.ensures
    c.map-2.ensures.closure (λ i r q t. search rules) (above (goal.at.sum-permissions-requires-clause-fits c).Start) (omega arith)

pub sum-links-requires-clause-fits : goal.sum-links-requires-clause-fits
sum-links-requires-clause-fits c =
    taken_fits 2 c.args.index.now.lower (set_of c.args.links.below) (linked c.args.rec.now c.args.k) c.map-3.result _ _ (ap (λ i. set_of i.rest) c.map-3.ensures.source ∙ c.items-3.ensures) c.heirs-3.ensures
    c.map-3.ensures.closure (λ i r q t. search rules) (above (goal.at.sum-links-requires-clause-fits c).Start) (omega arith)

pub returns : goal.returns
unfolding other_seniors other_juniors
returns c =
    let members = taken_summed 2 c.args.index.now.users (set_of c.load-users.result) (other_seniors c.args.seniors.now c.args.k) c.map.result _ _ (ap (λ i. set_of i.rest) c.map.ensures.source ∙ c.items.ensures) c.heirs.ensures
    c.map.ensures.closure (λ i r q t. search rules) _ c.sum-members.ensures.ran in
    let permissions = taken_summed 4 (take 512 (drop sets_start c.args.rec.now)) (set_of c.load-own.result) (other_juniors c.args.rec.now c.args.k) c.map-2.result _ _ (ap (λ i. set_of i.rest) c.map-2.ensures.source ∙ c.items-2.ensures) c.heirs-2.ensures
    c.map-2.ensures.closure (λ i r q t. search rules) _ c.sum-permissions.ensures.ran in
    let links = taken_summed 2 c.args.index.now.lower (set_of c.args.links.below) (linked c.args.rec.now c.args.k) c.map-3.result _ _ (ap (λ i. set_of i.rest) c.map-3.ensures.source ∙ c.items-3.ensures) c.heirs-3.ensures
    c.map-3.ensures.closure (λ i r q t. search rules) _ c.sum-links.ensures.ran in
    record {
      few = record {
        roles = omega arith;
        members = taken_few _ _ _ _ _ _ members;
        permissions = taken_few _ _ _ _ _ _ permissions;
        links = taken_few _ _ _ _ _ _ links;
      };
      result_value = taken_counts _ _ _ _ _ _ _ _ _ c.load-users.ensures c.load-own.ensures refl members permissions links;
    }
