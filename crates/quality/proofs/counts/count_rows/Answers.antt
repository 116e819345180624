-- The four counts, each over a part of the record.
-- Assumes nothing.
use borrow.Author.Rules.{rules}
use mathlib.Core.Path.{◌∙◌, ap}
use native.Mathlib.Omega.{arith}
use lib.Count.{ones, ones-le}
use Prim.Native.Nat.{ℕ, ◌+◌, ◌*◌, ◌^◌, ◌<◌}
use Rattle.sets.specs.Held.{set_of}
use Rattle.sets.proofs.Written.{words}
use Rattle.sets.proofs.Held.{held128}
use Rattle.model.specs.Record.{juniors_start, members_start, permissions_start}
use Rattle.quality.proofs.Tally.{rows_fit, rows_few, rows_summed, counts_found}
use Rattle.quality.proofs.counts.count_rows.Goals as goal

-- where the row of role k stands
abbrev members_at : ℕ → ℕ
members_at k = members_start + 2 * k

abbrev permissions_at : ℕ → ℕ
permissions_at k = permissions_start + 4 * k

abbrev links_at : ℕ → ℕ
links_at k = juniors_start + 2 * k

pub sum-members-requires-clause-fits : goal.sum-members-requires-clause-fits
sum-members-requires-clause-fits c =
    rows_fit 2 c.args.rec.now members_at _ c.requires.rec_bound c.fits-rec c.map.result c.map.ensures.source c.map.ensures.closure (λ k r q t. search rules) (omega arith)

pub sum-permissions-requires-clause-fits : goal.sum-permissions-requires-clause-fits
sum-permissions-requires-clause-fits c =
    rows_fit 4 c.args.rec.now permissions_at _ c.requires.rec_bound c.fits-rec c.map-2.result c.map-2.ensures.source c.map-2.ensures.closure (λ k r q t. search rules) (omega arith)

pub sum-links-requires-clause-fits : goal.sum-links-requires-clause-fits
sum-links-requires-clause-fits c =
    rows_fit 2 c.args.rec.now links_at _ c.requires.rec_bound c.fits-rec c.map-3.result c.map-3.ensures.source c.map-3.ensures.closure (λ k r q t. search rules) (omega arith)

pub returns : goal.returns
returns c =
    let small : set_of c.load.result < 2 ^ 128 = search (words, held128) in
    let most = ones-le 128 _ small in
    let few = c.requires.rec_bound in
    let members = rows_summed 2 c.args.rec.now members_at _ few c.fits-rec c.map.result c.map.ensures.source c.map.ensures.closure (λ k r q t. search rules) _ c.sum-members.ensures.ran in
    let permissions = rows_summed 4 c.args.rec.now permissions_at _ few c.fits-rec c.map-2.result c.map-2.ensures.source c.map-2.ensures.closure (λ k r q t. search rules) _ c.sum-permissions.ensures.ran in
    let links = rows_summed 2 c.args.rec.now links_at _ few c.fits-rec c.map-3.result c.map-3.ensures.source c.map-3.ensures.closure (λ k r q t. search rules) _ c.sum-links.ensures.ran in
    record {
      result_value = counts_found _ _ _ _ _ (c.count-roles.ensures ∙ ap ones c.load.ensures) members permissions links;
      few = record {
        roles = omega arith;
        members = rw members (rows_few 2 c.args.rec.now members_at _ few c.fits-rec);
        permissions = rw permissions (rows_few 4 c.args.rec.now permissions_at _ few c.fits-rec);
        links = rw links (rows_few 2 c.args.rec.now links_at _ few c.fits-rec);
      };
    }
