-- `Set::count` meets its contract: the sum of its words' items, which fits.
-- Assumes nothing.
use borrow.Author.Rules.{rules}
use mathlib.Core.Path.{◌≡◌, ◌∙◌}
use native.Mathlib.Omega.{arith}
use Prim.Native.Nat.{◌<◌, ◌^◌}
use lib.Count.{ones}
use Rattle.std.specs.Prelude.{sum_by}
use Rattle.sets.specs.Held.{set_of}
use Rattle.sets.proofs.Compare.{value-count, count_le}
use Rattle.sets.proofs.Written.{words}
use Rattle.sets.proofs.set.Set.count.Goals as goal
use Rattle.sets.proofs.set.Set.count.Goals.{After-sum}
use Rattle.sets.proofs.set.Set.count.Given.{Over}

told : (g : Over) (c : After-sum g) → c.sum.result ≡ sum_by ones c.args.self.words
told g c = search rules

pub sum-requires-clause-fits : goal.sum-requires-clause-fits
sum-requires-clause-fits g c = let most = count_le g.row.WORDS c.args.self.words (search words) (search words) in
    let fits : sum_by ones c.args.self.words < 2 ^ 64 = omega (arith, most) in
    search (rules, fits)

pub returns : goal.returns
unfolding set_of
returns g c = told g (goal.at.returns g c).After-sum ∙ value-count c.args.self.words (search words)
