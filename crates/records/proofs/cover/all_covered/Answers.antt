-- Each user is asked, by `all_told`.
-- Assumes nothing.
use borrow.Author.Rules.{rules}
use mathlib.Core.Path.{refl, sym, ◌∙◌}
use native.Mathlib.Omega.{arith}
use Rattle.std.proofs.lemmas.Iterator.{YieldsList-from_range}
use Rattle.sets.proofs.Asking.{all_told}
use Rattle.records.specs.Records.{each_grant_covered}
use Rattle.records.proofs.Covering.{users_counted}
use Rattle.records.proofs.cover.all_covered.Goals as goal

pub returns : goal.returns
returns c = λ st src same ix.
    all_told _ (each_grant_covered st) _ _ _ c.all.ensures.ran (YieldsList-from_range 0 _ _ refl (omega arith))
    (λ u t q k. (search rules, λ lu. search (rules, c.load-standing.ensures ∙ same)))
    ∙ sym (users_counted st _ _ _ _ src)
