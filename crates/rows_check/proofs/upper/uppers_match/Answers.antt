-- Each role is asked, by `told_by_all`.
-- Assumes nothing.
use borrow.Author.Rules.{rules}
use mathlib.Core.Path.{refl}
use native.Mathlib.Omega.{arith}
use Rattle.std.proofs.lemmas.Iterator.{YieldsList-from_range}
use Rattle.sets.proofs.Asking.{told_by_all}
use Rattle.rows_check.specs.Held.{UpperHeld}
use Rattle.rows_check.proofs.upper.uppers_match.Goals as goal

pub returns : goal.returns
returns c = λ st to h. told_by_all c.args.c (UpperHeld st c.args.rec.now) _ _ _ c.all.ensures.ran (YieldsList-from_range 0 _ _ refl (omega arith)) (λ x t q k. (search rules, λ b. search rules))
