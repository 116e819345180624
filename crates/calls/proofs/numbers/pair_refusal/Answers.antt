-- The check by its sides.
-- Assumes nothing.
use mathlib.Core.Path.{sym}
use native.Mathlib.Omega.{arith}
use Rattle.model.proofs.Refusals.{pair_check}
use borrow.Author.Rules.{rules}
use Rattle.calls.proofs.numbers.pair_refusal.Goals as goal

pub returns-then-n-u : goal.returns-then-n-u
returns-then-n-u c = sym ((pair_check _ _ _ _).stops (λ h. let a = h.0 in let b = h.1 in let z : ⊥ = omega arith in z))

pub returns : goal.returns
returns c = sym ((pair_check _ _ _ _).passes (search rules, search rules))
