-- Assumes nothing.
use mathlib.Core.Path.{refl}
use native.Mathlib.Omega.{arith}
use Rattle.quality.specs.Given.{weights_of}
use Rattle.quality.specs.Numbers.{weights_in}
use Rattle.quality.proofs.Limits.{weights_read, weights_not}
use Rattle.quality.proofs.weights.Weights.new.Goals as goal

pub invariant_of-result : goal.invariant_of-result
invariant_of-result c = record { allowed = (weights_read _ _ _ _).1 (omega arith, omega arith, omega arith, omega arith) }

pub returns-then-link-le-MOST_WEIGHT-clause-value : goal.returns-then-link-le-MOST_WEIGHT-clause-value
unfolding weights_in weights_of
returns-then-link-le-MOST_WEIGHT-clause-value c = refl

pub returns-else-role-le-MOST_WEIGHT-clause-when : goal.returns-else-role-le-MOST_WEIGHT-clause-when
returns-else-role-le-MOST_WEIGHT-clause-when c = weights_not _ _ _ _ (λ f. grind (arith, c.else-role-le-MOST_WEIGHT.either))
