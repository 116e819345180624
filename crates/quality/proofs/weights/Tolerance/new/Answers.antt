-- Assumes nothing.
use mathlib.Core.Path.{refl}
use native.Mathlib.Omega.{arith}
use Rattle.quality.specs.Given.{tolerance_of}
use Rattle.quality.specs.Numbers.{tolerance_in}
use Rattle.quality.proofs.Limits.{tolerance_read, tolerance_not}
use Rattle.quality.proofs.weights.Tolerance.new.Goals as goal

pub returns-then-b-lt1-clause-when : goal.returns-then-b-lt1-clause-when
returns-then-b-lt1-clause-when c = tolerance_not _ _ (λ f. grind (arith, c.then-b-lt1.either))

pub invariant_of-result : goal.invariant_of-result
invariant_of-result c = record { allowed = (tolerance_read _ _).1 (omega arith, omega arith, omega arith, omega arith) }

pub returns-then-a-twice-clause-value : goal.returns-then-a-twice-clause-value
unfolding tolerance_in tolerance_of
returns-then-a-twice-clause-value c = refl

pub returns-else-b-a-clause-when : goal.returns-else-b-a-clause-when
returns-else-b-a-clause-when c = tolerance_not _ _ (λ f. grind (arith, c.else-b-a.either))
