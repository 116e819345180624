-- Both products can be formed.
-- Assumes nothing.
use native.Mathlib.Omega.{arith}
use Rattle.edit_turn.proofs.Turns.{denominator_times, numerator_times}
use Rattle.edit_turn.proofs.tolerated.Goals as goal

pub overflow_mul-result : goal.overflow_mul-result
overflow_mul-result c = let p = denominator_times c.args.t _ c.requires.quality_le_most_quality in omega arith

pub overflow_mul-result-2 : goal.overflow_mul-result-2
overflow_mul-result-2 c = let p = numerator_times c.args.t _ c.requires.reference_le_most_quality in omega arith
