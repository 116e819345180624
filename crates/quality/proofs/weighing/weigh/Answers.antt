-- No product or sum wraps.
-- Assumes nothing.
use mathlib.Core.Path.{refl}
use native.Mathlib.Omega.{arith}
use Rattle.model.specs.Quality as model
use Rattle.quality.specs.Numbers.{counts_in, weights_in}
use Rattle.quality.proofs.Limits.{Products, products}
use Rattle.quality.proofs.weighing.weigh.Goals as goal
use Rattle.quality.proofs.weighing.weigh.Goals.{Start}

-- each product is small
small : (c : Start) → Products c.args.q c.args.w
small c = products _ _ c.requires

pub overflow_mul-result : goal.overflow_mul-result
overflow_mul-result c = let p = small (goal.at.overflow_mul-result c).Start in omega arith

pub overflow_mul-result-2 : goal.overflow_mul-result-2
overflow_mul-result-2 c = let p = small (goal.at.overflow_mul-result-2 c).Start in omega arith

pub overflow_add-result : goal.overflow_add-result
overflow_add-result c = let p = small (goal.at.overflow_add-result c).Start in omega arith

pub overflow_mul-result-3 : goal.overflow_mul-result-3
overflow_mul-result-3 c = let p = small (goal.at.overflow_mul-result-3 c).Start in omega arith

pub overflow_add-result-2 : goal.overflow_add-result-2
overflow_add-result-2 c = let p = small (goal.at.overflow_add-result-2 c).Start in omega arith

pub overflow_mul-result-4 : goal.overflow_mul-result-4
overflow_mul-result-4 c = let p = small (goal.at.overflow_mul-result-4 c).Start in omega arith

pub overflow_add-result-3 : goal.overflow_add-result-3
overflow_add-result-3 c = let p = small (goal.at.overflow_add-result-3 c).Start in omega arith

pub returns : goal.returns
unfolding model.weigh counts_in weights_in
returns c = let p = small (goal.at.returns c).Start in record { value = refl; upper_bound = omega arith }
