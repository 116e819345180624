-- `count_of` meets its contract: a word has at most 64 ones.
-- Assumes nothing.
use native.Mathlib.Omega.{arith}
use mathlib.Core.Path.{refl}
use lib.Count.{ones-le}
use Rattle.sets.proofs.word.count_of.Goals as goal

pub overflow_cast-result : goal.overflow_cast-result
overflow_cast-result c = omega (arith, ones-le 64 c.args.w c.ranges.w.fits)

pub returns : goal.returns
returns c = record { value = refl; upper_bound = ones-le 64 c.args.w c.ranges.w.fits }
