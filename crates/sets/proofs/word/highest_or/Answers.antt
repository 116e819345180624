-- `highest_or` meets its contract: a word that is not 0 has at most 63 leading zeros.
-- Assumes nothing.
use native.Mathlib.Omega.{arith}
use Rattle.sets.proofs.Extremes.{leading_lt}
use Rattle.sets.proofs.Written.{when_equal, when_other}
use Rattle.sets.proofs.word.highest_or.Goals as goal

pub returns-then-w-eq0 : goal.returns-then-w-eq0
returns-then-w-eq0 c = when_equal _ _ _ _ c.if-w-eq0.true

pub overflow_cast-result : goal.overflow_cast-result
overflow_cast-result c = omega (arith, leading_lt 64 c.args.w c.if-w-eq0.false c.ranges.w.fits)

pub overflow_sub-result : goal.overflow_sub-result
overflow_sub-result c = omega (arith, leading_lt 64 c.args.w c.if-w-eq0.false c.ranges.w.fits)

pub returns : goal.returns
returns c = when_other _ _ _ _ c.if-w-eq0.false
