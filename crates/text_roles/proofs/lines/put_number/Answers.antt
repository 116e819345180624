-- A decimal of 64 bits has at most 20 digits.
-- Assumes nothing.
use native.Mathlib.Omega.{arith}
use Rattle.text.proofs.Decimals.{length-decimal}
use Rattle.text_roles.proofs.lines.put_number.Goals as goal

pub put_decimal-requires : goal.put_decimal-requires
put_decimal-requires c = omega (arith, length-decimal c.args.v)

pub returns : goal.returns
returns c = let p = c.put_decimal.ensures in
    (p.value, p.out_after, omega (arith, length-decimal c.args.v))
