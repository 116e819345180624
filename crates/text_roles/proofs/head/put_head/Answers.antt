-- The first line, and that it is short.
-- Assumes nothing.
use native.Mathlib.Omega.{arith}
use Rattle.text.proofs.Decimals.{length-decimal}
use Rattle.text_roles.proofs.Puts.{head_line_put}
use Rattle.text_roles.proofs.head.put_head.Goals as goal

pub put_first_line-requires : goal.put_first_line-requires
put_first_line-requires c = let a = c.args in
    omega (arith, length-decimal a.count, length-decimal a.quality)

pub returns : goal.returns
returns c = head_line_put _ _ _ _ _ (c.put_first_line.ensures.value, c.put_first_line.ensures.out_after)
