-- A comma and the digits.
-- Assumes nothing.
use Prim.Native.Nat.{◌*◌}
use native.Mathlib.Omega.{arith}
use Rattle.text_lines.proofs.Lengths.{digits_most}
use Rattle.text_roles.proofs.Puts.{field_put}
use Rattle.text_roles.proofs.lines.put_set.Goals as goal

pub put_hexadecimal-requires : goal.put_hexadecimal-requires
put_hexadecimal-requires g c = omega (arith, digits_most c.args.size (16 * g.row.WORDS) (omega arith), c.digits_for.ensures.value)

pub returns : goal.returns
returns g c = field_put _ _ _ _ _ _ _ _ _ _ c.digits_for.ensures.value c.load.ensures (16 * g.row.WORDS) (omega arith) (c.put_bytes-next.ensures.value, c.put_bytes-next.ensures.out_after)
    (c.put_hexadecimal.ensures.value, c.put_hexadecimal.ensures.out_after)
