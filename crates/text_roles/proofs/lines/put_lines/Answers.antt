-- The lines of the roles below k are written.
-- Assumes nothing.
use mathlib.Core.Path.{◌≡◌}
use native.Mathlib.Omega.{arith}
use lib.ListN.{get_or}
use Rattle.text_roles.proofs.Puts.{lines_none, lines_more, lines_most, put_upto}
use Rattle.text_roles.proofs.lines.put_lines.Goals as goal

pub loop-k-init : goal.loop-k-init
loop-k-init c = lines_none _ _ _

pub put_standing-at-requires : goal.put_standing-at-requires
put_standing-at-requires c = let b = c.requires.limited in
    (b, omega (arith, b.candidates), omega (arith, b.candidates, lines_most _ c.loop-k.k b))

pub loop-k-preserved : goal.loop-k-preserved
loop-k-preserved c = lines_more _ _ _ _ _ _ _ _ c.loop-k.invariant (c.put_standing-at.ensures.value, c.put_standing-at.ensures.out_after)

pub returns : goal.returns
returns c =
    let made = put_upto _ _ _ _ _ _ _ (let e : c.loop-k.k ≡ get_or c.args.rec.now 2 0 = omega arith in e) c.loop-k.invariant in
    record { value = made.0; out_after = made.1 }
