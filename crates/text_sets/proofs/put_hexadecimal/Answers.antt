-- The digits of whole words that are left to write, put into the list so far, are what was to be written.
-- Assumes nothing.
use mathlib.Core.Path.{◌≡◌, ◌∙◌}
use Prim.Native.Nat.{◌+◌, ◌-◌, ◌*◌, ◌/◌, ◌%◌}
use native.Mathlib.Omega.{arith}
use Rattle.text_sets.proofs.Hexadecimals.{hex_front, hex_none}
use Rattle.text_sets.proofs.put_hexadecimal.Goals as goal

pub loop-k-preserved : goal.loop-k-preserved
loop-k-preserved g c = let k = c.loop-k.k in
    let e : 16 + 16 * (k - 1) ≡ 16 * k = omega arith in
    let p = c.put_digits-next-in-loop-k.ensures in
    (omega arith, hex_front _ _ _ 16 (k - 1) _ _ _ (omega arith) c.word-in-loop-k.ensures (p.value, p.out_after) ∙ rw e c.loop-k.invariant.1)

pub returns-clause-out_after : goal.returns-clause-out_after
returns-clause-out_after g c = let d = c.args.d in
    let p = c.put_digits-next.ensures in
    let e : d % 16 + 16 * (d / 16) ≡ d = omega arith in
    let f = hex_front _ _ _ (d % 16) (d / 16) _ _ _ (omega arith) c.word.ensures (p.value, p.out_after) in
    hex_none _ _ _ _ _ (omega arith) c.loop-k.invariant.1 ∙ rw e at f
