-- The bits before q are gathered.
-- Assumes nothing.
use mathlib.Core.Path.{◌≡◌, sym, ◌∙◌}
use native.Mathlib.Omega.{arith}
use Rattle.sets.proofs.Order.{collect-zero, collect-bit}
use Rattle.columns.proofs.one.word_of.Goals as goal

pub loop-q-init : goal.loop-q-init
loop-q-init g c = λ f told. sym (collect-zero _)

pub loop-q-preserved : goal.loop-q-preserved
loop-q-preserved g c = λ f told. rw (told _ _ (omega arith) c.test.ensures) at c.with_bit-bits.ensures ∙ collect-bit _ _ _ (omega arith) (c.loop-q.invariant f told)

pub returns : goal.returns
returns g c = λ f told. let e : c.loop-q.q ≡ c.args.count = omega arith in
    rw e at (c.loop-q.invariant f told)
