-- The sizes, and then the kind of each call, by `all_told`.
-- Assumes nothing.
use borrow.Author.Rules.{rules}
use mathlib.Core.Path.{refl, ◌∙◌}
use Prim.Native.Nat.{◌*◌}
use native.Mathlib.Omega.{arith}
use lib.Dec.{ltb}
use lib.ListN.{get_or}
use Rattle.std.proofs.lemmas.Iterator.{YieldsList-from_range}
use Rattle.sets.proofs.Asking.{all_told}
use Rattle.calls_list.proofs.Reading.{readable_not, readable_kinds}
use Rattle.calls_list.proofs.can_read.Goals as goal
use Rattle.calls_list.proofs.can_read.Goals.{then-n-calls-via-then-n-calls, then-n-calls-via-else-n-calls+then-out-n}

pub returns-then-n-calls : goal.returns-then-n-calls
returns-then-n-calls c = readable_not _ _ (λ f.
    elim c.then-n-calls.branch [ then-n-calls-via-then-n-calls w ↦ w.if-n-calls.true f.0 | then-n-calls-via-else-n-calls+then-out-n w ↦ w.if-out-n.true f.1 ])

pub returns : goal.returns
returns c =
    all_told _ (λ i. ltb (get_or c.args.calls.now (7 * i) 0) 4) _ _ _ c.all.ensures.ran (YieldsList-from_range 0 _ _ refl (omega arith)) (λ i t q k. (search rules, λ li. search rules))
    ∙ readable_kinds _ _ c.if-n-calls.false c.if-out-n.false
