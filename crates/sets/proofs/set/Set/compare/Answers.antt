-- `Set::compare` meets its contract: the sets are in the other order, one, or in this order.
-- Assumes nothing.
use mathlib.Core.Path.{◌≡◌, sym, ◌∙◌}
use mathlib.Core.Bool.{false}
use native.Mathlib.Omega.{arith}
use lib.Dec.{eqb, ltb}
use Rattle.std.proofs.lemmas.Bool.Decides.{nat_tests}
use Rattle.sets.specs.Held.{set_of}
use Rattle.sets.proofs.Written.{words}
use Rattle.sets.proofs.Held.{equal_sets}
use Rattle.sets.proofs.set.Set.compare.Goals as goal

pub returns-else-eq : goal.returns-else-eq
returns-else-eq g c =
    let e : eqb (set_of c.args.self) (set_of c.args.other) ≡ false = sym (equal_sets c.args.self c.args.other (search words) (search words)) ∙ sym c.eq.ensures ∙ c.if-eq.false in
    let l : ltb (set_of c.args.other) (set_of c.args.self) ≡ false = sym c.less.ensures ∙ c.if-less.false in
    grind (arith, nat_tests, e, l)
