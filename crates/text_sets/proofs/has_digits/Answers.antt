-- Each place is asked, by `all_told`.
-- Assumes nothing.
use borrow.Author.Rules.{rules}
use mathlib.Core.Path.{refl, sym, ◌∙◌}
use Prim.Native.Nat.{◌+◌, ◌-◌, ◌≤◌}
use native.Mathlib.Omega.{arith}
use lib.Dec.{ltb}
use lib.ListN.{length}
use Rattle.std.proofs.lemmas.Iterator.{YieldsList-from_range}
use Rattle.sets.proofs.Truth.{leb_iff}
use Rattle.sets.proofs.Asking.{all_told}
use Rattle.text.specs.Digits.{digit_at}
use Rattle.text_sets.proofs.Hexadecimals.{hex_asked}
use Rattle.text_sets.proofs.has_digits.Goals as goal
use Rattle.text_sets.proofs.has_digits.Goals.{then-d-rest, else-d-rest}

fits : (c : goal.After-all) → c.args.rest.at + c.args.d ≤ length c.args.rest.text.now
fits c =
    elim c.if-d-rest.branch [
      | then-d-rest w ↦ let l = (leb_iff c.args.rest.at (length c.args.rest.text.now - c.args.d)).0 (sym w.value-is ∙ c.if-rest-d.true) in omega arith
      | else-d-rest w ↦ let l = (leb_iff c.args.d (length c.args.rest.text.now)).0 (sym w.value-is ∙ c.if-rest-d.true) in omega arith
    ]

pub returns-then-rest-d : goal.returns-then-rest-d
returns-then-rest-d c =
    all_told c.args.d (λ i. ltb (digit_at c.args.rest.text.now (c.args.rest.at + i)) 16) _ _ _ c.all.ensures.ran (YieldsList-from_range 0 _ _ refl (omega arith))
    (λ x t q k. (search rules, λ l. search rules))
    ∙ hex_asked _ _ _ (fits c)
