-- `with_bit` meets its contract, by `bit_in` at the item's bit.
-- Assumes nothing.
use borrow.Author.Rules.{rules}
use mathlib.Core.Path.{◌≡◌}
use mir.Val.{bool_byte}
use native.Mathlib.Omega.{arith}
use Rattle.sets.proofs.Written.{bit_in}
use Rattle.sets.proofs.word.with_bit.Goals as goal

pub returns : goal.returns
returns c = let bit : c.from.result ≡ bool_byte c.args.held = search rules in
    rw (bit, c.place_of.ensures.bit_value) (bit_in _ _ _ (omega arith))
