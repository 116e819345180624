-- What is left to write, put into the list so far, is what was to be written.
-- Assumes nothing.
use Rattle.text_sets.proofs.Hexadecimals.{hex_stored, word_nibble, word_nibble_lt, hex_store}
use native.Mathlib.Nat.{add-zero, sub-zero}
use Prim.Native.Nat.{◌-◌}
use Rattle.text.specs.Digits.{digit_byte}
use mathlib.Core.Path.{refl, ◌∙◌, ap}
use native.Mathlib.Omega.{arith}
use Rattle.text_sets.proofs.put_digits.Goals as goal

pub loop-i-init : goal.loop-i-init
loop-i-init c = rw (add-zero, sub-zero) refl

pub digit_byte-requires : goal.digit_byte-requires
digit_byte-requires c = let a = c.args in word_nibble_lt a.w (a.d - 1 - c.loop-i.i)

pub loop-i-preserved : goal.loop-i-preserved
loop-i-preserved c = hex_store _ _ _ _ _ _ _ _ (omega arith) refl (c.digit_byte.ensures ∙ ap digit_byte (word_nibble _ _)) c.loop-i.invariant

pub returns : goal.returns
returns c = record { value = omega arith; out_after = hex_stored _ _ _ _ _ _ (omega arith) c.loop-i.invariant }
