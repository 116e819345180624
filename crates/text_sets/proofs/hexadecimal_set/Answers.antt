-- Each word is made of a part of the digits.
-- Assumes nothing.
use native.Mathlib.Omega.{arith}
use Rattle.text.specs.Rest.{moved}
use Rattle.text_sets.proofs.Hexadecimals.{hex_part, hex_first}
use Rattle.text_sets.proofs.hexadecimal_set.Goals as goal

pub word_of-w1-requires-clause-so : goal.word_of-w1-requires-clause-so
unfolding moved
word_of-w1-requires-clause-so c = rw c.skip-2.ensures (hex_part c.args.d _ _ _ _ c.requires.so (omega arith))

pub word_of-w2-requires-clause-so : goal.word_of-w2-requires-clause-so
unfolding moved
word_of-w2-requires-clause-so c = rw c.skip-3.ensures (hex_part c.args.d _ _ _ _ c.requires.so (omega arith))

pub word_of-w3-requires-clause-so : goal.word_of-w3-requires-clause-so
word_of-w3-requires-clause-so c = hex_first c.args.d _ _ _ c.requires.so (omega arith)
