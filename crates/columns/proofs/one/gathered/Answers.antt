-- The two words, by `gathered`.
-- Assumes nothing.
use mathlib.Core.Path.{◌∙◌}
use native.Mathlib.Omega.{arith}
use Prim.Native.Nat.{◌+◌}
use Rattle.columns.proofs.Gathering.{gathered}
use Rattle.columns.proofs.one.gathered.Goals as goal

pub returns : goal.returns
returns g c = λ f told. c.from_words.ensures ∙ gathered _ _ _ _ f c.in_first_word-first.ensures
    (c.word_of.ensures (λ q. f (0 + q)) (λ q t l p. told (0 + q) t (omega arith) p))
    (c.word_of-2.ensures (λ q. f (64 + q)) (λ q t l p. told (64 + q) t (omega arith) p))
