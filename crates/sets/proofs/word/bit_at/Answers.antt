-- `bit_at` meets its contract: the item stands in word j or in another.
-- Assumes nothing.
use mathlib.Core.Path.{sym, ◌∙◌}
use Rattle.sets.proofs.Written.{bit_there, bit_elsewhere}
use Rattle.sets.proofs.word.bit_at.Goals as goal

pub returns-then-p-j : goal.returns-then-p-j
returns-then-p-j c = let p = c.place_of-p.ensures in rw p.bit_value (bit_there _ _ (sym p.word_value ∙ c.if-p-j.true))

pub returns-else-p-j : goal.returns-else-p-j
returns-else-p-j c = bit_elsewhere _ _ (λ e. c.if-p-j.false (c.place_of-p.ensures.word_value ∙ e))
