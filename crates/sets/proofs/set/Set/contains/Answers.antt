-- `Set::contains` meets its contract, by `test_bit`.
-- Assumes nothing.
use Rattle.sets.proofs.Written.{test_bit}
use Rattle.sets.proofs.set.Set.contains.Goals as goal

pub returns : goal.returns
returns g c = let p = c.place_of-p.ensures in rw (c.word.ensures, p.word_value, p.bit_value) (test_bit _ _)
