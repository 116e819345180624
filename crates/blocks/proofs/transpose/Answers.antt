-- Six shuffles, by `six_transpose`.
-- Assumes nothing.
use borrow.Author.Rules.{rules}
use Rattle.blocks.proofs.Shuffling.{six_transpose, spaced_32, spaced_16, spaced_8, spaced_4, spaced_2, spaced_1}
use Rattle.blocks.proofs.transpose.Goals as goal

pub shuffle-requires : goal.shuffle-requires
shuffle-requires c = (search rules, search rules, search rules, spaced_32)

pub shuffle-requires-2 : goal.shuffle-requires-2
shuffle-requires-2 c = (search rules, search rules, search rules, spaced_16)

pub shuffle-requires-3 : goal.shuffle-requires-3
shuffle-requires-3 c = (search rules, search rules, search rules, spaced_8)

pub shuffle-requires-4 : goal.shuffle-requires-4
shuffle-requires-4 c = (search rules, search rules, search rules, spaced_4)

pub shuffle-requires-5 : goal.shuffle-requires-5
shuffle-requires-5 c = (search rules, search rules, search rules, spaced_2)

pub shuffle-requires-6 : goal.shuffle-requires-6
shuffle-requires-6 c = (search rules, search rules, search rules, spaced_1)

pub returns : goal.returns
returns c = six_transpose _ _ _ _ _ _ _ c.shuffle.ensures c.shuffle-2.ensures c.shuffle-3.ensures
    c.shuffle-4.ensures c.shuffle-5.ensures c.shuffle-6.ensures
