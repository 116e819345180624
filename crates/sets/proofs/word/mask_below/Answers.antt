-- `mask_below` meets its contract: none of the word's items, all of them, or the lowest ones are below n.
-- Assumes nothing.
use Rattle.sets.proofs.Written.{mask_none, mask_all, mask_some, mask_pos}
use Rattle.sets.proofs.word.mask_below.Goals as goal

pub returns-then-n-at : goal.returns-then-n-at
returns-then-n-at c = mask_none _ _ c.if-n-at.true

pub returns-then-n-at-ge64 : goal.returns-then-n-at-ge64
returns-then-n-at-ge64 c = mask_all _ _ c.if-n-at-ge64.true

pub overflow_sub-result-2 : goal.overflow_sub-result-2
overflow_sub-result-2 c = mask_pos _ _ c.if-n-at-ge64.false

pub returns : goal.returns
returns c = mask_some _ _ c.if-n-at-ge64.false
