-- `less_or` meets its contract: the test is the definition's.
-- Assumes nothing.
use Rattle.sets.proofs.Written.{when_equal, when_other}
use Rattle.sets.proofs.word.less_or.Goals as goal

pub returns-then-a-b : goal.returns-then-a-b
returns-then-a-b c = when_equal _ _ _ _ c.if-a-b.true

pub returns-else-a-b : goal.returns-else-a-b
returns-else-a-b c = when_other _ _ _ _ c.if-a-b.false
