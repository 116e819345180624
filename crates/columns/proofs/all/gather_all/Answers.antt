-- A word of the transposed block is what its bits gather, by `block_column`.
-- Assumes nothing.
use Rattle.columns.proofs.Gathering.{gathered_none, block_column}
use Rattle.columns.proofs.all.gather_all.Goals as goal

pub returns-then-count-eq0 : goal.returns-then-count-eq0
returns-then-count-eq0 g c = λ b l. gathered_none _ _ _ c.if-count-eq0.true (c.requires.1 b)

pub returns : goal.returns
returns g c = λ b l. block_column _ b _ _ _ _ c.requires.3 l c.requires.1 (c.type_inv.block b).fits c.load_words.ensures c.transpose.ensures
