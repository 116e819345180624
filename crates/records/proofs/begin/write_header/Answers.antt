-- Eight words, put there at once.
-- Assumes nothing.
use Rattle.records.proofs.begin.write_header.Goals as goal

pub returns : goal.returns
returns c = rw (c.word.ensures, c.word-2.ensures) at c.copy.ensures
