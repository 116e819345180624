-- The conditions of what the call gave back.
-- Assumes nothing.
use Rattle.panel_c.proofs.Answering.{mine_same}
use Rattle.panel_c.proofs.panel_mine.Goals as goal

pub returns-clause-mining_conditions : goal.returns-clause-mining_conditions
returns-clause-mining_conditions c = rw (c.from.ensures, mine_same _ _) c.panel_mine.ensures.mining_conditions
