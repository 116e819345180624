-- Assumes nothing.
use Rattle.mining.proofs.Written.{gathered_written}
use Rattle.mining.proofs.candidates.Candidates.table.Goals as goal

pub returns : goal.returns
returns c = gathered_written c.self.told c.self.view_is c.self.invariant
