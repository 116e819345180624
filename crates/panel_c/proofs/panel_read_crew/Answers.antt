-- The conditions of what the call gave back.
-- Assumes nothing.
use Rattle.panel_c.proofs.Answering.{read_same}
use Rattle.panel_c.proofs.panel_read_crew.Goals as goal

pub returns-clause-rows_after : goal.returns-clause-rows_after
returns-clause-rows_after c = rw (c.from.ensures, read_same _ _) c.panel_read_crew.ensures.rows_after

pub returns-clause-read_conditions : goal.returns-clause-read_conditions
returns-clause-read_conditions c = rw (c.from.ensures, read_same _ _) c.panel_read_crew.ensures.read_conditions
