-- 1 for yes, 0 for no.
-- Assumes nothing.
use Rattle.panel_c.proofs.Answering.{byte_bit}
use Rattle.panel_c.proofs.answers.MayAnswerFromResultBoolRefusal.from.Goals as goal

pub returns-in-Ok : goal.returns-in-Ok
returns-in-Ok c = rw (c.in-Ok.is, c.from.ensures, byte_bit _)
