-- The answers, with the record or the buffer as the call leaves it, in the form in which the model gives them.
-- Assumes nothing.
use Rattle.std.specs.Prelude.{List, ℕ}
use Rattle.model.specs.Machine.{reply}
use Rattle.model.specs.Calls.{Mined, Edited, Told}
use Rattle.text_crew.specs.Reader.{ReadReply}
use Rattle.call_write.specs.Writer.{Written}
use Rattle.panel_c.specs.declared.answers.MineAnswer.{MineAnswer}
use Rattle.panel_c.specs.declared.answers.StrikeAnswer.{StrikeAnswer}
use Rattle.panel_c.specs.declared.answers.RestoreAnswer.{RestoreAnswer}
use Rattle.panel_c.specs.declared.answers.EliminateAnswer.{EliminateAnswer}
use Rattle.panel_c.specs.declared.answers.ReviewAnswer.{ReviewAnswer}
use Rattle.panel_c.specs.declared.answers.QualityAnswer.{QualityAnswer}
use Rattle.panel_c.specs.declared.answers.MayAnswer.{MayAnswer}
use Rattle.panel_c.specs.declared.answers.CrewRead.{CrewRead}
use Rattle.panel_c.specs.declared.answers.CrewWritten.{CrewWritten}

abbrev pub mine_result : MineAnswer → List ℕ → Mined
mine_result r ws = record { code = r.code; candidates = r.candidates; words = ws }

-- no number stands beside that of a refusal
abbrev pub strike_result : StrikeAnswer → List ℕ → Edited
strike_result r ws = record { replied = reply r.code 0 0; words = ws }

abbrev pub restore_result : RestoreAnswer → List ℕ → Edited
restore_result r ws = record { replied = reply r.code 0 0; words = ws }

abbrev pub eliminate_result : EliminateAnswer → List ℕ → Edited
eliminate_result r ws = record { replied = reply r.code r.removed r.examined; words = ws }

abbrev pub review_result : ReviewAnswer → List ℕ → Edited
review_result r ws = record { replied = reply r.code r.restored r.examined; words = ws }

abbrev pub quality_result : QualityAnswer → Told
quality_result r = record { code = r.code; value = r.quality }

abbrev pub may_result : MayAnswer → Told
may_result r = record { code = r.code; value = r.allowed }

abbrev pub read_result : CrewRead → List ℕ → ReadReply
read_result r buffer = record { code = r.code; n = r.n; m = r.m; words = buffer }

abbrev pub write_result : CrewWritten → List ℕ → Written
write_result r buffer = record { code = r.code; size = r.length; bytes = buffer }
