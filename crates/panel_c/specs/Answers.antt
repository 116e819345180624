-- Which answer C has for what a call gives back.
-- Assumes nothing.
use Rattle.std.specs.Prelude.{ℕ, Bool, Result, Ok, Err}
use Rattle.sets.specs.Truth.{bit}
use Rattle.refusals.specs.declared.Refusal.{Refusal}
use Rattle.refusals.specs.Numbers.{number_of, code_of}
use Rattle.calls_edit.specs.declared.Done.{Done}
use Rattle.text_crew.specs.declared.CrewSize.{CrewSize}
use Rattle.panel_c.specs.declared.answers.MineAnswer.{MineAnswer}
use Rattle.panel_c.specs.declared.answers.StrikeAnswer.{StrikeAnswer}
use Rattle.panel_c.specs.declared.answers.RestoreAnswer.{RestoreAnswer}
use Rattle.panel_c.specs.declared.answers.EliminateAnswer.{EliminateAnswer}
use Rattle.panel_c.specs.declared.answers.ReviewAnswer.{ReviewAnswer}
use Rattle.panel_c.specs.declared.answers.QualityAnswer.{QualityAnswer}
use Rattle.panel_c.specs.declared.answers.MayAnswer.{MayAnswer}
use Rattle.panel_c.specs.declared.answers.CrewRead.{CrewRead}
use Rattle.panel_c.specs.declared.answers.CrewWritten.{CrewWritten}

abbrev pub mine_answer : Result ℕ Refusal → MineAnswer
mine_answer (Ok c) = record { code = 0; candidates = c }
mine_answer (Err r) = record { code = number_of r; candidates = 0 }

abbrev pub strike_answer : {A : Type 0} → Result A Refusal → StrikeAnswer
strike_answer r = record { code = code_of r }

abbrev pub restore_answer : {A : Type 0} → Result A Refusal → RestoreAnswer
restore_answer r = record { code = code_of r }

abbrev pub eliminate_answer : Result Done Refusal → EliminateAnswer
eliminate_answer (Ok done) = record { code = 0; removed = done.changed; examined = done.examined }
eliminate_answer (Err r) = record { code = number_of r; removed = 0; examined = 0 }

abbrev pub review_answer : Result Done Refusal → ReviewAnswer
review_answer (Ok done) = record { code = 0; restored = done.changed; examined = done.examined }
review_answer (Err r) = record { code = number_of r; restored = 0; examined = 0 }

abbrev pub quality_answer : Result ℕ Refusal → QualityAnswer
quality_answer (Ok q) = record { code = 0; quality = q }
quality_answer (Err r) = record { code = number_of r; quality = 0 }

abbrev pub may_answer : Result Bool Refusal → MayAnswer
may_answer (Ok can) = record { code = 0; allowed = bit can }
may_answer (Err r) = record { code = number_of r; allowed = 0 }

abbrev pub crew_read : Result CrewSize Refusal → CrewRead
crew_read (Ok size) = record { code = 0; n = size.n; m = size.m }
crew_read (Err r) = record { code = number_of r; n = 0; m = 0 }

abbrev pub crew_written : Result ℕ Refusal → CrewWritten
crew_written (Ok size) = record { code = 0; length = size }
crew_written (Err r) = record { code = number_of r; length = 0 }
