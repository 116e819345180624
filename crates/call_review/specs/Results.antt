-- What the call gives back, with the record as it leaves it, in the form in which the model says it.
-- Assumes nothing.
use Rattle.std.specs.Prelude.{List, ℕ, Result, Ok, Err}
use Rattle.model.specs.Machine.{reply}
use Rattle.model.specs.Calls.{Edited}
use Rattle.refusals.specs.declared.Refusal.{Refusal}
use Rattle.refusals.specs.Numbers.{number_of}
use Rattle.calls_edit.specs.declared.Done.{Done}

abbrev pub review_result : Result Done Refusal → List ℕ → Edited
review_result (Ok done) ws = record { replied = reply 0 done.changed done.examined; words = ws }
review_result (Err r) ws = record { replied = reply (number_of r) 0 0; words = ws }
