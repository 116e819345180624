-- What the call gives back in the form in which the model says it.
-- Assumes nothing.
use Rattle.std.specs.Prelude.{ℕ, Result, Ok, Err}
use Rattle.model.specs.Calls.{Told}
use Rattle.refusals.specs.declared.Refusal.{Refusal}
use Rattle.refusals.specs.Numbers.{number_of}

abbrev pub quality_result : Result ℕ Refusal → Told
quality_result (Ok q) = record { code = 0; value = q }
quality_result (Err r) = record { code = number_of r; value = 0 }
