-- What the call gives back in the form in which the model says it: 1 for yes, 0 for no.
-- Assumes nothing.
use Rattle.std.specs.Prelude.{Bool, Result, Ok, Err}
use Rattle.sets.specs.Truth.{bit}
use Rattle.model.specs.Calls.{Told}
use Rattle.refusals.specs.declared.Refusal.{Refusal}
use Rattle.refusals.specs.Numbers.{number_of}

abbrev pub may_result : Result Bool Refusal → Told
may_result (Ok can) = record { code = 0; value = bit can }
may_result (Err r) = record { code = number_of r; value = 0 }
