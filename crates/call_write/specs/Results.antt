-- What the call gives back, with the buffer as it leaves it, in the form in which the definition says it.
-- Assumes nothing.
use Rattle.std.specs.Prelude.{List, ℕ, Result, Ok, Err}
use Rattle.refusals.specs.declared.Refusal.{Refusal}
use Rattle.refusals.specs.Numbers.{number_of}
use Rattle.call_write.specs.Writer.{Written}

abbrev pub write_result : Result ℕ Refusal → List ℕ → Written
write_result (Ok size) buffer = record { code = 0; size = size; bytes = buffer }
write_result (Err r) buffer = record { code = number_of r; size = 0; bytes = buffer }
