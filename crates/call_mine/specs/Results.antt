-- What the call gives back, with the record as it leaves it, in the form in which the model says it.
-- Assumes nothing.
use Rattle.std.specs.Prelude.{List, ℕ, Result, Ok, Err}
use Rattle.model.specs.Calls.{Mined}
use Rattle.refusals.specs.declared.Refusal.{Refusal}
use Rattle.refusals.specs.Numbers.{number_of}

abbrev pub mine_result : Result ℕ Refusal → List ℕ → Mined
mine_result (Ok c) ws = record { code = 0; candidates = c; words = ws }
mine_result (Err r) ws = record { code = number_of r; candidates = 0; words = ws }
