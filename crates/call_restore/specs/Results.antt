-- What the call gives back, with the record as it leaves it, in the form in which the model says it.
-- Assumes nothing.
use Rattle.std.specs.Prelude.{List, ℕ, Result}
use Rattle.model.specs.Machine.{reply}
use Rattle.model.specs.Calls.{Edited}
use Rattle.refusals.specs.declared.Refusal.{Refusal}
use Rattle.refusals.specs.Numbers.{code_of}

-- no number stands beside that of a refusal
abbrev pub restore_result : {A : Type 0} → Result A Refusal → List ℕ → Edited
restore_result r ws = record { replied = reply (code_of r) 0 0; words = ws }
