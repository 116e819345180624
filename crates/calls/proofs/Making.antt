-- A value that is made of a call's numbers, or refused with number 9.
-- Assumes nothing.
use mathlib.Core.Path.{◌≡◌, sym}
use mathlib.Core.Bool.{Bool, So}
use Rattle.std.proofs.Common.{ℕ, Option, Some, None, is_some, ok_or}
use Rattle.sets.proofs.Truth.{So-not}
use Rattle.model.proofs.Refusals.{Check}
use Rattle.refusals.specs.Numbers.{code_of}
use Rattle.refusals.specs.declared.Refusal.TheVariants.{Range}

pub made_or_refused : {A : Type 0} {part : ℕ} (o : Option A) (t : Bool) → is_some o ≡ t → Check part 9 (So t) → code_of (ok_or o Range) ≡ part
made_or_refused None t e k = sym (k.stops (So-not (sym e)))
made_or_refused (Some a) t e k = sym (k.passes (sym e))
