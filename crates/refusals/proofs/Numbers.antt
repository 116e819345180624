-- What the number of a refusal is not.
-- Assumes nothing.
use mathlib.Core.Logic.{◌≢◌}
use Rattle.refusals.specs.declared.Refusal.{Refusal}
use Rattle.refusals.specs.declared.Refusal.TheVariants.{Length, Limits, Crew, Candidates, Unsound, Number, Standing, Bare, Range, Text, Short}
use Rattle.refusals.specs.Numbers.{number_of}

-- each refusal has a number, and 0 is not one
pub some_number : (r : Refusal) → number_of r ≢ 0
some_number Length = λ e. cc
some_number Limits = λ e. cc
some_number Crew = λ e. cc
some_number Candidates = λ e. cc
some_number Unsound = λ e. cc
some_number Number = λ e. cc
some_number Standing = λ e. cc
some_number Bare = λ e. cc
some_number Range = λ e. cc
some_number Text = λ e. cc
some_number Short = λ e. cc
