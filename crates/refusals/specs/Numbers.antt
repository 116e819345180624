-- The number of each refusal, and the number that what a check or a call gives back stands for.
-- Assumes nothing.
use Rattle.std.specs.Prelude.{ℕ, Result, Ok, Err}
use Rattle.model.specs.Refusals.{wrong_length, outside_limits, wrong_crew_words, too_many_candidates, not_sound, out_of_range, absent_or_standing, not_strikable, wrong_weights, wrong_text, short_buffer}
use Rattle.refusals.specs.declared.Refusal.{Refusal}
use Rattle.refusals.specs.declared.Refusal.TheVariants.{Length, Limits, Crew, Candidates, Unsound, Number, Standing, Bare, Range, Text, Short}

abbrev pub number_of : Refusal → ℕ
number_of Length = wrong_length
number_of Limits = outside_limits
number_of Crew = wrong_crew_words
number_of Candidates = too_many_candidates
number_of Unsound = not_sound
number_of Number = out_of_range
number_of Standing = absent_or_standing
number_of Bare = not_strikable
number_of Range = wrong_weights
number_of Text = wrong_text
number_of Short = short_buffer

-- 0 where nothing was refused, or the refusal's number
abbrev pub code_of : {A : Type 0} → Result A Refusal → ℕ
code_of (Ok a) = 0
code_of (Err r) = number_of r
