-- A call of a list in the model's terms, and what it gives back, with the record as it leaves it, in the form in which the model says it.
-- Assumes nothing.
use Rattle.std.specs.Prelude.{List, [], ◌∷◌, ℕ, Result, Ok, Err, get_or}
use Rattle.model.specs.Machine as model
use Rattle.model.specs.Machine.{reply}
use Rattle.model.specs.Machine.Call.{strike, restore, eliminate, review}
use Rattle.model.specs.Calls.{Edited}
use Rattle.model.specs.Quality.{Weights}
use Rattle.quality.specs.Given.{weights_of, tolerance_of}
use Rattle.calls_edit.specs.declared.Done.{Done}
use Rattle.refusals.specs.declared.Refusal.{Refusal}
use Rattle.refusals.specs.Numbers.{number_of}
use Rattle.panel.specs.declared.list.Call.{Call}
use Rattle.panel.specs.declared.list.Call.TheVariants.{Strike, Restore, Eliminate, Review}

-- four weights, in their order
abbrev pub given_weights : List ℕ → Weights
given_weights ws = weights_of (get_or ws 0 0) (get_or ws 1 0) (get_or ws 2 0) (get_or ws 3 0)

abbrev pub call_of : Call → model.Call
call_of (Strike k) = strike k
call_of (Restore k) = restore k
call_of (Eliminate ws a b) = eliminate (given_weights ws) (tolerance_of a b)
call_of (Review ws) = review (given_weights ws)

abbrev pub done_result : Result Done Refusal → List ℕ → Edited
done_result (Ok done) ws = record { replied = reply 0 done.changed done.examined; words = ws }
done_result (Err r) ws = record { replied = reply (number_of r) 0 0; words = ws }

-- the three words of its answer
abbrev pub done_words : Result Done Refusal → List ℕ
done_words (Ok done) = 0 ∷ done.changed ∷ done.examined ∷ []
done_words (Err r) = number_of r ∷ 0 ∷ 0 ∷ []
