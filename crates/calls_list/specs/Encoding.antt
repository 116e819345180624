-- A list of calls as words: seven to a call, its kind and up to six numbers; words that the kind does not name are not looked at. Three to an answer.
-- Assumes nothing.
use Rattle.std.specs.Prelude.{Bool, List, [], ◌∷◌, ℕ, zero, suc, ◌+◌, ◌*◌, ◌/◌, eqb, ltb, length, get_or}
use Rattle.sets.specs.Truth.{◌and◌, when◌then◌else◌, all}
use Rattle.model.specs.Machine.{Call, Reply}
use Rattle.model.specs.Machine.Call.{strike, restore, eliminate, review}
use Rattle.quality.specs.Given.{weights_of, tolerance_of}

unfoldable pub call_at : List ℕ → ℕ → Call
call_at ws i =
    when eqb (get_or ws i 0) 0 then strike (get_or ws (i + 1) 0)
    else when eqb (get_or ws i 0) 1 then restore (get_or ws (i + 1) 0)
    else when eqb (get_or ws i 0) 2 then
    eliminate (weights_of (get_or ws (i + 1) 0) (get_or ws (i + 2) 0) (get_or ws (i + 3) 0) (get_or ws (i + 4) 0))
    (tolerance_of (get_or ws (i + 5) 0) (get_or ws (i + 6) 0))
    else review (weights_of (get_or ws (i + 1) 0) (get_or ws (i + 2) 0) (get_or ws (i + 3) 0) (get_or ws (i + 4) 0))

-- n calls from place i on
unfoldable pub calls_from : List ℕ → ℕ → ℕ → List Call
calls_from ws i zero = []
calls_from ws i (suc n) = call_at ws i ∷ calls_from ws (i + 7) n

unfoldable pub calls_in : List ℕ → List Call
calls_in ws = calls_from ws 0 (length ws / 7)

-- whole calls, each of a kind below 4, and three words for each answer
unfoldable pub readable : List ℕ → List ℕ → Bool
readable ws out =
    eqb (7 * (length ws / 7)) (length ws) and eqb (length out) (3 * (length ws / 7)) and all (length ws / 7) (λ i. ltb (get_or ws (7 * i) 0) 4)

-- the answers as words: of each its number, and the two numbers beside it
unfoldable pub answer_words : List Reply → List ℕ
answer_words [] = []
answer_words (a ∷ more) = a.code ∷ a.changed ∷ a.examined ∷ answer_words more
