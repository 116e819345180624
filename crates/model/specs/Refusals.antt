-- "Who sends a call back": the numbers of 01, those that requests of 02 add, and each check by itself. A check gives its number, or 0 where it finds
-- nothing; a call's refusal is the first of its checks that finds something.
-- Assumes nothing.
use Rattle.std.specs.Prelude.{Bool, true, false, List, ℕ, zero, suc, ◌*◌, eqb, leb, ltb, length}
use Rattle.sets.specs.Truth.{◌and◌, isnt}
use Rattle.sets.specs.Sets.{has}
use Rattle.model.specs.Lists.{rows_at}
use Rattle.model.specs.Candidates.{candidates}
use Rattle.model.specs.Hierarchy.{Roles, candidate_count}
use Rattle.model.specs.Coverage.{strikable}
use Rattle.model.specs.Quality.{Weights, Tolerance, weights_allowed, tolerance_allowed}
use Rattle.model.specs.State.{most_candidates, within_limits, rows_within}
use Rattle.model.specs.Record.{record_length, sound}

infixl 22 ◌unless◌
infixr 20 ◌or_else◌
-- ---- the numbers

-- "record length is not 2,056 words"
abbrev pub wrong_length : ℕ
wrong_length = 1

-- "n or m outside its limits"
abbrev pub outside_limits : ℕ
outside_limits = 2

-- "crew words not 4n (for the reader: its buffer not 512 words, judged first), or a bit at m or above"
abbrev pub wrong_crew_words : ℕ
wrong_crew_words = 3

-- "more than 128 candidates"
abbrev pub too_many_candidates : ℕ
too_many_candidates = 4

-- "the record is not sound"
abbrev pub not_sound : ℕ
not_sound = 5

-- "u, p or k not below n, m or c"
abbrev pub out_of_range : ℕ
out_of_range = 6

-- "strike of an absent role, or restoring one that stands"
abbrev pub absent_or_standing : ℕ
absent_or_standing = 7

-- "the role can't be struck"
abbrev pub not_strikable : ℕ
not_strikable = 8

-- "a weight or tolerance outside its range"
abbrev pub wrong_weights : ℕ
wrong_weights = 9

-- "the text breaks the form above, more bytes follow, or it is over 16,384 bytes"
abbrev pub wrong_text : ℕ
wrong_text = 10

-- request 1 of 02: "the lent buffer is shorter than the text"
abbrev pub short_buffer : ℕ
short_buffer = 11

-- ---- how checks are made and joined

-- the number n, or 0 where the test holds
unfoldable pub ◌unless◌ : ℕ → Bool → ℕ
n unless true = 0
n unless false = n

-- the first refusal that applies: the first number, or the second where the first is 0
unfoldable pub ◌or_else◌ : ℕ → ℕ → ℕ
zero or_else b = b
(suc a) or_else b = suc a

-- ---- checks of what is lent

unfoldable pub length_refusal : List ℕ → ℕ
length_refusal ws = wrong_length unless eqb (length ws) record_length

unfoldable pub soundness_refusal : List ℕ → ℕ
soundness_refusal ws = not_sound unless sound ws

unfoldable pub limits_refusal : ℕ → ℕ → ℕ
limits_refusal n m = outside_limits unless within_limits n m

-- the crew words of n users: how many they are, and that their rows have no bit at m or above
unfoldable pub crew_size_refusal : ℕ → List ℕ → ℕ
crew_size_refusal n crew = wrong_crew_words unless eqb (length crew) (4 * n)

unfoldable pub crew_rows_refusal : ℕ → List ℕ → ℕ
crew_rows_refusal m rows = wrong_crew_words unless rows_within m rows

unfoldable pub crew_refusal : ℕ → ℕ → List ℕ → ℕ
crew_refusal n m crew = crew_size_refusal n crew or_else crew_rows_refusal m (rows_at n crew 0)

unfoldable pub candidates_refusal : List ℕ → ℕ
candidates_refusal rows = too_many_candidates unless leb (length (candidates rows)) most_candidates

-- a buffer that is lent for `size` bytes
unfoldable pub space_refusal : ℕ → List ℕ → ℕ
space_refusal size buffer = short_buffer unless leb size (length buffer)

-- ---- checks of a call's numbers

-- role k, and user u with permission p, where there are n users and m permissions
unfoldable pub role_refusal : Roles → ℕ → ℕ
role_refusal ρ k = out_of_range unless ltb k (candidate_count ρ)

unfoldable pub pair_refusal : ℕ → ℕ → ℕ → ℕ → ℕ
pair_refusal n m u p = out_of_range unless ltb u n and ltb p m

-- role k where the roles of R stand: it is absent, it stands, it can't be struck
unfoldable pub absent_refusal : ℕ → ℕ → ℕ
absent_refusal R k = absent_or_standing unless has R k

unfoldable pub standing_refusal : ℕ → ℕ → ℕ
standing_refusal R k = absent_or_standing unless isnt (has R k)

unfoldable pub strike_refusal : Roles → ℕ → ℕ → ℕ
strike_refusal ρ R k = not_strikable unless strikable ρ R k

unfoldable pub weights_refusal : Weights → ℕ
weights_refusal w = wrong_weights unless weights_allowed w

unfoldable pub tolerance_refusal : Tolerance → ℕ
tolerance_refusal t = wrong_weights unless tolerance_allowed t
