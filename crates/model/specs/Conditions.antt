-- Conditions 1 and 2 of each outside call, over what it was lent and what it answered and left. Quotations are the customer's words, there and in
-- documents 01 and 02.
--
-- 1. "The answer to every call is a full result or one of ten numbered refusals, for every list, record, number and text that can be lent. A refusal
-- returns its number and zeros and leaves each lent buffer unaltered, since nobody can patch a caller later."
--
-- 2. "Roles, links and quality agree with the published mining definitions as condensed in document 01: a set is mined exactly when it is a nonempty
-- intersection of persons' permission sets; a person is authorised for an action exactly when the crew list says so; a role can be struck exactly
-- when every grant it covers is covered by another standing role."
-- Assumes nothing.
use Rattle.std.specs.Prelude.{◌≡◌, ◌↔◌, ◌≢◌, ◌⊎◌, List, [], ◌∷◌, ℕ, ◌+◌, ◌*◌, ◌≤◌, ◌<◌, length, get_or}
use Rattle.std.proofs.Math.Bool.{So}
use Rattle.sets.specs.Sets.{has, ◌∪◌, ◌∖◌, single}
use Rattle.model.specs.Lists.{set_at, rows_at, OneOf}
use Rattle.model.specs.Candidates.{Intersection, Listed, Growing}
use Rattle.model.specs.Chains.{Authorised}
use Rattle.model.specs.Quality.{Weights, Tolerance, quality}
use Rattle.model.specs.State.{roles_of}
use Rattle.model.specs.Record.{state_of, role_rows_of, sound}
use Rattle.model.specs.Notions.{crew_row, Stands, Spared, Bare, BuiltRows}
use Rattle.model.specs.Calls.{Mined, Edited, Told}

-- ---- condition 1, of any call

-- a rule for what a call is lent, and the number that it answers where the rule is broken
pub record Rule : Type 1 where
  pub number : ℕ
  pub holds : Type 0
  pub broken : Type 0

abbrev pub rule : ℕ → Type 0 → Rule
rule number holds = record { number = number; holds = holds; broken = ¬ holds }

abbrev pub numbers_of : List Rule → List ℕ
numbers_of [] = []
numbers_of (r ∷ rules) = r.number ∷ numbers_of rules

-- "Checks run in rising order of number": a rule's number is answered exactly when that rule is broken and all before it hold, and 0 exactly when all
-- hold. `Before` says that those before hold
abbrev pub Exactly : Type 0 → List Rule → ℕ → Type 0
Exactly Before [] code = (code ≡ 0) ↔ Before
Exactly Before (r ∷ rules) code = ((code ≡ r.number) ↔ (Before × r.broken)) × Exactly (Before × r.holds) rules code

-- Of a call with these rules, in this order, that answered `code`, with the numbers `beside` it, and that was lent the words `lent` and left `left`
pub record Condition1 (rules : List Rule) (code : ℕ) (beside lent left : List ℕ) : Type 0 where
  -- "a full result or one of ten numbered refusals", and "A number that this or a later job adds joins the ten": one that this call can give
  pub number : OneOf code (0 ∷ numbers_of rules)
  -- and each number exactly when
  pub exactly : Exactly (Unit {0}) rules code
  -- "A refusal returns its number and zeros"
  pub zeros : code ≢ 0 → (i : ℕ) → get_or beside i 0 ≡ 0
  -- "and leaves each lent buffer unaltered": its length too
  pub unaltered : code ≢ 0 → left ≡ lent

-- ---- ranges

-- more than `most` candidates: so many nonempty intersections of rows, each once
pub record MoreThan (most : ℕ) (rows : List ℕ) : Type 0 where
  pub sets : List ℕ
  pub once : Growing sets
  pub intersections : (x : ℕ) → Listed sets x → (x ≢ 0) × Intersection rows (length rows) x
  pub more : most < length sets

-- "weights w1..w4, each 0 to 1,000"
abbrev pub WeightsInRange : Weights → Type 0
WeightsInRange w = (w.per_role ≤ 1000) × (w.per_member ≤ 1000) × (w.per_permission ≤ 1000) × (w.per_link ≤ 1000)

-- "a tolerance a/b with b from 1 to 1,000 and a from b to 2b"
abbrev pub ToleranceInRange : Tolerance → Type 0
ToleranceInRange t = (1 ≤ t.denominator) × (t.denominator ≤ 1000) × (t.denominator ≤ t.numerator) × (t.numerator ≤ 2 * t.denominator)

-- the quality of the building of the roles R, where the record's crew list holds
abbrev pub quality_over : List ℕ → Weights → ℕ → ℕ
quality_over ws w R = quality (roles_of (state_of ws)) w R

-- ---- "Who sends a call back", call by call

abbrev pub mining_rules : ℕ → ℕ → List ℕ → List ℕ → List Rule
mining_rules n m crew ws =
    -- "record length is not 2,056 words"
    rule 1 (length ws ≡ 2056)
    -- "n or m outside its limits"
    ∷ rule 2 ((1 ≤ n) × (n ≤ 128) × (1 ≤ m) × (m ≤ 256))
    -- "crew words not 4n .. or a bit at m or above"
    ∷ rule 3 ((length crew ≡ 4 * n) × ((u p : ℕ) → u < n → So (has (get_or (rows_at n crew 0) u 0) p) → p < m))
    -- "more than 128 candidates"
    ∷ record { number = 4; holds = ¬ MoreThan 128 (rows_at n crew 0); broken = MoreThan 128 (rows_at n crew 0) }
    ∷ []

abbrev pub strike_rules : List ℕ → ℕ → List Rule
strike_rules ws k =
    rule 1 (length ws ≡ 2056)
    -- "the record is not sound"
    ∷ rule 5 (So (sound ws))
    -- "k not below .. c"
    ∷ rule 6 (k < get_or ws 2 0)
    -- "strike of an absent role"
    ∷ rule 7 (Stands ws k)
    -- "the role can't be struck"
    ∷ record { number = 8; holds = Spared ws k; broken = Bare ws k }
    ∷ []

abbrev pub restore_rules : List ℕ → ℕ → List Rule
restore_rules ws k =
    rule 1 (length ws ≡ 2056)
    ∷ rule 5 (So (sound ws))
    ∷ rule 6 (k < get_or ws 2 0)
    -- "restoring one that stands"
    ∷ record { number = 7; holds = ¬ Stands ws k; broken = Stands ws k }
    ∷ []

abbrev pub eliminate_rules : List ℕ → Weights → Tolerance → List Rule
eliminate_rules ws w t =
    rule 1 (length ws ≡ 2056)
    ∷ rule 5 (So (sound ws))
    -- "a weight or tolerance outside its range"
    ∷ rule 9 (WeightsInRange w × ToleranceInRange t)
    ∷ []

-- review, and quality
abbrev pub weights_rules : List ℕ → Weights → List Rule
weights_rules ws w = rule 1 (length ws ≡ 2056) ∷ rule 5 (So (sound ws)) ∷ rule 9 (WeightsInRange w) ∷ []

abbrev pub may_rules : List ℕ → ℕ → ℕ → List Rule
may_rules ws u p =
    rule 1 (length ws ≡ 2056)
    ∷ rule 5 (So (sound ws))
    -- "u, p .. not below n, m"
    ∷ rule 6 ((u < get_or ws 0 0) × (p < get_or ws 1 0))
    ∷ []

-- ---- both conditions, call by call

-- what an accepted mining of n crew rows, with m permissions, leaves in the record, where it answers c
pub record MinedFrom (n m : ℕ) (crew : List ℕ) (c : ℕ) (ws : List ℕ) : Type 0 where
  -- words 0, 1 and 2, and the crew rows
  pub users : get_or ws 0 0 ≡ n
  pub permissions : get_or ws 1 0 ≡ m
  pub count : get_or ws 2 0 ≡ c
  pub rows : rows_at n ws 8 ≡ rows_at n crew 0
  -- "3, 6 and 7: zero"
  pub zeros : (get_or ws 3 0 ≡ 0) × (get_or ws 6 0 ≡ 0) × (get_or ws 7 0 ≡ 0)
  -- "a set is mined exactly when it is a nonempty intersection of persons' permission sets"
  pub mined : (x : ℕ) → Listed (rows_at c ws 520) x ↔ ((x ≢ 0) × Intersection (rows_at n crew 0) n x)
  -- "each distinct set once, numbered by growing value"
  pub growing : Growing (rows_at c ws 520)
  -- "with all candidates standing"
  pub standing : (k : ℕ) → Stands ws k ↔ (k < c)
  -- "Roles, links ..": the rows are the building of the standing roles
  pub building : BuiltRows ws
  -- and the record is sound
  pub is_sound : So (sound ws)

pub record MiningConditions (n m : ℕ) (crew ws : List ℕ) (r : Mined) : Type 0 where
  pub condition1 : Condition1 (mining_rules n m crew ws) r.code (r.candidates ∷ []) ws r.words
  pub condition2 : r.code ≡ 0 → MinedFrom n m crew r.candidates r.words

-- condition 1 of an editing call
abbrev pub EditCondition1 : List Rule → List ℕ → Edited → Type 0
EditCondition1 rules ws e = Condition1 rules e.replied.code (e.replied.changed ∷ e.replied.examined ∷ []) ws e.words

pub record StrikeConditions (ws : List ℕ) (k : ℕ) (e : Edited) : Type 0 where
  pub condition1 : EditCondition1 (strike_rules ws k) ws e
  -- "a role can be struck exactly when every grant it covers is covered by another standing role"
  pub condition2 : So (sound ws) → Stands ws k → (e.replied.code ≡ 0) ↔ Spared ws k
  -- "R loses k"
  pub loses : e.replied.code ≡ 0 → (j : ℕ) → Stands e.words j ↔ (Stands ws j × (j ≢ k))

pub record RestoreConditions (ws : List ℕ) (k : ℕ) (e : Edited) : Type 0 where
  pub condition1 : EditCondition1 (restore_rules ws k) ws e
  -- "R gains k"
  pub gains : e.replied.code ≡ 0 → (j : ℕ) → Stands e.words j ↔ (Stands ws j ⊎ (j ≡ k))

pub record EliminateConditions (ws : List ℕ) (w : Weights) (t : Tolerance) (e : Edited) : Type 0 where
  pub condition1 : EditCondition1 (eliminate_rules ws w t) ws e
  -- "at most c(c + 1)/2"
  pub taken_up : e.replied.code ≡ 0 → 2 * e.replied.examined ≤ get_or ws 2 0 * (get_or ws 2 0 + 1)
  -- "When elimination ends, each standing role is not strikable or has b·q' ≥ a·q"
  pub ended : e.replied.code ≡ 0 → (k : ℕ) → Stands e.words k → Spared e.words k
      → t.numerator * quality_over e.words w (set_at 2 e.words 4) ≤ t.denominator * quality_over e.words w (set_at 2 e.words 4 ∖ single k)

pub record ReviewConditions (ws : List ℕ) (w : Weights) (e : Edited) : Type 0 where
  pub condition1 : EditCondition1 (weights_rules ws w) ws e
  -- "When a review ends, no single absent candidate would lower q."
  pub ended : e.replied.code ≡ 0 → (k : ℕ) → k < get_or ws 2 0 → ¬ Stands e.words k
      → quality_over e.words w (set_at 2 e.words 4) ≤ quality_over e.words w (set_at 2 e.words 4 ∪ single k)

pub record QualityConditions (ws : List ℕ) (w : Weights) (t : Told) : Type 0 where
  pub condition1 : Condition1 (weights_rules ws w) t.code (t.value ∷ []) ws ws
  -- "w1·(roles) + w2·(direct members) + w3·(direct permissions) + w4·(links), counted over the building" of the standing roles
  pub condition2 : t.code ≡ 0 → t.value ≡ quality_over ws w (set_at 2 ws 4)

pub record MayConditions (ws : List ℕ) (u p : ℕ) (t : Told) : Type 0 where
  pub condition1 : Condition1 (may_rules ws u p) t.code (t.value ∷ []) ws ws
  pub yes_or_no : t.code ≡ 0 → OneOf t.value (0 ∷ 1 ∷ [])
  -- "a person is authorised for an action exactly when the crew list says so"
  pub condition2 : t.code ≡ 0 → (t.value ≡ 1) ↔ So (has (crew_row ws u) p)
  -- "does some role have u as direct member and, by zero or more links downward, reach a role with p direct?"
  pub by_roles : t.code ≡ 0 → (t.value ≡ 1) ↔ Authorised (role_rows_of ws) u p
