-- The starred cases of document 01, one theorem about the definitions: "Rows 3, 6, 7, m = 3, weights 1." Beside them a table of refusals.
-- Assumes nothing.
use mathlib.Core.Path.{◌≡◌, refl}
use mathlib.Core.Bool.{Bool, true, false, So}
use mathlib.Core.List.{List, [], ◌∷◌}
use Prim.Native.Nat.{ℕ}
use lib.Dec.{eqb}
use lib.ListN.{length}
use Rattle.sets.specs.Truth.{◌and◌, isnt, when◌then◌else◌}
use Rattle.model.specs.Candidates.{candidates}
use Rattle.model.specs.Hierarchy.{Roles, immediate_juniors, direct_permissions, direct_members}
use Rattle.model.specs.Quality.{Weights, quality, Tolerance}
use Rattle.model.specs.Lists.{tabulate}
use Rattle.model.specs.State.{State, roles_of, fresh}
use Rattle.model.specs.Record.{record_length, sound}
use Rattle.model.specs.Refusals.{◌unless◌, ◌or_else◌, length_refusal, soundness_refusal, pair_refusal}
use Rattle.model.specs.Calls.{unfit, mining_refusal, edit, told, quality_of, may_of}
use Rattle.model.specs.Machine.{Call, reply, refusal, state_after, replies_to}
use Rattle.model.specs.Machine.Call.{strike, restore, eliminate, review}
use Rattle.model.proofs.Everything.{everything}

abbrev rows : List ℕ
rows = 3 ∷ 6 ∷ 7 ∷ []

abbrev start : State
start = fresh 3 3 rows

abbrev ones4 : Weights
ones4 = record { per_role = 1; per_member = 1; per_permission = 1; per_link = 1 }

abbrev even : Tolerance
even = record { numerator = 1; denominator = 1 }

abbrev ρ : Roles
ρ = roles_of start

pub record Starred : Type 0 where
  pub mined : candidates rows ≡ 2 ∷ 3 ∷ 6 ∷ 7 ∷ []
  pub quality_fresh : quality ρ ones4 start.standing ≡ 14
  pub juniors : tabulate 4 (immediate_juniors ρ start.standing) ≡ 0 ∷ 1 ∷ 1 ∷ 6 ∷ []
  pub permissions : tabulate 4 (direct_permissions ρ start.standing) ≡ 2 ∷ 1 ∷ 4 ∷ 0 ∷ []
  pub members : tabulate 4 (direct_members ρ start.standing) ≡ 0 ∷ 1 ∷ 2 ∷ 4 ∷ []
  pub strike_0 : replies_to start (strike 0 ∷ []) ≡ reply 0 0 0 ∷ []
  pub quality_0 : quality ρ ones4 (state_after start (strike 0 ∷ [])).standing ≡ 12
  pub permissions_0 : tabulate 4 (direct_permissions ρ (state_after start (strike 0 ∷ [])).standing) ≡ 0 ∷ 3 ∷ 6 ∷ 0 ∷ []
  pub standing_0_3 : (state_after start (strike 0 ∷ strike 3 ∷ [])).standing ≡ 6
  pub quality_0_3 : quality ρ ones4 (state_after start (strike 0 ∷ strike 3 ∷ [])).standing ≡ 10
  pub refusals : replies_to start (strike 1 ∷ restore 0 ∷ strike 4 ∷ []) ≡ reply 8 0 0 ∷ reply 7 0 0 ∷ reply 6 0 0 ∷ []
  pub eliminates_and_reviews : replies_to start (eliminate ones4 even ∷ review ones4 ∷ []) ≡ reply 0 2 2 ∷ reply 0 0 2 ∷ []

pub starred : Starred
unfolding everything
starred =
    record {
      mined = refl;
      quality_fresh = refl;
      juniors = refl;
      permissions = refl;
      members = refl;
      strike_0 = refl;
      quality_0 = refl;
      permissions_0 = refl;
      standing_0_3 = refl;
      quality_0_3 = refl;
      refusals = refl;
      eliminates_and_reviews = refl;
    }

-- ---- the refusals: their numbers, their order in each call, and the edges of each range

-- the three crew rows as words
abbrev crew : List ℕ
crew = 3 ∷ 0 ∷ 0 ∷ 0 ∷ 6 ∷ 0 ∷ 0 ∷ 0 ∷ 7 ∷ 0 ∷ 0 ∷ 0 ∷ []

abbrev weights : ℕ → Weights
weights w = record { per_role = 1; per_member = 1; per_permission = 1; per_link = w }

abbrev eliminates : ℕ → ℕ → ℕ → Call
eliminates w a b = eliminate (weights w) (record { numerator = a; denominator = b })

-- role 0 was struck
abbrev less : State
less = state_after start (strike 0 ∷ [])

-- each line of a table: an answer, and the paper's number
pub all_agree : List (ℕ × ℕ) → Bool
all_agree [] = true
all_agree (line ∷ lines) = eqb line.0 line.1 and all_agree lines

-- on no words at all, 1 comes before all others
pub refusals : List (ℕ × ℕ)
refusals =
    (mining_refusal 0 3 [] [], 1)
    ∷ ((edit [] (strike 4)).replied.code, 1)
    ∷ ((edit [] (eliminates 1001 1 1)).replied.code, 1)
    ∷ ((quality_of [] (weights 1001)).code, 1)
    ∷ ((may_of [] 3 3).code, 1)
    -- strike: 6, 7, 8
    ∷ (refusal start (strike 4), 6)
    ∷ (refusal less (strike 0), 7)
    ∷ (refusal start (strike 1), 8)
    ∷ (refusal start (strike 0), 0)
    -- restore: 6, 7
    ∷ (refusal start (restore 4), 6)
    ∷ (refusal start (restore 0), 7)
    ∷ (refusal less (restore 0), 0)
    -- weights to 1,000; b from 1 to 1,000, a from b to 2b
    ∷ (refusal start (eliminates 1001 1 1), 9)
    ∷ (refusal start (eliminates 1000 0 0), 9)
    ∷ (refusal start (eliminates 1000 1001 1001), 9)
    ∷ (refusal start (eliminates 1000 999 1000), 9)
    ∷ (refusal start (eliminates 1000 2001 1000), 9)
    ∷ (refusal start (eliminates 1000 1000 1000), 0)
    ∷ (refusal start (eliminates 1000 2000 1000), 0)
    ∷ (refusal start (review (weights 1001)), 9)
    ∷ (refusal start (review (weights 1000)), 0)
    -- u below n and p below m
    ∷ (pair_refusal 3 4 3 3, 6)
    ∷ (pair_refusal 3 4 2 4, 6)
    ∷ (pair_refusal 3 4 2 3, 0)
    -- zero beside a number, and a value beside 0
    ∷ ((told 5 7).code, 5)
    ∷ ((told 5 7).value, 0)
    ∷ ((told 0 7).code, 0)
    ∷ ((told 0 7).value, 7)
    ∷ []

pub refusals_agree : So (all_agree refusals)
unfolding everything refusals all_agree
refusals_agree = refl

module _ (ws : List ℕ) (whole : length ws ≡ record_length) where
  -- mining into 2,056 words, whatever they hold: 2, 3
  pub mining_refusals : List (ℕ × ℕ)
  mining_refusals =
      (mining_refusal 0 3 crew ws, 2)
      ∷ (mining_refusal 129 3 crew ws, 2)
      ∷ (mining_refusal 3 0 crew ws, 2)
      ∷ (mining_refusal 3 257 crew ws, 2)
      ∷ (mining_refusal 2 3 crew ws, 3)
      ∷ (mining_refusal 3 2 crew ws, 3)
      ∷ (mining_refusal 3 3 crew ws, 0)
      ∷ []

  pub mining_agrees : So (all_agree mining_refusals)
  unfolding everything mining_refusals all_agree
  mining_agrees = rw whole refl

  -- 2,056 words that are not sound: 5 before a call's own numbers
  module _ (bad : sound ws ≡ false) where
    pub unsound_refusals : List (ℕ × ℕ)
    unsound_refusals =
        ((edit ws (strike 4)).replied.code, 5)
        ∷ ((edit ws (restore 4)).replied.code, 5)
        ∷ ((edit ws (eliminates 1001 1 1)).replied.code, 5)
        ∷ ((edit ws (review (weights 1001))).replied.code, 5)
        ∷ ((quality_of ws (weights 1001)).code, 5)
        ∷ ((may_of ws 900 900).code, 5)
        ∷ []

    pub unsound_agrees : So (all_agree unsound_refusals)
    unfolding edit quality_of may_of told unfit length_refusal soundness_refusal ◌unless◌ ◌or_else◌ ◌and◌ isnt when◌then◌else◌ reply unsound_refusals all_agree
    unsound_agrees = rw (whole, bad) refl
