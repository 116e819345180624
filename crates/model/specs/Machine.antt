-- The plain machine: strike, restore, eliminate, review. It is fed kinds and numbers, never the record.
-- Assumes nothing.
use Rattle.std.specs.Prelude.{Bool, List, [], ◌∷◌, ℕ, zero, suc, ◌*◌, min, eqb, ltb}
use Rattle.std.specs.Int.Count.{ones}
use Rattle.sets.specs.Truth.{◌and◌, ◌or◌, isnt, when◌then◌else◌, any, none}
use Rattle.sets.specs.Sets.{has, ◌∩◌, ◌∪◌, ◌∖◌, single, collect}
use Rattle.model.specs.Hierarchy.{Roles, candidate_count}
use Rattle.model.specs.Coverage.{grant, covers, strikable, strikables}
use Rattle.model.specs.Quality.{Weights, Tolerance, quality}
use Rattle.model.specs.State.{State, roles_of, standing_now}
use Rattle.model.specs.Refusals.{◌or_else◌, role_refusal, absent_refusal, standing_refusal, strike_refusal, weights_refusal, tolerance_refusal}

-- ---- redundancy, and the order of a pass

-- the least of b and of f at the indices below n
unfoldable pub least : ℕ → (ℕ → ℕ) → ℕ → ℕ
least zero f b = b
least (suc n) f b = min (f n) (least n f b)

-- the candidates that cover (u, p)
unfoldable pub coverers : Roles → ℕ → ℕ → ℕ
coverers ρ u p = collect (candidate_count ρ) (λ k. covers ρ k u p)

-- "Redundancy of k is the least, over the grants that k covers, of the number of strikable standing roles covering that grant":
-- s is the set of the strikable standing roles, and no such number is above c
unfoldable pub redundancy : Roles → ℕ → ℕ → ℕ
redundancy ρ s k =
    least ρ.users
    (λ u.
    least ρ.permissions
    (λ p. when grant ρ u p and covers ρ k u p then ones (coverers ρ u p ∩ s) else candidate_count ρ)
    (candidate_count ρ))
    (candidate_count ρ)

-- k goes before j: "larger redundancy first, ties by lower number"
unfoldable pub before : (ℕ → ℕ) → ℕ → ℕ → Bool
before key k j = ltb (key j) (key k) or eqb (key k) (key j) and ltb k j

-- the lowest index below n that passes f
unfoldable pub first : ℕ → (ℕ → Bool) → ℕ
first zero f = 0
first (suc n) f = when any n f then first n f else n

-- the role of the set s that no other of s goes before
unfoldable pub foremost : ℕ → (ℕ → ℕ) → ℕ → ℕ
foremost c key s = first c (λ k. has s k and none c (λ j. has s j and before key j k))

-- ---- eliminate

-- how far an elimination or a review has come
pub record Run : Type 0 where
  pub standing : ℕ
  -- "the worklist" of an elimination
  pub worklist : ℕ
  -- q, the quality that the next trial is compared with
  pub reference : ℕ
  -- how many roles were struck, or restored, and how many were taken up
  pub changed : ℕ
  pub examined : ℕ

-- the run after role k was taken up and left the worklist; after it was struck besides, which leaves the quality q; and after it stays
unfoldable pub after_drop : ℕ → Run → Run
after_drop k r =
    record {
      standing = r.standing;
      worklist = r.worklist ∖ single k;
      reference = r.reference;
      changed = r.changed;
      examined = suc r.examined;
    }

unfoldable pub after_strike : ℕ → ℕ → Run → Run
after_strike k q r =
    record {
      standing = r.standing ∖ single k;
      worklist = r.worklist ∖ single k;
      reference = q;
      changed = suc r.changed;
      examined = suc r.examined;
    }

unfoldable pub after_stay : Run → Run
after_stay r =
    record {
      standing = r.standing;
      worklist = r.worklist;
      reference = r.reference;
      changed = r.changed;
      examined = suc r.examined;
    }

-- "not strikable now, it leaves the worklist; else, with q' the quality after striking it, it is struck and leaves when b·q' < a·q, and otherwise stays"
unfoldable pub take_up : Roles → Weights → Tolerance → ℕ → Run → Run
take_up ρ w t k r =
    let q' = quality ρ w (r.standing ∖ single k) in
    when isnt (strikable ρ r.standing k) then after_drop k r
    else when ltb (t.denominator * q') (t.numerator * r.reference) then after_strike k q' r
    else after_stay r

-- ---- the passes, over any function `take` that takes one role up

-- the roles of `todo`, of which there are `left`, taken up in the order of the key
unfoldable pub take_up_all : Roles → (ℕ → Run → Run) → (ℕ → ℕ) → ℕ → ℕ → Run → Run
take_up_all ρ take key zero todo r = r
take_up_all ρ take key (suc left) todo r =
    let k = foremost (candidate_count ρ) key todo in
    take_up_all ρ take key left (todo ∖ single k) (take k r)

-- a pass "orders the worklist from the state at its start": by redundancy
unfoldable pub pass : Roles → (ℕ → Run → Run) → Run → Run
pass ρ take r =
    let s = strikables ρ r.standing in
    take_up_all ρ take (redundancy ρ s) (ones r.worklist) r.worklist r

-- "A pass runs while the worklist is nonempty and, after the first, only if the pass before struck something." Each pass but the last
-- strikes a role, so c + 1 passes are enough.
unfoldable pub passes : Roles → (ℕ → Run → Run) → ℕ → Run → Run
passes ρ take zero r = r
passes ρ take (suc fuel) r =
    let next = pass ρ take r in
    let rest = passes ρ take fuel next in
    when eqb r.worklist 0 then r else when eqb next.changed r.changed then next else rest

-- a run that begins from R with this worklist: q is the quality of R, and nothing has been taken up
unfoldable pub begin : Roles → Weights → ℕ → ℕ → Run
begin ρ w worklist R = record { standing = R; worklist = worklist; reference = quality ρ w R; changed = 0; examined = 0 }

-- Eliminate, from R: "The worklist begins as all strikable roles."
unfoldable pub eliminated : Roles → Weights → Tolerance → ℕ → Run
eliminated ρ w t R = passes ρ (take_up ρ w t) (suc (candidate_count ρ)) (begin ρ w (strikables ρ R) R)

-- ---- review

-- the run after role k was taken up and restored, which leaves the quality q
unfoldable pub after_restore : ℕ → ℕ → Run → Run
after_restore k q r =
    record {
      standing = r.standing ∪ single k;
      worklist = r.worklist;
      reference = q;
      changed = suc r.changed;
      examined = suc r.examined;
    }

-- an absent candidate is taken up, and restored where its "return makes q strictly smaller"
unfoldable pub try_restore : Roles → Weights → ℕ → Run → Run
try_restore ρ w k r =
    let q' = quality ρ w (r.standing ∪ single k) in
    when has r.standing k then r else when ltb q' r.reference then after_restore k q' r else after_stay r

-- "A pass takes up the absent candidates by growing number": those below k
unfoldable pub review_to : Roles → Weights → ℕ → Run → Run
review_to ρ w zero r = r
review_to ρ w (suc k) r = try_restore ρ w k (review_to ρ w k r)

-- "passes repeat until one restores nothing": each before the last restores a role, so c + 1 passes are enough
unfoldable pub review_passes : Roles → Weights → ℕ → Run → Run
review_passes ρ w zero r = r
review_passes ρ w (suc fuel) r =
    let next = review_to ρ w (candidate_count ρ) r in
    let rest = review_passes ρ w fuel next in
    when eqb next.changed r.changed then next else rest

-- Review, from R: it needs no worklist
unfoldable pub reviewed : Roles → Weights → ℕ → Run
reviewed ρ w R = review_passes ρ w (suc (candidate_count ρ)) (begin ρ w 0 R)

-- ---- calls and answers

-- "Its steps", each with the numbers that it is fed
pub data Call : Type 0 where
  strike : ℕ → Call
  restore : ℕ → Call
  eliminate : Weights → Tolerance → Call
  review : Weights → Call

-- an answer: a refusal's number, or 0, and the numbers beside it: how many roles a run struck or restored, and how many it took up
pub record Reply : Type 0 where
  pub code : ℕ
  pub changed : ℕ
  pub examined : ℕ

unfoldable pub reply : ℕ → ℕ → ℕ → Reply
reply code changed examined = record { code = code; changed = changed; examined = examined }

-- the first of 6, 7, 8 and 9 that applies, or 0
unfoldable pub refusal : State → Call → ℕ
refusal st (strike k) = role_refusal (roles_of st) k or_else absent_refusal st.standing k or_else strike_refusal (roles_of st) st.standing k
refusal st (restore k) = role_refusal (roles_of st) k or_else standing_refusal st.standing k
refusal st (eliminate w t) = weights_refusal w or_else tolerance_refusal t
refusal st (review w) = weights_refusal w

-- the standing set and the numbers that an accepted step leaves: "R loses k", "R gains k", or a run
unfoldable pub accepted : State → Call → Run
accepted st (strike k) =
    record { standing = st.standing ∖ single k; worklist = 0; reference = 0; changed = 0; examined = 0 }
accepted st (restore k) =
    record { standing = st.standing ∪ single k; worklist = 0; reference = 0; changed = 0; examined = 0 }
accepted st (eliminate w t) = eliminated (roles_of st) w t st.standing
accepted st (review w) = reviewed (roles_of st) w st.standing

-- what a step answers, and the state that it leaves
pub record Outcome : Type 0 where
  pub replied : Reply
  pub state : State

-- "it keeps its state and answers the first such number and zeros. Otherwise it answers 0, with the numbers that the step names."
unfoldable pub step : State → Call → Outcome
step st call =
    let r = accepted st call in
    when eqb (refusal st call) 0 then record { replied = reply 0 r.changed r.examined; state = standing_now st r.standing }
    else record { replied = reply (refusal st call) 0 0; state = st }

-- ---- a list of calls: the state after it, and the answers

unfoldable pub state_after : State → List Call → State
state_after st [] = st
state_after st (call ∷ calls) = state_after (step st call).state calls

unfoldable pub replies_to : State → List Call → List Reply
replies_to st [] = []
replies_to st (call ∷ calls) = (step st call).replied ∷ replies_to (step st call).state calls
