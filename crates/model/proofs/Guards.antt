-- Small crew lists that tell the right machine from a wrong reading of it, and one computed test over them all.
-- Assumes nothing.
use mathlib.Core.Path.{refl}
use mathlib.Core.Bool.{Bool, true, false, So}
use mathlib.Core.List.{List, [], ◌∷◌}
use Prim.Native.Nat.{ℕ}
use lib.Dec.{eqb}
use lib.ListN.{length}
use Rattle.sets.specs.Truth.{◌and◌}
use Rattle.model.specs.Quality.{Weights}
use Rattle.model.specs.State.{fresh}
use Rattle.model.specs.Machine.{Call, Reply, reply, state_after, replies_to}
use Rattle.model.specs.Machine.Call.{strike, eliminate, review}
use Rattle.model.proofs.Everything.{everything}

-- a crew list with m permissions, calls on its freshly mined state, the right answers and the standing set after them
pub record Guard : Type 0 where
  pub permissions : ℕ
  pub rows : List ℕ
  pub calls : List Call
  pub answers : List Reply
  pub standing : ℕ

pub same_answers : List Reply → List Reply → Bool
same_answers [] [] = true
same_answers [] (b ∷ bs) = false
same_answers (a ∷ rest) [] = false
same_answers (a ∷ rest) (b ∷ bs) = eqb a.code b.code and eqb a.changed b.changed and eqb a.examined b.examined and same_answers rest bs

pub guard_holds : Guard → Bool
guard_holds g =
    let start = fresh (length g.rows) g.permissions g.rows in
    same_answers (replies_to start g.calls) g.answers and eqb (state_after start g.calls).standing g.standing

pub all_hold : List Guard → Bool
all_hold [] = true
all_hold (g ∷ gs) = guard_holds g and all_hold gs

abbrev weights : ℕ → ℕ → ℕ → ℕ → Weights
weights w1 w2 w3 w4 = record { per_role = w1; per_member = w2; per_permission = w3; per_link = w4 }

abbrev eliminates : ℕ → ℕ → ℕ → ℕ → ℕ → ℕ → Call
eliminates w1 w2 w3 w4 a b = eliminate (weights w1 w2 w3 w4) (record { numerator = a; denominator = b })

abbrev reviews : ℕ → ℕ → ℕ → ℕ → Call
reviews w1 w2 w3 w4 = review (weights w1 w2 w3 w4)

abbrev guard : ℕ → List ℕ → List Call → List Reply → ℕ → Guard
guard m rows calls answers standing = record { permissions = m; rows = rows; calls = calls; answers = answers; standing = standing }

pub guards : List Guard
guards =
    -- striking at b·q' = a·q
    guard 3 (3 ∷ 5 ∷ []) (eliminates 1 0 1 0 1 1 ∷ []) (reply 0 0 1 ∷ []) 7
    -- ties by the higher number
    ∷ guard 3 (1 ∷ 3 ∷ 6 ∷ []) (eliminates 1 0 0 0 1 1 ∷ []) (reply 0 1 2 ∷ []) 13
    -- redundancy counted over all standing roles
    ∷ guard 4 (3 ∷ 5 ∷ 10 ∷ []) (eliminates 0 0 0 1 1 1 ∷ []) (reply 0 1 3 ∷ []) 27
    -- redundancy counted over the worklist
    ∷ guard 4 (3 ∷ 3 ∷ 5 ∷ 14 ∷ []) (eliminates 0 1 3 0 9 8 ∷ []) (reply 0 2 9 ∷ []) 43
    -- ordering anew inside a pass
    ∷ guard 3 (3 ∷ 5 ∷ 6 ∷ []) (eliminates 1 0 0 0 1 1 ∷ []) (reply 0 3 6 ∷ []) 52
    -- one pass only
    ∷ guard 3 (1 ∷ 3 ∷ 6 ∷ []) (eliminates 1 0 1 0 1 1 ∷ []) (reply 0 1 3 ∷ []) 11
    -- every trial compared with the quality at the start
    ∷ guard 3 (3 ∷ 5 ∷ 7 ∷ []) (eliminates 1 0 1 0 1 1 ∷ []) (reply 0 1 3 ∷ []) 7
    -- review at q' = q
    ∷ guard 3 (3 ∷ 5 ∷ []) (strike 0 ∷ reviews 1 0 1 0 ∷ []) (reply 0 0 0 ∷ reply 0 0 1 ∷ []) 6
    -- one pass of a review only
    ∷ guard 3 (3 ∷ 5 ∷ 7 ∷ []) (strike 0 ∷ strike 3 ∷ reviews 0 1 0 0 ∷ []) (reply 0 0 0 ∷ reply 0 0 0 ∷ reply 0 1 3 ∷ []) 14
    -- review by falling number
    ∷ guard 3 (4 ∷ 2 ∷ 1 ∷ 5 ∷ 7 ∷ []) (eliminates 2 0 3 1 2 1 ∷ reviews 1 1 0 0 ∷ []) (reply 0 2 2 ∷ reply 0 1 3 ∷ []) 15
    -- a role that is tried and not struck leaving the worklist
    ∷ guard 4 (5 ∷ 14 ∷ 13 ∷ []) (eliminates 1 0 2 0 1 1 ∷ []) (reply 0 1 5 ∷ []) 23
    -- a role covering its own grants
    ∷ guard 3 (3 ∷ 6 ∷ 7 ∷ []) (strike 1 ∷ []) (reply 8 0 0 ∷ []) 15
    -- users' own sets dropped
    ∷ guard 3 (3 ∷ 6 ∷ 7 ∷ []) (eliminates 1 1 1 1 1 1 ∷ []) (reply 0 2 2 ∷ []) 6
    -- a member left direct two links below
    ∷ guard 3 (3 ∷ 5 ∷ 7 ∷ []) (eliminates 0 1 0 0 1 1 ∷ []) (reply 0 0 2 ∷ []) 15
    ∷ []

pub guards_hold : So (all_hold guards)
unfolding everything same_answers guard_holds all_hold guards
guards_hold = refl
