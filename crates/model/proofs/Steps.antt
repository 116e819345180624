-- The machine's steps: every state that it reaches keeps the limits and covers each grant; an elimination is a list of accepted strikes, and
-- a review a list of accepted restorations, with the same states.
-- Assumes nothing.
use mathlib.Core.Path.{◌≡◌, refl, sym, ◌∙◌, ap}
use mathlib.Core.Bool.{true, So}
use mathlib.Core.Logic.{◌≢◌}
use mathlib.Core.List.{List, [], ◌∷◌, ◌++◌, map}
use Prim.Native.Nat.{ℕ, zero, suc, ◌+◌, ◌<◌, ◌≤◌, ◌^◌}
use native.Mathlib.Omega.{arith}
use lib.Dec.{eqb}
use lib.ListN.{length, get_or, length-append}
use Rattle.sets.specs.Sets.{◌∪◌, ◌∖◌, single, collect}
use Rattle.sets.proofs.Truth.{by_test, So-not, not-So, eqb_iff, when-true, when-false}
use Rattle.sets.proofs.Members.{has-zero}
use Rattle.sets.proofs.Order.{subset_refl, ∖-lt, ∪-lt, single_lt, collect_lt, collect_iff}
use Rattle.model.specs.Lists.{rows_at}
use Rattle.model.specs.Candidates.{candidates}
use Rattle.model.specs.Hierarchy.{Roles, candidate_count, permission_set}
use Rattle.model.specs.Coverage.{grant, all_covered}
use Rattle.model.specs.Quality.{Weights, Tolerance}
use Rattle.model.specs.State.{State, most_users, most_permissions, most_candidates, roles_of, standing_now, fresh}
use Rattle.model.specs.Machine.{Call, Outcome, reply, refusal, accepted, step, state_after, eliminated, reviewed}
use Rattle.model.specs.Machine.Call.{strike, restore, eliminate, review}
use Rattle.model.proofs.Candidates.{proper_lower, row_candidate}
use Rattle.model.proofs.Reading.{Ordered, user_iff, covers_iff, covered_iff, all_covered_iff, strikable_stands}
use Rattle.model.proofs.Spared.{struck_covered, restored_covered}
use Rattle.model.specs.Record.{Limits}
use Rattle.model.specs.Calls.{mining_refusal}
use Rattle.model.proofs.Refusals.{mining_iff, strike_iff, restore_iff}
use Rattle.model.proofs.Lists.{length-rows_at}
use Rattle.model.proofs.Record.{within_limits_iff, rows_within_iff}
use Rattle.model.proofs.Elimination.{Strikes, eliminated_run}
use Rattle.model.proofs.Review.{Restores, reviewed_run}

-- what the theory of the hierarchy asks holds of every state within the limits
pub limits_ordered : (st : State) → Limits st → Ordered (roles_of st) st.standing
unfolding candidate_count permission_set roles_of
limits_ordered st lim = record { lower = proper_lower st.rows; below = lim.standing_below }

-- another standing set of candidates keeps the limits
pub limits_now : (st : State) (R : ℕ) → Limits st → R < 2 ^ candidate_count (roles_of st) → Limits (standing_now st R)
unfolding standing_now roles_of
limits_now st R lim b =
    record {
      users_some = lim.users_some;
      users_most = lim.users_most;
      permissions_some = lim.permissions_some;
      permissions_most = lim.permissions_most;
      rows_count = lim.rows_count;
      rows_below = lim.rows_below;
      candidates_most = lim.candidates_most;
      standing_below = b;
    }

pub roles_now : (st : State) (R : ℕ) → roles_of (standing_now st R) ≡ roles_of st
unfolding standing_now roles_of
roles_now st R = refl

pub standing_now_lem : (st : State) (R : ℕ) → (standing_now st R).standing ≡ R
unfolding standing_now
standing_now_lem st R = refl

pub now_now : (st : State) (R S : ℕ) → standing_now (standing_now st R) S ≡ standing_now st S
unfolding standing_now
now_now st R S = refl

pub now_same : (st : State) → standing_now st st.standing ≡ st
unfolding standing_now
now_same st = refl

-- ---- a step is refused, or accepted

pub step-accepted : (st : State) (call : Call) → refusal st call ≡ 0
    → step st call ≡ record { replied = reply 0 (accepted st call).changed (accepted st call).examined; state = standing_now st (accepted st call).standing }
unfolding step
step-accepted st call e = when-true (eqb (refusal st call) 0) _ _ ((eqb_iff (refusal st call) 0).1 e)

pub step_refused : (st : State) (call : Call) → refusal st call ≢ 0 → step st call ≡ record { replied = reply (refusal st call) 0 0; state = st }
unfolding step
step_refused st call d = when-false (eqb (refusal st call) 0) _ _ (not-So (eqb (refusal st call) 0) (λ h. d ((eqb_iff (refusal st call) 0).0 h)))

-- which way a step goes is told by its answer
pub step_code : (st : State) (call : Call) → (step st call).replied.code ≡ refusal st call
unfolding reply
step_code st call =
    by_test (eqb (refusal st call) 0)
    (λ h. let e = (eqb_iff (refusal st call) 0).0 h in rw (step-accepted st call e) (sym e))
    (λ h. rw (step_refused st call (λ e. So-not h ((eqb_iff (refusal st call) 0).1 e))) refl)

-- ---- every state that is reached is within the limits and covers each grant

pub record Fit (st : State) : Type 0 where
  pub limits : Limits st
  pub covers_all : So (all_covered (roles_of st) st.standing)

fit_now : (st : State) (R : ℕ) → Fit st → R < 2 ^ candidate_count (roles_of st) → So (all_covered (roles_of st) R) → Fit (standing_now st R)
fit_now st R f b all = record { limits = limits_now st R f.limits b; covers_all = rw (roles_now st R, standing_now_lem st R) all }

pub strikes_covered : (ρ : Roles) (R n S : ℕ) → Strikes ρ R n S → So (all_covered ρ R) → So (all_covered ρ S)
strikes_covered ρ R zero S Strikes.none all = all
strikes_covered ρ R (suc n) S (Strikes.one_more {S = T} k _ m lk s e) all =
    rw e (struck_covered ρ T k s (strikes_covered ρ R n T m all))

pub restores_covered : (ρ : Roles) (R n S : ℕ) → Restores ρ R n S → So (all_covered ρ R) → So (all_covered ρ S)
restores_covered ρ R zero S Restores.none all = all
restores_covered ρ R (suc n) S (Restores.one_more {S = T} k _ m lk a e) all = rw e (restored_covered ρ T (single k) (restores_covered ρ R n T m all))

accepted_fit : (st : State) (call : Call) → refusal st call ≡ 0 → Fit st → Fit (standing_now st (accepted st call).standing)
unfolding accepted
accepted_fit st (strike k) e f =
    let a = (strike_iff st k).0 e in
    fit_now st (st.standing ∖ single k) f (∖-lt (candidate_count (roles_of st)) st.standing (single k) f.limits.standing_below)
    (struck_covered (roles_of st) st.standing k a.2 f.covers_all)
accepted_fit st (restore k) e f =
    let a = (restore_iff st k).0 e in
    fit_now st (st.standing ∪ single k) f
    (∪-lt (candidate_count (roles_of st)) st.standing (single k) f.limits.standing_below (single_lt (candidate_count (roles_of st)) k a.0))
    (restored_covered (roles_of st) st.standing (single k) f.covers_all)
accepted_fit st (eliminate w t) e f =
    let g = eliminated_run (roles_of st) w t st.standing f.limits.standing_below in
    fit_now st (eliminated (roles_of st) w t st.standing).standing f g.below
    (strikes_covered (roles_of st) st.standing (eliminated (roles_of st) w t st.standing).changed (eliminated (roles_of st) w t st.standing).standing
    g.strikes f.covers_all)
accepted_fit st (review w) e f =
    let g = reviewed_run (roles_of st) w st.standing f.limits.standing_below in
    fit_now st (reviewed (roles_of st) w st.standing).standing f g.below
    (restores_covered (roles_of st) st.standing (reviewed (roles_of st) w st.standing).changed (reviewed (roles_of st) w st.standing).standing
    g.restores f.covers_all)

pub step_fit : (st : State) (call : Call) → Fit st → Fit (step st call).state
step_fit st call f =
    by_test (eqb (refusal st call) 0)
    (λ h. let e = (eqb_iff (refusal st call) 0).0 h in rw (step-accepted st call e) (accepted_fit st call e f))
    (λ h. rw (step_refused st call (λ e. So-not h ((eqb_iff (refusal st call) 0).1 e))) f)

pub after_fit : (st : State) (calls : List Call) → Fit st → Fit (state_after st calls)
unfolding state_after
after_fit st [] f = f
after_fit st (call ∷ calls) f = after_fit (step st call).state calls (step_fit st call f)

-- the crew list stays as it is
pub step-rows : (st : State) (call : Call)
    → ((step st call).state.users ≡ st.users) × ((step st call).state.permissions ≡ st.permissions) × ((step st call).state.rows ≡ st.rows)
unfolding standing_now
step-rows st call =
    by_test (eqb (refusal st call) 0) (λ h. rw (step-accepted st call ((eqb_iff (refusal st call) 0).0 h)) (refl, refl, refl))
    (λ h. rw (step_refused st call (λ e. So-not h ((eqb_iff (refusal st call) 0).1 e))) (refl, refl, refl))

pub after_rows_lem : (st : State) (calls : List Call)
    → ((state_after st calls).users ≡ st.users) × ((state_after st calls).permissions ≡ st.permissions) × ((state_after st calls).rows ≡ st.rows)
unfolding state_after
after_rows_lem st [] = (refl, refl, refl)
after_rows_lem st (call ∷ calls) =
    let a = step-rows st call in
    let b = after_rows_lem (step st call).state calls in
    (b.0 ∙ a.0, b.1 ∙ a.1, b.2 ∙ a.2)

-- ---- an elimination, and a review, as a list of single calls

-- every call of the list is accepted
abbrev pub AllAccepted : State → List Call → Type 0
AllAccepted st [] = Unit {0}
AllAccepted st (call ∷ calls) = (refusal st call ≡ 0) × AllAccepted (step st call).state calls

-- n calls, all accepted, lead from one state to the other
pub record Made (st : State) (n : ℕ) (make : ℕ → Call) (end : State) : Type 0 where
  pub roles : List ℕ
  pub many : length roles ≡ n
  pub all_accepted : AllAccepted st (map make roles)
  pub state_then : state_after st (map make roles) ≡ end

pub state_append : (st : State) (calls : List Call) (call : Call) → state_after st (calls ++ (call ∷ [])) ≡ (step (state_after st calls) call).state
unfolding state_after
state_append st [] call = refl
state_append st (first ∷ calls) call = state_append (step st first).state calls call

accepted-append : (st : State) (calls : List Call) (call : Call) → AllAccepted st calls → refusal (state_after st calls) call ≡ 0
    → AllAccepted st (calls ++ (call ∷ []))
unfolding state_after
accepted-append st [] call a e = (e, tt)
accepted-append st (first ∷ calls) call a e = (a.0, accepted-append (step st first).state calls call a.1 e)

map-append : (make : ℕ → Call) (xs : List ℕ) (x : ℕ) → map make (xs ++ (x ∷ [])) ≡ map make xs ++ (make x ∷ [])
map-append make [] x = refl
map-append make (y ∷ xs) x = ap (λ (l : List Call). make y ∷ l) (map-append make xs x)

made_none : (st : State) (make : ℕ → Call) → Made st 0 make st
unfolding state_after
made_none st make = record { roles = []; many = refl; all_accepted = tt; state_then = refl }

made_more : (st : State) (n k : ℕ) (make : ℕ → Call) (mid end : State) → Made st n make mid → refusal mid (make k) ≡ 0
    → (step mid (make k)).state ≡ end → Made st (suc n) make end
made_more st n k make mid end m e s =
    record {
      roles = m.roles ++ (k ∷ []);
      many = length-append m.roles (k ∷ []) ∙ (let x = m.many in let y : length m.roles + 1 ≡ suc n = omega arith in y);
      all_accepted = rw (map-append make m.roles k) (accepted-append st (map make m.roles) (make k) m.all_accepted (rw m.state_then e));
      state_then = rw (map-append make m.roles k) (state_append st (map make m.roles) (make k) ∙ ap (λ (x : State). (step x (make k)).state) m.state_then ∙ s);
    }

pub strikes_made : (st : State) (n S : ℕ) → Strikes (roles_of st) st.standing n S → Made st n strike (standing_now st S)
unfolding accepted
strikes_made st zero S Strikes.none = rw (now_same st) (made_none st strike)
strikes_made st (suc n) S (Strikes.one_more {S = T} k _ m lk s e) =
    let mid = standing_now st T in
    let ok : refusal mid (strike k) ≡ 0 =
    (strike_iff mid k).1
    (rw (roles_now st T) lk, rw (standing_now_lem st T) (strikable_stands (roles_of st) T k s), rw (roles_now st T, standing_now_lem st T) s) in
    made_more st n k strike mid (standing_now st S) (strikes_made st n T m) ok
    (ap (λ (o : Outcome). o.state) (step-accepted mid (strike k) ok) ∙ now_now st T (mid.standing ∖ single k)
    ∙ ap (standing_now st) (ap (λ (x : ℕ). x ∖ single k) (standing_now_lem st T) ∙ sym e))

pub restores_made : (st : State) (n S : ℕ) → Restores (roles_of st) st.standing n S → Made st n restore (standing_now st S)
unfolding accepted
restores_made st zero S Restores.none = rw (now_same st) (made_none st restore)
restores_made st (suc n) S (Restores.one_more {S = T} k _ m lk a e) =
    let mid = standing_now st T in
    let ok : refusal mid (restore k) ≡ 0 = (restore_iff mid k).1 (rw (roles_now st T) lk, rw (standing_now_lem st T) a) in
    made_more st n k restore mid (standing_now st S) (restores_made st n T m) ok
    (ap (λ (o : Outcome). o.state) (step-accepted mid (restore k) ok) ∙ now_now st T (mid.standing ∪ single k)
    ∙ ap (standing_now st) (ap (λ (x : ℕ). x ∪ single k) (standing_now_lem st T) ∙ sym e))

-- "an elimination is a list of accepted single strikes", as many as its answer says, with the same state at its end
pub elimination_made : (st : State) (w : Weights) (t : Tolerance) → Limits st → refusal st (eliminate w t) ≡ 0
    → Made st (step st (eliminate w t)).replied.changed strike (step st (eliminate w t)).state
unfolding accepted reply
elimination_made st w t lim e =
    rw (step-accepted st (eliminate w t) e)
    (strikes_made st (eliminated (roles_of st) w t st.standing).changed (eliminated (roles_of st) w t st.standing).standing
    (eliminated_run (roles_of st) w t st.standing lim.standing_below).strikes)

-- "a review a list of accepted single restorations"
pub review_made : (st : State) (w : Weights) → Limits st → refusal st (review w) ≡ 0
    → Made st (step st (review w)).replied.changed restore (step st (review w)).state
unfolding accepted reply
review_made st w lim e =
    rw (step-accepted st (review w) e)
    (restores_made st (reviewed (roles_of st) w st.standing).changed (reviewed (roles_of st) w st.standing).standing
    (reviewed_run (roles_of st) w st.standing lim.standing_below).restores)

-- ---- a freshly mined state

fresh-covered : (n m : ℕ) (rows : List ℕ) → length rows ≡ n → So (all_covered (roles_of (fresh n m rows)) (fresh n m rows).standing)
unfolding fresh roles_of candidate_count permission_set grant
fresh-covered n m rows e =
    let ρ = roles_of (fresh n m rows) in
    let all = collect (length (candidates rows)) (λ k. true) in
    (all_covered_iff ρ all).1
    (λ u p lu lp g.
    let d : get_or rows u 0 ≢ 0 = λ (z : get_or rows u 0 ≡ 0). So-not (has-zero p) (rw z at g) in
    let r = row_candidate rows u (rw e lu) d in
    (covered_iff ρ all u p).1 (
      r.place,
      r.below,
      (collect_iff (length (candidates rows)) (λ k. true) r.place).1 (r.below, refl),
      (covers_iff ρ r.place u p).1
          ((user_iff ρ r.place u).1 (lu, rw r.there (subset_refl (get_or rows u 0))), rw r.there g),
    ))

-- within the limits, with all candidates standing, each grant is covered: by the role that is the user's own row
pub fresh_fit : (n m : ℕ) (rows : List ℕ) → 1 ≤ n → n ≤ most_users → 1 ≤ m → m ≤ most_permissions → length rows ≡ n
    → ((u : ℕ) → u < n → get_or rows u 0 < 2 ^ m) → length (candidates rows) ≤ most_candidates → Fit (fresh n m rows)
unfolding fresh roles_of candidate_count
fresh_fit n m rows n1 n128 m1 m256 e b few =
    record {
      limits =
          record {
            users_some = n1;
            users_most = n128;
            permissions_some = m1;
            permissions_most = m256;
            rows_count = e;
            rows_below = b;
            candidates_most = few;
            standing_below = collect_lt (length (candidates rows)) (λ k. true);
          };
      covers_all = fresh-covered n m rows e;
    }

-- a crew list that mining accepts gives such a state
pub mining_fit : (n m : ℕ) (crew ws : List ℕ) → mining_refusal n m crew ws ≡ 0 → Fit (fresh n m (rows_at n crew 0))
mining_fit n m crew ws e =
    let rows = rows_at n crew 0 in
    let a = (mining_iff n m crew ws).0 e in
    let k = (within_limits_iff n m).0 a.1 in
    fresh_fit n m rows k.0 k.1 k.2 k.3 (length-rows_at n crew 0)
    (λ u l. (rows_within_iff m rows).0 a.2.1 u (rw (length-rows_at n crew 0) l)) a.3
