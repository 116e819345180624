-- The two checks of the question whether a user may, and its answer.
-- Assumes nothing.
use mathlib.Core.Path.{◌≡◌, sym, ◌∙◌}
use mathlib.Core.Bool.{Bool}
use mathlib.Core.List.{List}
use Prim.Native.Nat.{ℕ, ◌<◌}
use Rattle.std.specs.Prelude.{Ok, Err}
use lib.ListN.{get_or}
use Rattle.sets.specs.Truth.{bit}
use Rattle.sets.specs.Sets.{has}
use Rattle.sets.proofs.Truth.{same_iff}
use Rattle.model.specs.Hierarchy.{candidate_count}
use Rattle.model.specs.Chains.{may}
use Rattle.model.specs.State.{roles_of}
use Rattle.model.specs.Record.{state_of, role_rows_of}
use Rattle.model.specs.Refusals.{pair_refusal}
use Rattle.model.specs.Calls.{unfit, may_of}
use Rattle.model.proofs.Refusals.{unfit_iff, pair_check}
use Rattle.model.proofs.Sound.{may_granted}
use Rattle.refusals.specs.declared.Refusal.{Refusal}
use Rattle.refusals.specs.Numbers.{number_of}
use Rattle.calls.proofs.Telling.{told_first, told_second, told_value}
use Rattle.call_may.specs.Results.{may_result}

module _ (ws : List ℕ) (u p : ℕ) where
  -- a refused one: by the entrance, or by its numbers
  pub may_unfit : (r : Refusal) → number_of r ≡ unfit ws → may_result (Err r) ≡ may_of ws u p
  unfolding may_of
  may_unfit r e = told_first (unfit ws) _ _ r e

  -- words 0 and 1 are the numbers of users and permissions
  pub may_refused : unfit ws ≡ 0 → (r : Refusal) → number_of r ≡ pair_refusal (get_or ws 0 0) (get_or ws 1 0) u p → may_result (Err r) ≡ may_of ws u p
  unfolding may_of state_of
  may_refused z r e = told_second (unfit ws) _ _ z r e

  -- and one that is answered
  pub may_given : (can : Bool) → unfit ws ≡ 0 → pair_refusal (get_or ws 0 0) (get_or ws 1 0) u p ≡ 0
      → can ≡ may (candidate_count (roles_of (state_of ws))) (role_rows_of ws) u p → may_result (Ok can) ≡ may_of ws u p
  unfolding may_of state_of
  may_given can z zp e = (λ i. record { code = 0; value = bit (e i) }) ∙ told_value (unfit ws) _ _ z zp

  -- the second reading: on a record that fits, what the links give is what the crew list grants
  pub may_by_crew : unfit ws ≡ 0 → u < (state_of ws).users → p < (state_of ws).permissions
      → may_of ws u p ≡ record { code = 0; value = bit (has (get_or (state_of ws).rows u 0) p) }
  unfolding may_of
  may_by_crew z lu lp =
      let by : may (candidate_count (roles_of (state_of ws))) (role_rows_of ws) u p ≡ has (get_or (state_of ws).rows u 0) p =
      same_iff (may (candidate_count (roles_of (state_of ws))) (role_rows_of ws) u p) (has (get_or (state_of ws).rows u 0) p) (may_granted ws ((unfit_iff ws).0 z) u p lu lp) in
      sym (told_value (unfit ws) _ _ z ((pair_check (state_of ws).users (state_of ws).permissions u p).passes (lu, lp))) ∙ (λ i. record { code = 0; value = bit (by i) })
