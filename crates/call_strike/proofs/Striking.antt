-- The checks of a strike on a record that was let in, and what an accepted one leaves.
-- Assumes nothing.
use mathlib.Core.Path.{◌≡◌, refl, sym, ◌∙◌}
use mathlib.Core.Bool.{Bool, false, So}
use mathlib.Core.List.{List}
use Prim.Native.Nat.{ℕ, ◌≤◌, ◌<◌}
use lib.ListN.{get_or}
use Rattle.sets.specs.Sets.{has, ◌∖◌, single}
use Rattle.model.specs.Lists.{set_at}
use Rattle.model.specs.Coverage.{strikable}
use Rattle.model.specs.Hierarchy.{candidate_count}
use Rattle.model.specs.Machine.{refusal, accepted}
use Rattle.model.specs.Machine.Call.{strike}
use Rattle.model.specs.State.{State, roles_of, standing_now}
use Rattle.model.specs.Record.{built, state_of, Limits}
use Rattle.model.specs.Calls.{unfit, edit}
use Rattle.model.proofs.Refusals.{strike_is_6, strike_is_7, strike_is_8, strike_iff}
use Rattle.indexes.specs.declared.index.Index.{Index}
use Rattle.indexes.specs.Index.{Indexed}
use Rattle.rows.specs.Linked.{Ready}
use Rattle.calls_edit.proofs.Edits.{replied_with, edit_accepted, role_count, standing_word}

module _ (ws : List ℕ) (index : Index) (seniors : List ℕ) (ready : Ready (state_of ws) ws index seniors) (k : ℕ) where
  count : get_or ws 2 0 ≡ candidate_count (roles_of (state_of ws))
  count = role_count ws ready.limits ready.afresh

  pub strike_6 : get_or ws 2 0 ≤ k → 6 ≡ refusal (state_of ws) (strike k)
  strike_6 l = sym (strike_is_6 (state_of ws) k (rw count at l))

  module _ (l : k < get_or ws 2 0) (t : Bool) (R : ℕ) (e : R ≡ set_at 2 ws 4) (et : t ≡ has R k) where
    below : k < candidate_count (roles_of (state_of ws))
    below = rw count at l

    mark : t ≡ has (state_of ws).standing k
    mark = et ∙ standing_word ws R k e

    pub strike_7 : t ≡ false → 7 ≡ refusal (state_of ws) (strike k)
    strike_7 f = sym (strike_is_7 (state_of ws) k below (sym mark ∙ f))

    module _ (here : So t) (can : Bool)
        (told : (st : State) → Limits st → ws ≡ built st → Indexed (roles_of st) index → So (has st.standing k) → can ≡ strikable (roles_of st) st.standing k) where
      able : can ≡ strikable (roles_of (state_of ws)) (state_of ws).standing k
      able = told (state_of ws) ready.limits ready.afresh ready.indexed (sym mark ∙ here)

      pub strike_8 : can ≡ false → 8 ≡ refusal (state_of ws) (strike k)
      strike_8 f = sym (strike_is_8 (state_of ws) k below (sym mark ∙ here) (sym able ∙ f))

      pub strike_0 : So can → 0 ≡ refusal (state_of ws) (strike k)
      strike_0 h = sym ((strike_iff (state_of ws) k).1 (below, sym mark ∙ here, sym able ∙ h))

-- the record without the role
pub struck : (ws after : List ℕ) (index : Index) (seniors : List ℕ) (k : ℕ) → unfit ws ≡ 0 → refusal (state_of ws) (strike k) ≡ 0
    → Ready (standing_now (state_of ws) ((state_of ws).standing ∖ single k)) after index seniors → replied_with 0 after ≡ edit ws (strike k)
unfolding accepted
struck ws after index seniors k z e done =
    edit_accepted ws (strike k) z e (accepted (state_of ws) (strike k)) after refl done.afresh
