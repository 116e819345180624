-- The checks of a restoration on a record that was let in, and what an accepted one leaves.
-- Assumes nothing.
use mathlib.Core.Path.{◌≡◌, refl, sym, ◌∙◌}
use mathlib.Core.Bool.{Bool, false, So}
use mathlib.Core.List.{List}
use Prim.Native.Nat.{ℕ, ◌≤◌, ◌<◌}
use lib.ListN.{get_or}
use Rattle.sets.specs.Sets.{has, ◌∪◌, single}
use Rattle.model.specs.Lists.{set_at}
use Rattle.model.specs.Hierarchy.{candidate_count}
use Rattle.model.specs.Machine.{refusal, accepted}
use Rattle.model.specs.Machine.Call.{restore}
use Rattle.model.specs.State.{roles_of, standing_now}
use Rattle.model.specs.Record.{state_of}
use Rattle.model.specs.Calls.{unfit, edit}
use Rattle.model.proofs.Refusals.{restore_is_6, restore_is_7, restore_iff}
use Rattle.rows.specs.Linked.{Ready}
use Rattle.calls_edit.proofs.Edits.{replied_with, edit_accepted, role_count, standing_word}
use Rattle.indexes.specs.declared.index.Index.{Index}

module _ (ws : List ℕ) (index : Index) (seniors : List ℕ) (ready : Ready (state_of ws) ws index seniors) (k : ℕ) where
  count : get_or ws 2 0 ≡ candidate_count (roles_of (state_of ws))
  count = role_count ws ready.limits ready.afresh

  pub restore_6 : get_or ws 2 0 ≤ k → 6 ≡ refusal (state_of ws) (restore k)
  restore_6 l = sym (restore_is_6 (state_of ws) k (rw count at l))

  module _ (l : k < get_or ws 2 0) (t : Bool) (R : ℕ) (e : R ≡ set_at 2 ws 4) (et : t ≡ has R k) where
    below : k < candidate_count (roles_of (state_of ws))
    below = rw count at l

    mark : t ≡ has (state_of ws).standing k
    mark = et ∙ standing_word ws R k e

    pub restore_7 : So t → 7 ≡ refusal (state_of ws) (restore k)
    restore_7 here = sym (restore_is_7 (state_of ws) k below (sym mark ∙ here))

    pub restore_0 : t ≡ false → 0 ≡ refusal (state_of ws) (restore k)
    restore_0 gone = sym ((restore_iff (state_of ws) k).1 (below, sym mark ∙ gone))

-- the record with the role
pub restored : (ws after : List ℕ) (index : Index) (seniors : List ℕ) (k : ℕ) → unfit ws ≡ 0 → refusal (state_of ws) (restore k) ≡ 0
    → Ready (standing_now (state_of ws) ((state_of ws).standing ∪ single k)) after index seniors → replied_with 0 after ≡ edit ws (restore k)
unfolding accepted
restored ws after index seniors k z e done =
    edit_accepted ws (restore k) z e (accepted (state_of ws) (restore k)) after refl done.afresh
