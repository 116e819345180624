-- What the words of any record, and of a sound one, say of its roles.
-- Assumes nothing.
use mathlib.Core.Path.{◌≡◌, refl, sym, ◌∙◌, ap, subst}
use mathlib.Core.Bool.{So}
use mathlib.Core.Logic.{◌↔◌}
use mathlib.Core.List.{List}
use Prim.Native.Nat.{ℕ, ◌+◌, ◌*◌, ◌≤◌, ◌<◌}
use lib.Dec.{ltb}
use lib.ListN.{get_or}
use Rattle.sets.specs.Sets.{has}
use Rattle.sets.proofs.Truth.{ltb_iff, when-true}
use Rattle.model.specs.Lists.{set_at}
use Rattle.model.specs.Hierarchy.{candidate_count, building}
use Rattle.model.specs.Chains.{may, Authorised}
use Rattle.model.specs.Quality.{counted, counts}
use Rattle.model.specs.State.{roles_of}
use Rattle.model.specs.Record.{state_of, sound, juniors_start, members_start, permissions_start, role_rows_of}
use Rattle.model.proofs.Record.{read_count, sound-built}
use Rattle.model.proofs.Building.{building_below}
use Rattle.model.proofs.Chains.{may_iff, RoleRowsBelow}
use Rattle.model.proofs.Steps.{limits_ordered}
use Rattle.model.proofs.Notions.{rows_read_lem}
use Rattle.model.proofs.Claim.{sound_fit, words_authorised}

-- ---- the rows of any record, below its number of roles

module _ (ws : List ℕ) (k : ℕ) (l : k < get_or ws 2 0) where
  pub row_juniors : (role_rows_of ws).juniors k ≡ set_at 2 ws (juniors_start + 2 * k)
  unfolding role_rows_of
  row_juniors = when-true (ltb k (get_or ws 2 0)) (set_at 2 ws (juniors_start + 2 * k)) 0 ((ltb_iff k (get_or ws 2 0)).1 l)

  pub row_permissions : (role_rows_of ws).permissions k ≡ set_at 4 ws (permissions_start + 4 * k)
  unfolding role_rows_of
  row_permissions = when-true (ltb k (get_or ws 2 0)) (set_at 4 ws (permissions_start + 4 * k)) 0 ((ltb_iff k (get_or ws 2 0)).1 l)

  pub row_members : (role_rows_of ws).members k ≡ set_at 2 ws (members_start + 2 * k)
  unfolding role_rows_of
  row_members = when-true (ltb k (get_or ws 2 0)) (set_at 2 ws (members_start + 2 * k)) 0 ((ltb_iff k (get_or ws 2 0)).1 l)

-- ---- a sound record

module _ (ws : List ℕ) (h : So (sound ws)) where
  -- word 2 is c
  pub sound_count : get_or ws 2 0 ≡ candidate_count (roles_of (state_of ws))
  sound_count = ap (λ (l : List ℕ). get_or l 2 0) (sound-built ws h) ∙ read_count (state_of ws) (sound_fit ws h).limits

  pub sound_few : get_or ws 2 0 ≤ 128
  sound_few = rw sound_count (sound_fit ws h).limits.candidates_most

  -- the rows are those of the building
  pub sound_rows : role_rows_of ws ≡ building (roles_of (state_of ws)) (state_of ws).standing
  sound_rows = rows_read_lem ws h

  pub sound_below : RoleRowsBelow (candidate_count (roles_of (state_of ws))) (role_rows_of ws)
  sound_below = rw sound_rows (building_below (roles_of (state_of ws)) (state_of ws).standing (limits_ordered (state_of ws) (sound_fit ws h).limits))

  -- the counts over the record's rows, as the quality call has them
  pub counts_read : counted (get_or ws 2 0) (role_rows_of ws) (set_at 2 ws 4) ≡ counted (candidate_count (roles_of (state_of ws))) (role_rows_of ws) (state_of ws).standing
  unfolding state_of
  counts_read = rw sound_count refl

  -- and those of the building
  pub sound_counts : counted (get_or ws 2 0) (role_rows_of ws) (set_at 2 ws 4) ≡ counts (roles_of (state_of ws)) (state_of ws).standing
  unfolding counts state_of
  sound_counts = rw (sound_count, sound_rows) refl

  -- may, in the paper's own words
  pub may_authorised : (u p : ℕ) → So (may (candidate_count (roles_of (state_of ws))) (role_rows_of ws) u p) ↔ Authorised (role_rows_of ws) u p
  may_authorised u p = may_iff (candidate_count (roles_of (state_of ws))) (role_rows_of ws) sound_below u p

  -- and by the crew list
  pub may_granted : (u p : ℕ) → u < (state_of ws).users → p < (state_of ws).permissions
      → So (may (candidate_count (roles_of (state_of ws))) (role_rows_of ws) u p) ↔ So (has (get_or (state_of ws).rows u 0) p)
  may_granted u p lu lp =
      let a = may_authorised u p in
      let b : Authorised (role_rows_of ws) u p ↔ So (has (get_or (state_of ws).rows u 0) p) =
      subst (λ (l : List ℕ). Authorised (role_rows_of l) u p ↔ So (has (get_or (state_of ws).rows u 0) p)) (sym (sound-built ws h))
      (words_authorised (state_of ws) (sound_fit ws h) u p lu lp) in
      (λ x. b.0 (a.0 x), λ x. a.1 (b.1 x))
