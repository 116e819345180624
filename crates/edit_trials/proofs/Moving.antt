-- A restoration that is not written: the counts with k, from what the record holds without it.
-- Assumes nothing.
use mathlib.Core.Path.{◌≡◌, sym, ◌∙◌, ap, ap₂}
use mathlib.Core.List.{List}
use Prim.Native.Nat.{ℕ, ◌+◌, ◌*◌, ◌^◌, ◌<◌}
use native.Mathlib.Nat.{lt_of_lt_of_le}
use native.Mathlib.Omega.{arith}
use lib.Count.{ones}
use lib.Dec.{ltb}
use lib.ListN.{take, drop}
use Rattle.sets.specs.Truth.{when◌then◌else◌}
use Rattle.sets.specs.Sets.{has, ◌∩◌, ◌∪◌, ◌∖◌, single}
use Rattle.sets.proofs.Order.{∪-lt, single_lt, collect_lt, has_with, with_without}
use Rattle.model.specs.Lists.{set_at}
use Rattle.model.specs.Hierarchy.{Roles, candidate_count, permission_set, authorised_users, immediate_juniors, direct_permissions, direct_members}
use Rattle.model.specs.Quality as model
use Rattle.model.specs.Record.{sets_start}
use Rattle.model.specs.State.{State, roles_of}
use Rattle.model.proofs.Changes.{restored_ordered}
use Rattle.model.proofs.Record.{immediate_juniors_lt}
use Rattle.model.proofs.Steps.{limits_ordered}
use Rattle.tables.specs.Tables.{HoldsSets}
use Rattle.tables.proofs.Parts.{set_at_part}
use Rattle.hierarchy.specs.Tables.{Numbered, Narrow, immediate_seniors}
use Rattle.indexes.specs.declared.index.Index.{Index}
use Rattle.indexes.specs.Index.{LowerRoles, RoleUsers}
use Rattle.indexes.proofs.Sources.{numbered, narrow}
use Rattle.edit_rows.specs.Neighbours.{Neighbours}
use Rattle.edit_rows.proofs.Changing.{sets_read, juniors_read, members_read, permissions_read, put_standing_lem, put_found}
use Rattle.quality.specs.declared.counts.Counts.{Counts}
use Rattle.quality.specs.Numbers.{counts_in, Few}
use Rattle.edit_trials.specs.Trying.{shared, lost_at, counted_in, Within, Corrected, Restorable}
use Rattle.edit_trials.proofs.Sums.{over_read}
use Rattle.edit_trials.proofs.Coming.{taken_from, came, came_within}
use Rattle.edit_trials.proofs.Counting.{exact_few}

module _ (st : State) (ws : List ℕ) (index : Index) (k : ℕ) (given : Restorable st ws index k) where
  abbrev ρ : Roles
  ρ = roles_of st

  abbrev Q : ℕ
  Q = st.standing

  abbrev S : ℕ
  S = st.standing ∪ single k

  abbrev c : ℕ
  c = candidate_count (roles_of st)

  back : (st.standing ∪ single k) ∖ single k ≡ st.standing
  back = with_without Q k given.absent

  small : (i : ℕ) → i < candidate_count (roles_of st) → i < 128
  small i l = lt_of_lt_of_le l given.limits.candidates_most

  -- ---- what the rows lose

  -- one kind of entry: the row of i in the record, and what it shares with k
  row : (i x : ℕ) (f : ℕ → ℕ → ℕ) (own own' : ℕ) → x ≡ f st.standing i → own ≡ own' → ones (x ∩ own) ≡ ones (f ((st.standing ∪ single k) ∖ single k) i ∩ own')
  row i x f own own' held eo = ap₂ (λ (x y : ℕ). ones (x ∩ y)) (held ∙ ap (λ (x : ℕ). f x i) (sym back)) eo

  own_read : set_at 4 ws (sets_start + 4 * k) ≡ permission_set (roles_of st) k
  own_read = let li = small k given.candidate in sym (set_at_part 4 sets_start 512 ws (4 * k) (omega arith)) ∙ sets_read st given.limits ws given.afresh k given.candidate

  module _ (s t : ℕ) (near : Neighbours (roles_of st) (st.standing ∪ single k) k s t) where
    lost_read : lost_at ws index k s t ≡ taken_from (roles_of st) (st.standing ∪ single k) k
    unfolding lost_at shared taken_from
    lost_read =
        let few = given.limits.candidates_most in
        let seniors-below = collect_lt c (λ i. has (immediate_juniors ρ S i) k) in
        let members = over_read c t (immediate_juniors ρ S k) _ (λ j. ones (direct_members ρ (S ∖ single k) j ∩ authorised_users ρ k)) few near.juniors (immediate_juniors_lt ρ S k)
        (λ j l x. row j _ (direct_members ρ) _ _ (members_read st given.limits ws given.afresh j (small j l)) (given.indexed.role_users k given.candidate)) in
        let permissions = over_read c s (immediate_seniors ρ S k) _ (λ i. ones (direct_permissions ρ (S ∖ single k) i ∩ permission_set ρ k)) few near.seniors seniors-below
        (λ i l x. row i _ (direct_permissions ρ) _ _ (permissions_read st given.limits ws given.afresh i (small i l)) own_read) in
        let links = over_read c s (immediate_seniors ρ S k) _ (λ i. ones (immediate_juniors ρ (S ∖ single k) i ∩ immediate_juniors ρ S k)) few near.seniors seniors-below
        (λ i l x. row i _ (immediate_juniors ρ) _ _ (juniors_read st given.limits ws given.afresh i (small i l)) near.juniors) in
        λ i. record { roles = 0; members = members i; permissions = permissions i; links = links i }

    module _ (q a : Counts) (eq : counts_in q ≡ model.counts (roles_of st) st.standing) (ea : counts_in a ≡ lost_at ws index k s t) where
      without : counts_in q ≡ model.counts (roles_of st) ((st.standing ∪ single k) ∖ single k)
      without = eq ∙ ap (model.counts ρ) (sym back)

      pub tried_within : Few q × Within a q
      tried_within = (exact_few st given.limits q eq, came_within ρ S k q a without (ea ∙ lost_read))

      pub tried_exact : (b r : Counts) → counts_in b ≡ counted_in (roles_of st) (st.standing ∪ single k) k → Corrected q a b r
          → counts_in r ≡ model.counts (roles_of st) (st.standing ∪ single k)
      tried_exact b r eb h = came ρ S k q a without (ea ∙ lost_read) (restored_ordered ρ Q k given.candidate (limits_ordered st given.limits)) (has_with Q k) b r eb h

  -- ---- the role's neighbours and what it brings, found for the standing set with it

  module _ (r R : ℕ) (er : r ≡ set_at 2 ws 4) (e_r : R ≡ (when ltb k 128 then r ∪ single k else r)) where
    same : R ≡ st.standing ∪ single k
    same = put_standing_lem st given.limits ws given.afresh k (small k given.candidate) r R er e_r

    pub tried_neighbours : (s t : ℕ) → ((ρ : Roles) → Numbered ρ → LowerRoles ρ index → R < 2 ^ candidate_count ρ → Neighbours ρ R k s t)
        → Neighbours (roles_of st) (st.standing ∪ single k) k s t
    tried_neighbours = put_found st given.limits ws index given.afresh given.indexed k (small k given.candidate) r R er e_r given.candidate

    pub tried_gained : (s t : ℕ) → Neighbours (roles_of st) (st.standing ∪ single k) k s t → (b : Counts)
        → ((ρ : Roles) → Numbered ρ → Narrow ρ → HoldsSets 4 (candidate_count ρ) (permission_set ρ) (take 512 (drop sets_start ws)) → RoleUsers ρ index → R < 2 ^ candidate_count ρ → Neighbours ρ R k s t → counts_in b ≡ counted_in ρ R k)
        → counts_in b ≡ counted_in (roles_of st) (st.standing ∪ single k) k
    tried_gained s t near b h =
        rw same at
        (h ρ (numbered st given.limits) (narrow st given.limits) (sets_read st given.limits ws given.afresh) given.indexed.role_users (rw same (∪-lt c Q (single k) given.limits.standing_below (single_lt c k given.candidate))) (rw same near))
