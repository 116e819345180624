-- Items of sets counted, role by role.
-- Assumes nothing.
use mathlib.Core.Path.{◌≡◌, refl, ◌∙◌, ap}
use mathlib.Core.List.{List}
use Prim.Native.Nat.{ℕ, ◌+◌, ◌*◌, ◌^◌, ◌≤◌, ◌<◌}
use native.Mathlib.Omega.{arith}
use lib.Count.{ones, ones-le}
use lib.ListN.{take, drop}
use Rattle.model.specs.Lists.{set_at}
use Rattle.model.specs.Hierarchy.{Roles, direct_permissions, direct_members}
use Rattle.model.specs.Quality as model
use Rattle.model.specs.Record.{sets_start, permissions_start, members_start, juniors_start, Limits}
use Rattle.model.specs.State.{State, roles_of}
use Rattle.model.proofs.Bounds.{Small, counts_small}
use Rattle.model.proofs.Steps.{limits_ordered}
use Rattle.indexes.specs.declared.index.Index.{Index}
use Rattle.edit_rows.specs.Neighbours.{Neighbours}
use Rattle.quality.specs.declared.counts.Counts.{Counts}
use Rattle.quality.specs.Numbers.{counts_in, Few}
use Rattle.edit_trials.specs.Trying.{shared, other_seniors, other_juniors, taken_over, role_counts, counted_in, lost_at, taken_at}

-- a count of a set in w bits
pub count_small : (w s n : ℕ) → s < 2 ^ w → n ≡ ones s → n ≤ w
count_small w s n b e = rw e (ones-le w s b)

-- ---- the code's counts

counts_are : (q : Counts) (m : model.Counts) → q.roles ≡ m.roles → q.members ≡ m.members → q.permissions ≡ m.permissions → q.links ≡ m.links → counts_in q ≡ m
unfolding counts_in
counts_are q m r u p l i = record { roles = r i; members = u i; permissions = p i; links = l i }

pub lost_all : (q : Counts) (ws : List ℕ) (index : Index) (k s t held own : ℕ) → held ≡ set_at 2 index.users (2 * k) → own ≡ set_at 4 ws (sets_start + 4 * k)
    → q.roles ≡ 0 → q.members ≡ shared 2 ws members_start held t → q.permissions ≡ shared 4 ws permissions_start own s → q.links ≡ shared 2 ws juniors_start t s
    → counts_in q ≡ lost_at ws index k s t
unfolding lost_at
lost_all q ws index k s t held own eh eo er em ep el =
    counts_are q (lost_at ws index k s t) er (em ∙ ap (λ (x : ℕ). shared 2 ws members_start x t) eh)
    (ep ∙ ap (λ (x : ℕ). shared 4 ws permissions_start x s) eo) el

pub taken_counts : (q : Counts) (ws : List ℕ) (index : Index) (seniors : List ℕ) (k s t us ps : ℕ) → us ≡ set_at 2 ws (members_start + 2 * k) → ps ≡ set_at 4 ws (permissions_start + 4 * k)
    → q.roles ≡ 0 → q.members ≡ taken_over 2 index.users us (other_seniors seniors k) t
    → q.permissions ≡ taken_over 4 (take 512 (drop sets_start ws)) ps (other_juniors ws k) s
    → q.links ≡ taken_over 2 index.lower t (other_juniors ws k) s → counts_in q ≡ taken_at ws index seniors k s t
unfolding taken_at
taken_counts q ws index seniors k s t us ps eu ep er em eq el =
    counts_are q (taken_at ws index seniors k s t) er (em ∙ ap (λ (x : ℕ). taken_over 2 index.users x (other_seniors seniors k) t) eu)
    (eq ∙ ap (λ (x : ℕ). taken_over 4 (take 512 (drop sets_start ws)) x (other_juniors ws k) s) ep) el

pub role_all : (q : Counts) (us ps s t : ℕ) → q.roles ≡ 1 → q.members ≡ ones us → q.permissions ≡ ones ps → q.links ≡ ones t + ones s → counts_in q ≡ role_counts us ps s t
unfolding role_counts
role_all q us ps s t er em ep el = counts_are q (role_counts us ps s t) er em ep el

-- a role's row that was found is that of the building
pub role_counted : (ρ : Roles) (S k us ps s t : ℕ) → us ≡ direct_members ρ S k → ps ≡ direct_permissions ρ S k → Neighbours ρ S k s t → role_counts us ps s t ≡ counted_in ρ S k
unfolding counted_in
role_counted ρ S k us ps s t eu ep near = rw (eu, ep, near.seniors, near.juniors) refl

-- exact counts are few
pub exact_few : (st : State) → Limits st → (q : Counts) → counts_in q ≡ model.counts (roles_of st) st.standing → Few q
unfolding counts_in roles_of
exact_few st lim q e =
    let s : Small (counts_in q) = rw e (counts_small (roles_of st) st.standing (limits_ordered st lim) lim.users_most lim.permissions_most lim.candidates_most) in
    record { roles = s.roles; members = s.members; permissions = s.permissions; links = let z = s.links in omega arith }
