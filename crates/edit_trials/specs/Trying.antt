-- A record with its counts, on its way through an elimination or a review; and what its rows would lose or take over where a role is changed.
-- Assumes nothing.
use Rattle.std.specs.Prelude.{◌≡◌, false, List, ℕ, ◌+◌, ◌*◌, ◌≤◌, ◌<◌, take, drop}
use Rattle.std.specs.Int.Count.{ones}
use Rattle.sets.specs.Truth.{total, when◌then◌else◌}
use Rattle.sets.specs.Held.{set_of}
use Rattle.sets.specs.Sets.{has, ◌∩◌, ◌∖◌, single}
use Rattle.model.specs.Lists.{set_at}
use Rattle.model.specs.Hierarchy.{Roles, candidate_count, immediate_juniors, direct_permissions, direct_members}
use Rattle.model.specs.Quality as model
use Rattle.model.specs.Record.{sets_start, permissions_start, members_start, juniors_start, built, state_of, Limits}
use Rattle.model.specs.State.{State, roles_of, standing_now}
use Rattle.model.specs.Machine.{Run}
use Rattle.hierarchy.specs.Tables.{less_all, immediate_seniors}
use Rattle.indexes.specs.declared.index.Index.{Index}
use Rattle.indexes.specs.Index.{Indexed}
use Rattle.rows.specs.Linked.{Ready}
use Rattle.edit_rows.specs.Neighbours.{Neighbours}
use Rattle.quality.specs.declared.counts.Counts.{Counts}
use Rattle.quality.specs.Numbers.{counts_in}
use Rattle.edit_trials.specs.declared.progress.Progress.{Progress}
use Rattle.edit_trials.specs.declared.trial.Trial.{Trial}
use Rattle.tables.specs.Tables.{table256_length}

-- ---- sums over some of the roles

-- the sum of f over the items of s below n
unfoldable pub over : ℕ → ℕ → (ℕ → ℕ) → ℕ
over n s f = total n (λ i. when has s i then f i else 0)

-- how many items the sets of the roles s share with `own`, where w words to a set stand from place `start` on
unfoldable pub shared : ℕ → List ℕ → ℕ → ℕ → ℕ → ℕ
shared w ws start own s = over 128 s (λ i. ones (set_at w ws (start + w * i) ∩ own))

-- the immediate seniors of role i but k, by the table of them; and its immediate juniors but k, by the record
unfoldable pub other_seniors : List ℕ → ℕ → ℕ → ℕ
other_seniors seniors k i = set_at 2 seniors (2 * i) ∖ single k

unfoldable pub other_juniors : List ℕ → ℕ → ℕ → ℕ
other_juniors ws k i = set_at 2 ws (juniors_start + 2 * i) ∖ single k

-- how many items of `own` the roles s would take over, each those that none of its other neighbours has in the table
unfoldable pub taken_over : ℕ → List ℕ → ℕ → (ℕ → ℕ) → ℕ → ℕ
taken_over w table own others s = over 128 s (λ i. ones (less_all w table own (others i)))

-- ---- counts

-- a role counted: itself, its direct members us and direct permissions ps, and its links, from its immediate seniors s and to its immediate juniors t
unfoldable pub role_counts : ℕ → ℕ → ℕ → ℕ → model.Counts
role_counts us ps s t = record { roles = 1; members = ones us; permissions = ones ps; links = ones t + ones s }

-- role k counted, in the building of S
unfoldable pub counted_in : Roles → ℕ → ℕ → model.Counts
counted_in ρ S k = role_counts (direct_members ρ S k) (direct_permissions ρ S k) (immediate_seniors ρ S k) (immediate_juniors ρ S k)

-- what the rows of a record would lose if role k came back, with the immediate seniors s and the immediate juniors t
unfoldable pub lost_at : List ℕ → Index → ℕ → ℕ → ℕ → model.Counts
lost_at ws index k s t =
    record {
      roles = 0;
      members = shared 2 ws members_start (set_at 2 index.users (2 * k)) t;
      permissions = shared 4 ws permissions_start (set_at 4 ws (sets_start + 4 * k)) s;
      links = shared 2 ws juniors_start t s;
    }

-- what they would take over if role k were struck
unfoldable pub taken_at : List ℕ → Index → List ℕ → ℕ → ℕ → ℕ → model.Counts
taken_at ws index seniors k s t =
    record {
      roles = 0;
      members = taken_over 2 index.users (set_at 2 ws (members_start + 2 * k)) (other_seniors seniors k) t;
      permissions = taken_over 4 (take table256_length (drop sets_start ws)) (set_at 4 ws (permissions_start + 4 * k)) (other_juniors ws k) s;
      links = taken_over 2 index.lower t (other_juniors ws k) s;
    }

-- none of the first counts is above the second
pub record Within (a b : Counts) : Type 0 where
  pub roles : a.roles ≤ b.roles
  pub members : a.members ≤ b.members
  pub permissions : a.permissions ≤ b.permissions
  pub links : a.links ≤ b.links

-- r are the counts q less `before`, and with `after`
pub record Corrected (q before after r : Counts) : Type 0 where
  pub roles : r.roles + before.roles ≡ q.roles + after.roles
  pub members : r.members + before.members ≡ q.members + after.members
  pub permissions : r.permissions + before.permissions ≡ q.permissions + after.permissions
  pub links : r.links + before.links ≡ q.links + after.links

-- q are the counts of the building of a record's own state
abbrev pub Exact : List ℕ → Counts → Type 0
Exact ws q = counts_in q ≡ model.counts (roles_of (state_of ws)) (state_of ws).standing

-- role k is an absent candidate of the record built afresh from a state, with its index
pub record Restorable (st : State) (ws : List ℕ) (index : Index) (k : ℕ) : Type 0 where
  pub limits : Limits st
  pub afresh : ws ≡ built st
  pub indexed : Indexed (roles_of st) index
  pub candidate : k < candidate_count (roles_of st)
  pub absent : has st.standing k ≡ false

-- a trial of role k: the counts of the building of `after`, and its neighbours in the building of `with`, in which it stands
pub record Tried (ρ : Roles) (with after k : ℕ) (r : Trial) : Type 0 where
  pub counts : counts_in r.counts ≡ model.counts ρ after
  pub neighbours : Neighbours ρ with k (set_of r.links.above) (set_of r.links.below)

-- ---- a run

-- the machine's run that a record, the progress and a worklist hold
unfoldable pub run_at : List ℕ → Progress → ℕ → Run
run_at ws g worklist =
    record { standing = (state_of ws).standing; worklist = worklist; reference = g.quality; changed = g.changed; examined = g.examined }

-- the record is one of the state's crew list, with another standing set
abbrev pub SameCrewList : State → List ℕ → Type 0
SameCrewList st ws = state_of ws ≡ standing_now st (state_of ws).standing

-- a record with its index and its immediate seniors, and the progress with its counts
pub record InStep (ws : List ℕ) (index : Index) (seniors : List ℕ) (g : Progress) : Type 0 where
  pub ready : Ready (state_of ws) ws index seniors
  pub exact : Exact ws g.counts
