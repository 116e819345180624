-- An elimination's work: what it computes once beside the record and its index.
-- Assumes nothing.
use Rattle.std.specs.Prelude.{◌≡◌, ◌↔◌, List, ℕ, ◌*◌, ◌≤◌, ◌<◌, eqb, get_or}
use Rattle.std.proofs.Math.Bool.{So}
use Rattle.sets.specs.Truth.{isnt}
use Rattle.sets.specs.Held.{set_of}
use Rattle.sets.specs.Sets.{has, subset, collect}
use Rattle.sets.specs.Extremes.{LowestItem}
use Rattle.model.specs.Lists.{set_at}
use Rattle.model.specs.Hierarchy.{Roles, candidate_count}
use Rattle.model.specs.Indexes.{roles_of_user, down_from, up_from, first_holders}
use Rattle.tables.specs.Tables.{HoldsSets}
use Rattle.hierarchy.specs.Tables.{Numbered}
use Rattle.indexes.specs.declared.index.Index.{Index}
use Rattle.indexes.specs.Index.{Indexed}
use Rattle.edit_work.specs.declared.work.Work.{Work}

-- no table has anything
pub record Blank (ws : Work) : Type 0 where
  pub down : (i : ℕ) → get_or ws.down i 0 ≡ 0
  pub up : (i : ℕ) → get_or ws.up i 0 ≡ 0
  pub samples : (i : ℕ) → get_or ws.samples i 0 ≡ 0
  pub holding : (i : ℕ) → get_or ws.holding i 0 ≡ 0
  pub further : (i : ℕ) → get_or ws.further i 0 ≡ 0
  pub first : set_of ws.first ≡ 0

-- entry k of a table
abbrev pub entries : List ℕ → ℕ → ℕ
entries table k = set_at 2 table (2 * k)

-- the items of s are the lowest ones of the first n entries of the table
abbrev pub LowestOf : ℕ → List ℕ → ℕ → Type 0
LowestOf n ws s = (i : ℕ) → So (has s i) ↔ ((j : ℕ) × (j < n) × LowestItem 128 (set_at 2 ws (2 * j)) i)

-- the roles down and up from each
pub record UpAndDown (ρ : Roles) (ws : Work) : Type 0 where
  pub few : candidate_count ρ ≤ 128
  pub down : HoldsSets 2 (candidate_count ρ) (down_from ρ) ws.down
  pub up : HoldsSets 2 (candidate_count ρ) (up_from ρ) ws.up

-- ---- sample users: one for each set of roles that users have

-- the users that have a role
unfoldable pub users_with_roles : Roles → ℕ
users_with_roles ρ = collect ρ.users (λ u. isnt (eqb (roles_of_user ρ u) 0))

-- found 0, found 1, .. are the roles of `count` samples of these users: those of some of them, and each of them has those of a sample
pub record SamplesOf (users : ℕ) (roles : ℕ → ℕ) (count : ℕ) (found : ℕ → ℕ) : Type 0 where
  pub user_of : (i : ℕ) → i < count → (u : ℕ) × So (has users u) × (found i ≡ roles u)
  pub sample_of : (u : ℕ) → So (has users u) → (i : ℕ) × (i < count) × (found i ≡ roles u)

-- the samples that hold role k
unfoldable pub holding : ℕ → (ℕ → ℕ) → ℕ → ℕ
holding count found k = collect count (λ i. has (found i) k)

-- the samples that have all roles of sample i: i itself, and those further up
unfoldable pub further : ℕ → (ℕ → ℕ) → ℕ → ℕ
further count found i = collect count (λ j. subset (found i) (found j))

-- the samples of all users: the roles of each, and for each role the samples that hold it
pub record Sampled (ρ : Roles) (count : ℕ) (found : ℕ → ℕ) (ws : Work) : Type 0 where
  pub few : count ≤ 128
  pub of_users : SamplesOf (users_with_roles ρ) (roles_of_user ρ) count found
  pub roles : HoldsSets 2 count found ws.samples
  pub held : HoldsSets 2 (candidate_count ρ) (holding count found) ws.holding

-- sample i is one of `all` samples, for some roles
pub record KnownSample (ws : Work) (all i : ℕ) : Type 0 where
  pub whose : Roles
  pub count : ℕ
  pub found : ℕ → ℕ
  pub reach : UpAndDown whose ws
  pub samples : Sampled whose count found ws
  pub one : i < count
  pub everyone : (j : ℕ) → So (has all j) ↔ (j < count)

-- ---- what the redundancies of these roles are computed from; it changes with the crew list only

pub record Prepared (ρ : Roles) (ws : Work) : Type 0 where
  pub reach : UpAndDown ρ ws
  -- how many samples there are, and the roles of each
  pub count : ℕ
  pub found : ℕ → ℕ
  pub samples : Sampled ρ count found ws
  pub beyond : HoldsSets 2 count (further count found) ws.further
  pub first : set_of ws.first ≡ first_holders ρ

-- prepared for some roles, c of them; and an index of some roles, c of them
abbrev pub PreparedFor : ℕ → Work → Type 0
PreparedFor c ws = (ρ : Roles) × (candidate_count ρ ≡ c) × Prepared ρ ws

abbrev pub IndexedFor : ℕ → Index → Type 0
IndexedFor c index = (ρ : Roles) × (candidate_count ρ ≡ c) × Numbered ρ × Indexed ρ index
