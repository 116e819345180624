-- The building of a standing set R: A(k), senior, immediately senior, direct permissions, direct members.
-- Assumes nothing.
use Rattle.std.specs.Prelude.{Bool, List, ℕ, length, get_or}
use Rattle.sets.specs.Truth.{◌and◌, none}
use Rattle.sets.specs.Sets.{has, subset, proper_subset, collect}

-- the candidate roles of a crew list, and whom they serve. Users are the "persons" of 01
pub record Roles : Type 0 where
  -- n, the number of users, and m, that of permissions
  pub users : ℕ
  pub permissions : ℕ
  -- the crew row of each user: the grants that roles must cover
  pub granted : List ℕ
  -- the row of each user that decides of which roles the user may be a member: the crew row, unless a state says otherwise
  pub possible : List ℕ
  -- S(k) of each candidate role k
  pub sets : List ℕ

-- c, the number of candidates
unfoldable pub candidate_count : Roles → ℕ
candidate_count ρ = length ρ.sets

-- S(k)
unfoldable pub permission_set : Roles → ℕ → ℕ
permission_set ρ k = get_or ρ.sets k 0

-- A(k): "the set of persons whose crew row contains S(k)"; it asks the possible row, which `roles_of` makes the crew row
unfoldable pub authorised_users : Roles → ℕ → ℕ
authorised_users ρ k = collect ρ.users (λ u. subset (permission_set ρ k) (get_or ρ.possible u 0))

-- "Role k is senior to j, both in R, when S(k) properly contains S(j)."
unfoldable pub senior : Roles → ℕ → ℕ → ℕ → Bool
senior ρ R k j = has R k and has R j and proper_subset (permission_set ρ j) (permission_set ρ k)

-- "It is immediately senior when no third role of R lies strictly between."
unfoldable pub immediately_senior : Roles → ℕ → ℕ → ℕ → Bool
immediately_senior ρ R k j = senior ρ R k j and none (candidate_count ρ) (λ i. senior ρ R k i and senior ρ R i j)

-- ---- a role's row: immediate juniors, direct permissions and direct members; a role outside R has zero rows

-- "immediate juniors"
unfoldable pub immediate_juniors : Roles → ℕ → ℕ → ℕ
immediate_juniors ρ R k = collect (candidate_count ρ) (λ j. immediately_senior ρ R k j)

-- of n items, those that a role k of R has itself: what its own set holds less the sets of all that take away from it. There are c roles, and
-- `takes j k` says that j takes away from k
unfoldable pub direct_of : ℕ → ℕ → ℕ → (ℕ → ℕ → Bool) → (ℕ → ℕ) → ℕ → ℕ
direct_of n c R takes own k = collect n (λ i. has R k and has (own k) i and none c (λ j. takes j k and has (own j) i))

-- direct permissions: "S(k) less the sets of all its juniors"
unfoldable pub direct_permissions : Roles → ℕ → ℕ → ℕ
direct_permissions ρ R k = direct_of ρ.permissions (candidate_count ρ) R (λ j k. senior ρ R k j) (permission_set ρ) k

-- direct members: "A(k) less A of all its seniors"
unfoldable pub direct_members : Roles → ℕ → ℕ → ℕ
direct_members ρ R k = direct_of ρ.users (candidate_count ρ) R (senior ρ R) (authorised_users ρ) k

-- the row of each role, whoever made it: the building of R, or what a record's words hold
pub record RoleRows : Type 0 where
  pub juniors : ℕ → ℕ
  pub permissions : ℕ → ℕ
  pub members : ℕ → ℕ

-- "The building of R"
unfoldable pub building : Roles → ℕ → RoleRows
building ρ R = record { juniors = immediate_juniors ρ R; permissions = direct_permissions ρ R; members = direct_members ρ R }
