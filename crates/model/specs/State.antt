-- "The machine's state is the crew list and R, nothing else."
-- Assumes nothing.
use Rattle.std.specs.Prelude.{Bool, true, List, ℕ, ◌^◌, leb, ltb, length, get_or}
use Rattle.sets.specs.Truth.{◌and◌, all}
use Rattle.sets.specs.Sets.{collect}
use Rattle.model.specs.Candidates.{candidates}
use Rattle.model.specs.Hierarchy.{Roles}

pub record State : Type 0 where
  -- n, m, and the crew row of each user
  pub users : ℕ
  pub permissions : ℕ
  pub rows : List ℕ
  -- R, the standing set of roles
  pub standing : ℕ

-- the candidate roles of a state: candidates, grants and members all come from the crew rows
unfoldable pub roles_of : State → Roles
roles_of st =
    record {
      users = st.users;
      permissions = st.permissions;
      granted = st.rows;
      possible = st.rows;
      sets = candidates st.rows;
    }

-- the same crew list with another standing set
unfoldable pub standing_now : State → ℕ → State
standing_now st R = record { users = st.users; permissions = st.permissions; rows = st.rows; standing = R }

-- "Fresh from mining, R is all candidates."
unfoldable pub fresh : ℕ → ℕ → List ℕ → State
fresh n m rows = record { users = n; permissions = m; rows = rows; standing = collect (length (candidates rows)) (λ k. true) }

-- "n from 1 to 128", "m from 1 to 256", "c at most 128"
abbrev pub most_users : ℕ
most_users = 128

abbrev pub most_permissions : ℕ
most_permissions = 256

abbrev pub most_candidates : ℕ
most_candidates = 128

unfoldable pub within_limits : ℕ → ℕ → Bool
within_limits n m = leb 1 n and leb n most_users and leb 1 m and leb m most_permissions

-- no crew row has a bit at m or above
unfoldable pub rows_within : ℕ → List ℕ → Bool
rows_within m rows = all (length rows) (λ u. ltb (get_or rows u 0) (2 ^ m))
