-- What the functions over whole records are given, and one user's part of coverage.
-- Assumes nothing.
use Rattle.std.specs.Prelude.{◌≡◌, Bool, ◌⊎◌, List, ℕ, ◌+◌, ◌*◌, ◌≤◌, ◌<◌, length, get_or}
use Rattle.sets.specs.Truth.{◌implies◌, all}
use Rattle.sets.specs.Sets.{◌∩◌}
use Rattle.model.specs.Coverage.{grant, covered}
use Rattle.model.specs.Hierarchy.{candidate_count}
use Rattle.model.specs.Indexes.{roles_of_user}
use Rattle.model.specs.Record.{record_length, crew_start, sets_start, permissions_start, Limits}
use Rattle.model.specs.State.{State, roles_of}
use Rattle.tables.specs.Tables.{ZeroFrom}
use Rattle.rows.specs.Partway.{Region}

-- a record with nothing in it but the candidates xs
pub record OnlyCandidates (ws xs : List ℕ) : Type 0 where
  pub size : length ws ≡ record_length
  pub sets : Region 4 sets_start (λ k. get_or xs k 0) ws
  pub rest : (i : ℕ) → (i < sets_start) ⊎ (permissions_start ≤ i) → get_or ws i 0 ≡ 0

-- a state within the limits whose crew rows are the n sets of `crew`, with m permissions, c candidates and the standing set r
pub record Described (st : State) (crew : List ℕ) (n m c r : ℕ) : Type 0 where
  pub limits : Limits st
  pub users : st.users ≡ n
  pub permissions : st.permissions ≡ m
  pub rows : st.rows ≡ crew
  pub count : candidate_count (roles_of st) ≡ c
  pub standing : st.standing ≡ r

-- the words before the candidates that nothing uses, with n users
pub record UnusedZero (ws : List ℕ) (n : ℕ) : Type 0 where
  pub third : ZeroFrom ws 3 4
  pub last : ZeroFrom ws 6 crew_start
  pub behind : ZeroFrom ws (crew_start + 4 * n) sets_start

-- the standing roles that hold a user
unfoldable pub user_roles : State → ℕ → ℕ
user_roles st u = roles_of_user (roles_of st) u ∩ st.standing

-- each grant of one user is covered
unfoldable pub each_grant_covered : State → ℕ → Bool
each_grant_covered st u = all st.permissions (λ p. grant (roles_of st) u p implies covered (roles_of st) st.standing u p)
