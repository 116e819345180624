-- What the index is filled from, and what it holds on the way.
-- Assumes nothing.
use Rattle.std.specs.Prelude.{◌≡◌, ◌⊎◌, List, ℕ, ◌*◌, ◌≤◌, ◌<◌, get_or, take, drop}
use Rattle.std.proofs.Math.Bool.{So}
use Rattle.sets.specs.Truth.{◌implies◌, all}
use Rattle.sets.specs.Sets.{has, collect}
use Rattle.model.specs.Lists.{set_at, rows_at}
use Rattle.model.specs.Candidates.{candidates, Growing}
use Rattle.model.specs.Hierarchy.{candidate_count, permission_set}
use Rattle.model.specs.Indexes.{lower}
use Rattle.model.specs.State.{State, roles_of}
use Rattle.model.specs.Record.{Limits, crew_start, sets_start}
use Rattle.tables.specs.Tables.{table256_length}

-- a record whose header keeps the bounds and whose candidates grow
pub record FillsFrom (ws : List ℕ) : Type 0 where
  pub few_users : get_or ws 0 0 ≤ 128
  pub few_candidates : get_or ws 2 0 ≤ 128
  pub grows : Growing (rows_at (get_or ws 2 0) (take table256_length (drop sets_start ws)) 0)

-- the state's crew rows are the n sets of `crew`, and its candidates the c sets of the table
pub record Source (st : State) (crew : List ℕ) (n : ℕ) (table : List ℕ) (c : ℕ) : Type 0 where
  pub limits : Limits st
  pub users : st.users ≡ n
  pub rows : st.rows ≡ crew
  pub sets : candidates st.rows ≡ rows_at c table 0

-- the same of a record: n and c are its words 0 and 2, and the crew and the table are its regions of rows and of candidates
abbrev pub SourceOf : State → List ℕ → Type 0
SourceOf st ws = Source st (rows_at (get_or ws 0 0) ws crew_start) (get_or ws 0 0) (take table256_length (drop sets_start ws)) (get_or ws 2 0)

-- the own roles met among the first n users: `roles` are some users' rows, and have their lower candidates in `low`; `users` has such a user for
-- each of them
pub record Owned (st : State) (n : ℕ) (low : List ℕ) (roles users : ℕ) : Type 0 where
  pub entries : (e : ℕ) → So (has roles e) → (e < candidate_count (roles_of st)) × (set_at 2 low (2 * e) ≡ lower (roles_of st) e)
  pub spoken : (e : ℕ) → So (has roles e) → (v : ℕ) × So (has users v) × (v < st.users) × (get_or st.rows v 0 ≡ permission_set (roles_of st) e)
  pub passed : (u : ℕ) → u < n → (get_or st.rows u 0 ≡ 0) ⊎ ((e : ℕ) × So (has roles e) × (permission_set (roles_of st) e ≡ get_or st.rows u 0))

-- the items that all of the sets us of a table have
unfoldable pub shared_by : List ℕ → ℕ → ℕ
shared_by ws us = collect 128 (λ j. all 128 (λ u. has us u implies has (set_at 2 ws (2 * u)) j))
