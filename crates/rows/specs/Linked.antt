-- The immediate seniors of each role, held beside the record: its immediate juniors turned round.
-- Assumes nothing.
use Rattle.std.specs.Prelude.{◌≡◌, List, ℕ, ◌+◌, ◌*◌, ◌<◌, length}
use Rattle.sets.specs.Sets.{has}
use Rattle.model.specs.Lists.{set_at}
use Rattle.model.specs.Record.{juniors_start, built, Limits}
use Rattle.model.specs.State.{State, roles_of}
use Rattle.indexes.specs.declared.index.Index.{Index}
use Rattle.indexes.specs.Index.{Indexed}
use Rattle.tables.specs.Tables.{table128_length}

-- entry j of the table holds i exactly where the set of i holds j
abbrev pub Turned : (ℕ → ℕ) → List ℕ → Type 0
Turned f ws = (i j : ℕ) → i < 128 → j < 128 → has (set_at 2 ws (2 * j)) i ≡ has (f i) j

-- the immediate juniors that a record holds for role i
abbrev pub juniors_in : List ℕ → ℕ → ℕ
juniors_in ws i = set_at 2 ws (juniors_start + 2 * i)

-- the table holds the immediate seniors of each role, by the record's own immediate juniors, whatever standing set these are of
pub record Linked (ws seniors : List ℕ) : Type 0 where
  pub size : length seniors ≡ table128_length
  pub turned : Turned (juniors_in ws) seniors

-- the record built afresh from a state, with its index and its immediate seniors
pub record Ready (st : State) (ws : List ℕ) (index : Index) (seniors : List ℕ) : Type 0 where
  pub limits : Limits st
  pub afresh : ws ≡ built st
  pub indexed : Indexed (roles_of st) index
  pub linked : Linked ws seniors
