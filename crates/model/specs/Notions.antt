-- The notions of document 01, read from the words of a record. Quotations are from there.
-- Assumes nothing.
use Rattle.std.specs.Prelude.{◌≡◌, ◌↔◌, ◌≢◌, List, ℕ, ◌+◌, ◌*◌, ◌<◌, get_or}
use Rattle.std.proofs.Math.Bool.{So}
use Rattle.sets.specs.Sets.{has}
use Rattle.model.specs.Lists.{set_at}
use Rattle.model.specs.Chains.{link, HasMember, HasPermission}
use Rattle.model.specs.Record.{role_rows_of}

-- "8 + 4u: crew row of u, 4 words"
abbrev pub crew_row : List ℕ → ℕ → ℕ
crew_row ws u = set_at 4 ws (8 + 4 * u)

-- "520 + 4k: permission set S(k), 4 words"
abbrev pub role_set : List ℕ → ℕ → ℕ
role_set ws k = set_at 4 ws (520 + 4 * k)

-- role k stands: "A role's standing mark is its bit in words 4 and 5."
abbrev pub Stands : List ℕ → ℕ → Type 0
Stands ws k = So (has (set_at 2 ws 4) k)

-- u is in A(k): "the set of persons whose crew row contains S(k)"
pub record Serves (ws : List ℕ) (k u : ℕ) : Type 0 where
  pub user : u < get_or ws 0 0
  pub contains : (p : ℕ) → So (has (role_set ws k) p) → So (has (crew_row ws u) p)

-- ---- covering and striking

-- role k covers the grant (u, p): "u is in A(k) and p in S(k)"
pub record Covers (ws : List ℕ) (k u p : ℕ) : Type 0 where
  pub serves : Serves ws k u
  pub permission : So (has (role_set ws k) p)

-- "covered by another standing role"
pub record CoveredByAnother (ws : List ℕ) (k u p : ℕ) : Type 0 where
  pub role : ℕ
  pub other : role ≢ k
  pub stands : Stands ws role
  pub covers : Covers ws role u p

-- "each grant covered by k is covered by another standing role"
abbrev pub Spared : List ℕ → ℕ → Type 0
Spared ws k = (u p : ℕ) → Covers ws k u p → CoveredByAnother ws k u p

-- some grant that k covers is covered by no other standing role
pub record Bare (ws : List ℕ) (k : ℕ) : Type 0 where
  pub user : ℕ
  pub permission : ℕ
  pub covered : Covers ws k user permission
  pub alone : ¬ CoveredByAnother ws k user permission

-- ---- the building

-- "Role k is senior to j, both in R, when S(k) properly contains S(j)."
pub record Senior (ws : List ℕ) (k j : ℕ) : Type 0 where
  pub stands : Stands ws k
  pub junior_stands : Stands ws j
  pub contains : (p : ℕ) → So (has (role_set ws j) p) → So (has (role_set ws k) p)
  pub properly : role_set ws j ≢ role_set ws k

-- "It is immediately senior when no third role of R lies strictly between."
pub record ImmediatelySenior (ws : List ℕ) (k j : ℕ) : Type 0 where
  pub senior : Senior ws k j
  pub none_between : (i : ℕ) → Senior ws k i → Senior ws i j → ⊥

-- "The building of R has, for each k in R": what the rows of the record hold
pub record BuiltRows (ws : List ℕ) : Type 0 where
  -- "immediate juniors"
  pub links : (k j : ℕ) → So (link (role_rows_of ws) k j) ↔ ImmediatelySenior ws k j
  -- "direct permissions = S(k) less the sets of all its juniors"
  pub permissions : (k p : ℕ) → Stands ws k
      → So (has ((role_rows_of ws).permissions k) p) ↔ (So (has (role_set ws k) p) × ((j : ℕ) → Senior ws k j → ¬ So (has (role_set ws j) p)))
  -- "direct members = A(k) less A of all its seniors"
  pub members : (k u : ℕ) → Stands ws k
      → So (has ((role_rows_of ws).members k) u) ↔ (Serves ws k u × ((i : ℕ) → Senior ws i k → ¬ Serves ws i u))
  -- "Roles outside R have zero rows."
  pub absent : (k : ℕ) → ¬ Stands ws k
      → ((role_rows_of ws).juniors k ≡ 0) × ((role_rows_of ws).permissions k ≡ 0) × ((role_rows_of ws).members k ≡ 0)

-- ---- the standard

-- "each member of a role hold the permissions of that role and of every role below it", for every standing role k
pub record Standard (ws : List ℕ) : Type 0 where
  -- the direct members of k and of the roles above it are A(k)
  pub members : (k u : ℕ) → Stands ws k → HasMember (role_rows_of ws) k u ↔ Serves ws k u
  -- the direct permissions of k and of the roles below it are S(k)
  pub permissions : (k p : ℕ) → Stands ws k → HasPermission (role_rows_of ws) k p ↔ So (has (role_set ws k) p)
  -- each of the former holds each of the latter, by the crew list
  pub held : (k u p : ℕ) → Stands ws k → HasMember (role_rows_of ws) k u → HasPermission (role_rows_of ws) k p → So (has (crew_row ws u) p)
