-- Links, chains, and what authorised means, over any rows: they need not be a building's, and may have circles.
-- Assumes nothing.
use Rattle.std.specs.Prelude.{◌≡◌, Bool, ◌⊎◌, ℕ, zero, suc, eqb}
use Rattle.std.proofs.Math.Bool.{So}
use Rattle.sets.specs.Truth.{◌and◌, isnt, any}
use Rattle.sets.specs.Sets.{has, ◌∪◌, collect}
use Rattle.model.specs.Hierarchy.{RoleRows}

-- "A link is a role together with one of its immediate juniors."
unfoldable pub link : RoleRows → ℕ → ℕ → Bool
link b k j = has (b.juniors k) j

-- "A chain is one or more links, each from the junior of the one before"
pub data Chain (joined : ℕ → ℕ → Bool) : ℕ → ℕ → Type 0 where
  one : {k j : ℕ} → So (joined k j) → Chain joined k j
  more : {k i j : ℕ} → So (joined k i) → Chain joined i j → Chain joined k j

-- the links but the one from x to y; a chain of these with the ends x and y "could replace" that link
unfoldable pub links_but : (ℕ → ℕ → Bool) → ℕ → ℕ → ℕ → ℕ → Bool
links_but joined x y k j = joined k j and isnt (eqb k x and eqb j y)

-- j is k, or a chain leads from k to j: "by zero or more links"
abbrev pub Reaches : (ℕ → ℕ → Bool) → ℕ → ℕ → Type 0
Reaches joined k j = (k ≡ j) ⊎ Chain joined k j

-- ---- reach, computed: among c roles, c steps from a set of roles to all that it reaches

unfoldable pub onward : (ℕ → ℕ → Bool) → ℕ → ℕ → ℕ
onward joined c s = s ∪ collect c (λ j. any c (λ k. has s k and joined k j))

unfoldable pub follow : (ℕ → ℕ → Bool) → ℕ → ℕ → ℕ → ℕ
follow joined c zero s = s
follow joined c (suc f) s = onward joined c (follow joined c f s)

unfoldable pub reached : (ℕ → ℕ → Bool) → ℕ → ℕ → ℕ
reached joined c s = follow joined c c s

-- the roles that have u as direct member, and the roles that these reach
unfoldable pub direct_roles : ℕ → RoleRows → ℕ → ℕ
direct_roles c b u = collect c (λ k. has (b.members k) u)

unfoldable pub roles_reached : ℕ → RoleRows → ℕ → ℕ
roles_reached c b u = reached (link b) c (direct_roles c b u)

-- may (u, p): "does some role have u as direct member and, by zero or more links downward, reach a role with p direct?"
unfoldable pub may : ℕ → RoleRows → ℕ → ℕ → Bool
may c b u p = any c (λ j. has (roles_reached c b u) j and has (b.permissions j) p)

-- the same in the paper's own words
pub record Authorised (b : RoleRows) (u p : ℕ) : Type 0 where
  pub role : ℕ
  pub end : ℕ
  pub member : So (has (b.members role) u)
  pub reaches : Reaches (link b) role end
  pub direct : So (has (b.permissions end) p)

-- ---- what a role passes on by its links

-- u is a direct member of role k, or of a role above it
pub record HasMember (b : RoleRows) (k u : ℕ) : Type 0 where
  pub role : ℕ
  pub above : Reaches (link b) role k
  pub direct : So (has (b.members role) u)

-- p is a direct permission of role k, or of a role below it
pub record HasPermission (b : RoleRows) (k p : ℕ) : Type 0 where
  pub role : ℕ
  pub below : Reaches (link b) k role
  pub direct : So (has (b.permissions role) p)
