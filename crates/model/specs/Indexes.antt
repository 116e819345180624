-- Sets of roles that the code computes once and asks often.
-- Assumes nothing.
use Rattle.std.specs.Prelude.{Bool, ℕ, get_or}
use Rattle.sets.specs.Truth.{◌and◌, any, none}
use Rattle.sets.specs.Sets.{has, subset, proper_subset, collect}
use Rattle.model.specs.Hierarchy.{Roles, candidate_count, permission_set, authorised_users}

-- the candidates whose set lies properly within S(k): the juniors of k where all candidates stand
unfoldable pub lower : Roles → ℕ → ℕ
lower ρ k = collect (candidate_count ρ) (λ j. proper_subset (permission_set ρ j) (permission_set ρ k))

-- those of the roles s whose set lies properly within no other's of s
unfoldable pub maximal : Roles → ℕ → ℕ
maximal ρ s = collect (candidate_count ρ) (λ j. has s j and none (candidate_count ρ) (λ i. has s i and proper_subset (permission_set ρ j) (permission_set ρ i)))

-- the candidates that have u in A(k), and those that have p in S(k)
unfoldable pub roles_of_user : Roles → ℕ → ℕ
roles_of_user ρ u = collect (candidate_count ρ) (λ k. has (authorised_users ρ k) u)

unfoldable pub roles_of_permission : Roles → ℕ → ℕ
roles_of_permission ρ p = collect (candidate_count ρ) (λ k. has (permission_set ρ k) p)

-- the candidates that lie within u's granted row; where granted and possible rows are equal, those that have u in A(k)
unfoldable pub sure_roles : Roles → ℕ → ℕ
sure_roles ρ u = collect (candidate_count ρ) (λ k. subset (permission_set ρ k) (get_or ρ.granted u 0))

-- the candidates whose set lies within S(k), and those whose set S(k) lies within: k is in both
unfoldable pub down_from : Roles → ℕ → ℕ
down_from ρ k = collect (candidate_count ρ) (λ j. subset (permission_set ρ j) (permission_set ρ k))

unfoldable pub up_from : Roles → ℕ → ℕ
up_from ρ k = collect (candidate_count ρ) (λ j. subset (permission_set ρ k) (permission_set ρ j))

-- of the candidates that have p in S(k), g is the one with the lowest number: the first holder of p
unfoldable pub first_holder : Roles → ℕ → ℕ → Bool
first_holder ρ p g = has (roles_of_permission ρ p) g and none g (λ j. has (roles_of_permission ρ p) j)

-- the first holders of all permissions
unfoldable pub first_holders : Roles → ℕ
first_holders ρ = collect (candidate_count ρ) (λ g. any ρ.permissions (λ p. first_holder ρ p g))
