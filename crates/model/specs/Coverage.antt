-- Covered, and strikable.
-- Assumes nothing.
use Rattle.std.specs.Prelude.{Bool, ℕ, get_or}
use Rattle.sets.specs.Truth.{◌and◌, ◌implies◌, any, all}
use Rattle.sets.specs.Sets.{has, ◌∖◌, single, collect}
use Rattle.model.specs.Hierarchy.{Roles, candidate_count, permission_set, authorised_users}

-- "crew grant (u, p), p in the crew row of u"
unfoldable pub grant : Roles → ℕ → ℕ → Bool
grant ρ u p = has (get_or ρ.granted u 0) p

-- k covers (u, p): "u is in A(k) and p in S(k)"
unfoldable pub covers : Roles → ℕ → ℕ → ℕ → Bool
covers ρ k u p = has (authorised_users ρ k) u and has (permission_set ρ k) p

-- some role of the set s covers (u, p)
unfoldable pub covered : Roles → ℕ → ℕ → ℕ → Bool
covered ρ s u p = any (candidate_count ρ) (λ k. has s k and covers ρ k u p)

-- "each crew grant .. is covered"
unfoldable pub all_covered : Roles → ℕ → Bool
all_covered ρ R = all ρ.users (λ u. all ρ.permissions (λ p. grant ρ u p implies covered ρ R u p))

-- each grant that a role of the set s covers is covered by a standing role outside s
unfoldable pub spared : Roles → ℕ → ℕ → Bool
spared ρ R s =
    all ρ.users (λ u. all ρ.permissions (λ p. grant ρ u p and covered ρ s u p implies covered ρ (R ∖ s) u p))

-- strikable: "k stands and each grant covered by k is covered by another standing role"
unfoldable pub strikable : Roles → ℕ → ℕ → Bool
strikable ρ R k = has R k and spared ρ R (single k)

-- all strikable roles
unfoldable pub strikables : Roles → ℕ → ℕ
strikables ρ R = collect (candidate_count ρ) (λ k. strikable ρ R k)
