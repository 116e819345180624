-- What the functions over tables ask of the roles, and a set less those of others.
-- Assumes nothing.
use Rattle.std.specs.Prelude.{◌≡◌, List, ℕ, ◌*◌, ◌^◌, ◌<◌, ◌≤◌}
use Rattle.std.proofs.Math.Bool.{So}
use Rattle.sets.specs.Truth.{◌and◌, none}
use Rattle.sets.specs.Sets.{has, proper_subset, collect}
use Rattle.model.specs.Lists.{set_at}
use Rattle.model.specs.Hierarchy.{Roles, candidate_count, permission_set, immediate_juniors}

-- at most 128 candidates, numbered so that a proper subset has a lower number
pub record Numbered (ρ : Roles) : Type 0 where
  pub few : candidate_count ρ ≤ 128
  pub lower : (j k : ℕ) → j < candidate_count ρ → k < candidate_count ρ → So (proper_subset (permission_set ρ j) (permission_set ρ k)) → j < k
  pub distinct : (j k : ℕ) → j < candidate_count ρ → k < candidate_count ρ → permission_set ρ j ≡ permission_set ρ k → j ≡ k

-- the candidates' sets lie within m permissions, m at most 256, and there are at most 128 users
pub record Narrow (ρ : Roles) : Type 0 where
  pub few_users : ρ.users ≤ 128
  pub few_permissions : ρ.permissions ≤ 256
  pub inside : (k : ℕ) → k < candidate_count ρ → permission_set ρ k < 2 ^ ρ.permissions

-- the immediate seniors of k: the roles that have it among their immediate juniors
abbrev pub immediate_seniors : Roles → ℕ → ℕ → ℕ
immediate_seniors ρ R k = collect (candidate_count ρ) (λ i. has (immediate_juniors ρ R i) k)

-- the items of s that no entry of the table has whose number is in js
unfoldable pub less_all : ℕ → List ℕ → ℕ → ℕ → ℕ
less_all w ws s js = collect (64 * w) (λ p. has s p and none 128 (λ j. has js j and has (set_at w ws (w * j)) p))
