-- Quality: "q = w1·(roles) + w2·(direct members) + w3·(direct permissions) + w4·(links), counted over the building".
-- Assumes nothing.
use Rattle.std.specs.Prelude.{Bool, ℕ, ◌+◌, ◌*◌, leb}
use Rattle.std.specs.Int.Count.{ones}
use Rattle.sets.specs.Truth.{◌and◌, total}
use Rattle.model.specs.Hierarchy.{Roles, RoleRows, candidate_count, building}

-- w1..w4: what each role, direct member, direct permission and link weighs
pub record Weights : Type 0 where
  pub per_role : ℕ
  pub per_member : ℕ
  pub per_permission : ℕ
  pub per_link : ℕ

-- "weights w1..w4, each 0 to 1,000"
abbrev pub most_weight : ℕ
most_weight = 1000

unfoldable pub weights_allowed : Weights → Bool
weights_allowed w =
    leb w.per_role most_weight and leb w.per_member most_weight and leb w.per_permission most_weight and leb w.per_link most_weight

-- "a tolerance a/b": how much of the quality an elimination may lose with a strike
pub record Tolerance : Type 0 where
  pub numerator : ℕ
  pub denominator : ℕ

-- "b from 1 to 1,000 and a from b to 2b"
abbrev pub most_denominator : ℕ
most_denominator = 1000

unfoldable pub tolerance_allowed : Tolerance → Bool
tolerance_allowed t =
    leb 1 t.denominator and leb t.denominator most_denominator and leb t.denominator t.numerator and leb t.numerator (2 * t.denominator)

-- how many there are of each: "(roles)", "(direct members)", "(direct permissions)", "(links)"
pub record Counts : Type 0 where
  pub roles : ℕ
  pub members : ℕ
  pub permissions : ℕ
  pub links : ℕ

-- the counts over the rows of c roles, of which those of R stand
unfoldable pub counted : ℕ → RoleRows → ℕ → Counts
counted c b R =
    record {
      roles = ones R;
      members = total c (λ k. ones (b.members k));
      permissions = total c (λ k. ones (b.permissions k));
      links = total c (λ k. ones (b.juniors k));
    }

-- "counted over the building" of R
unfoldable pub counts : Roles → ℕ → Counts
counts ρ R = counted (candidate_count ρ) (building ρ R) R

-- "w1·(roles) + w2·(direct members) + w3·(direct permissions) + w4·(links)"
unfoldable pub weigh : Weights → Counts → ℕ
weigh w q = w.per_role * q.roles + w.per_member * q.members + w.per_permission * q.permissions + w.per_link * q.links

-- q of the building of R
unfoldable pub quality : Roles → Weights → ℕ → ℕ
quality ρ w R = weigh w (counts ρ R)
