-- The limits of weights and tolerance, and no product or sum of the quality wraps.
-- Assumes nothing.
use mathlib.Core.Path.{◌≡◌, sym}
use mathlib.Core.Bool.{false, So}
use mathlib.Core.Logic.{◌↔◌}
use Prim.Native.Nat.{ℕ, ◌*◌, ◌≤◌}
use native.Mathlib.Nat.{mul-le-mul}
use Rattle.sets.proofs.Truth.{not-So}
use Rattle.model.specs.Quality.{weights_allowed, tolerance_allowed}
use Rattle.model.proofs.Bounds.{weights_allowed_iff, tolerance_iff}
use Rattle.quality.specs.declared.counts.Counts.{Counts}
use Rattle.quality.specs.declared.weights.Weights.{Weights}
use Rattle.quality.specs.Given.{weights_of, tolerance_of}
use Rattle.quality.specs.Numbers.{Few}

-- the weights and the tolerance, test by test
pub weights_read : (w1 w2 w3 w4 : ℕ) → So (weights_allowed (weights_of w1 w2 w3 w4)) ↔ ((w1 ≤ 1000) × (w2 ≤ 1000) × (w3 ≤ 1000) × (w4 ≤ 1000))
unfolding weights_of
weights_read w1 w2 w3 w4 = weights_allowed_iff (weights_of w1 w2 w3 w4)

pub tolerance_read : (a b : ℕ) → So (tolerance_allowed (tolerance_of a b)) ↔ ((1 ≤ b) × (b ≤ 1000) × (b ≤ a) × (a ≤ 2 * b))
unfolding tolerance_of
tolerance_read a b = tolerance_iff (tolerance_of a b)

pub weights_not : (w1 w2 w3 w4 : ℕ) → ((w1 ≤ 1000) × (w2 ≤ 1000) × (w3 ≤ 1000) × (w4 ≤ 1000) → ⊥) → false ≡ weights_allowed (weights_of w1 w2 w3 w4)
weights_not w1 w2 w3 w4 d = sym (not-So (weights_allowed (weights_of w1 w2 w3 w4)) (λ h. d ((weights_read w1 w2 w3 w4).0 h)))

pub tolerance_not : (a b : ℕ) → ((1 ≤ b) × (b ≤ 1000) × (b ≤ a) × (a ≤ 2 * b) → ⊥) → false ≡ tolerance_allowed (tolerance_of a b)
tolerance_not a b d = sym (not-So (tolerance_allowed (tolerance_of a b)) (λ h. d ((tolerance_read a b).0 h)))

-- each product is small
pub record Products (q : Counts) (w : Weights) : Type 0 where
  pub first : w.role * q.roles ≤ 128000
  pub second : w.member * q.members ≤ 16384000
  pub third : w.permission * q.permissions ≤ 32768000
  pub fourth : w.link * q.links ≤ 16384000

pub products : (q : Counts) (w : Weights) → Few q → Products q w
products q w few =
    let x = (weights_read w.role w.member w.permission w.link).0 w.allowed in
    record {
      first = mul-le-mul x.0 few.roles;
      second = mul-le-mul x.1 few.members;
      third = mul-le-mul x.2 few.permissions;
      fourth = mul-le-mul x.3 few.links;
    }
