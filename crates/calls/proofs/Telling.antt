-- The calls that read: an answer of a number and a value, after two checks.
-- Assumes nothing.
use mathlib.Core.Path.{◌≡◌, sym, ◌∙◌, ap}
use Prim.Native.Nat.{ℕ}
use lib.Dec.{eqb}
use Rattle.sets.proofs.Truth.{not-So, eqb_iff, when-true, when-false}
use Rattle.model.specs.Refusals.{◌or_else◌}
use Rattle.model.specs.Calls.{told}
use Rattle.model.proofs.Refusals.{or_else_first, or_else_next}
use Rattle.refusals.specs.declared.Refusal.{Refusal}
use Rattle.refusals.specs.Numbers.{number_of}
use Rattle.refusals.proofs.Numbers.{some_number}

refused : (r : Refusal) (value : ℕ) → record { code = number_of r; value = 0 } ≡ told (number_of r) value
unfolding told
refused r value = sym (when-false (eqb (number_of r) 0) _ _ (not-So (eqb (number_of r) 0) (λ h. some_number r ((eqb_iff (number_of r) 0).0 h))))

module _ (a b value : ℕ) where
  -- the first check refuses, the second does, and neither does
  pub told_first : (r : Refusal) → number_of r ≡ a → record { code = number_of r; value = 0 } ≡ told (a or_else b) value
  told_first r e =
      refused r value ∙ ap (λ (k : ℕ). told k value) (e ∙ sym (or_else_first a b (λ z. some_number r (e ∙ z))))

  pub told_second : a ≡ 0 → (r : Refusal) → number_of r ≡ b → record { code = number_of r; value = 0 } ≡ told (a or_else b) value
  told_second z r e = refused r value ∙ ap (λ (k : ℕ). told k value) (e ∙ sym (or_else_next a b z))

  pub told_value : a ≡ 0 → b ≡ 0 → record { code = 0; value = value } ≡ told (a or_else b) value
  unfolding told
  told_value za zb = sym (when-true (eqb (a or_else b) 0) _ _ ((eqb_iff (a or_else b) 0).1 (or_else_next a b za ∙ zb)))
