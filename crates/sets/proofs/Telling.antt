-- What a test tells of what it promises: by itself, and one after another.
-- Assumes nothing.
use mathlib.Core.Path.{◌≡◌, refl, sym, ◌∙◌}
use mathlib.Core.Bool.{Bool, true, false, So, not}
use mathlib.Core.Logic.{◌↔◌}
use borrow.Author.Tests.{not-true, not-false}
use Prim.Native.Nat.{ℕ, ◌+◌, ◌<◌}
use native.Mathlib.Omega.{arith}
use lib.Dec.{eqb}
use Rattle.sets.proofs.Truth.{So-not, eqb_iff, equal_or}

-- what a test of `!f(..)` says of what f promises
pub said_no : {r b : Bool} → r ≡ b → not r ≡ true → b ≡ false
said_no {r} e h = sym e ∙ not-true r h

pub said_yes : {r b : Bool} → r ≡ b → not r ≡ false → b ≡ true
said_yes {r} e h = sym e ∙ not-false r h

-- what the answer of f says of what f promises
pub as_told : {r b t : Bool} → r ≡ b → r ≡ t → b ≡ t
as_told e h = sym e ∙ h

-- no is told where something does not hold
pub no_of {ℓ} : {A : Type ℓ} → (A → ⊥) → So false ↔ A
no_of d = (λ t. absurd (So-not refl t), λ a. absurd (d a))

pub yes_of {ℓ} : {A : Type ℓ} → A → So true ↔ A
yes_of a = (λ t. a, λ b. refl)

-- two numbers that a test told apart, or found equal
pub unequal : (a b : ℕ) (t : Bool) → t ≡ eqb a b → not t ≡ true → a ≡ b → ⊥
unequal a b t e h q = So-not (sym e ∙ not-true t h) ((eqb_iff a b).1 q)

pub equal : (a b : ℕ) (t : Bool) → t ≡ eqb a b → not t ≡ false → a ≡ b
equal a b t e h = (eqb_iff a b).0 (sym e ∙ not-false t h)

-- a test that failed, or passed
pub failed {ℓ} : {A : Type ℓ} (t : Bool) → So t ↔ A → not t ≡ true → A → ⊥
failed t k h a = So-not (not-true t h) (k.1 a)

pub passed {ℓ} : {A : Type ℓ} (t : Bool) → So t ↔ A → not t ≡ false → A
passed t k h = k.0 (not-false t h)

-- one more of what holds below i
pub one_more {ℓ} : (F : ℕ → Type ℓ) (i : ℕ) → ((k : ℕ) → k < i → F k) → F i → (k : ℕ) → k < i + 1 → F k
one_more F i h f k l = equal_or k i (λ (e : k ≡ i). rw e f) (λ d. h k (omega arith))
