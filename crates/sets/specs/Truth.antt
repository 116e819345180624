-- Tests that compute. A test is a Bool; "the test b holds" is `So b`.
-- The connectives and the finite quantifiers have names of their own so that they stay shut in a goal; each means what it says.
-- Assumes nothing.
use Rattle.std.specs.Prelude.{Bool, true, false, ℕ, zero, suc, ◌+◌}

infixl 35 ◌and◌
infixl 30 ◌or◌
infixr 25 ◌implies◌
infixr 10 when◌then◌else◌
unfoldable pub ◌and◌ : Bool → Bool → Bool
true and b = b
false and b = false

unfoldable pub ◌or◌ : Bool → Bool → Bool
true or b = true
false or b = b

unfoldable pub ◌implies◌ : Bool → Bool → Bool
true implies b = b
false implies b = true

unfoldable pub isnt : Bool → Bool
isnt true = false
isnt false = true

-- the first where the test holds, the second where it does not
unfoldable pub when◌then◌else◌ {ℓ} : {A : Type ℓ} → Bool → A → A → A
when true then a else b = a
when false then a else b = b

-- a test as a digit
unfoldable pub bit : Bool → ℕ
bit true = 1
bit false = 0

-- some index below n passes f
unfoldable pub any : ℕ → (ℕ → Bool) → Bool
any zero f = false
any (suc n) f = f n or any n f

-- every index below n passes f
unfoldable pub all : ℕ → (ℕ → Bool) → Bool
all zero f = true
all (suc n) f = f n and all n f

-- no index below n passes f
unfoldable pub none : ℕ → (ℕ → Bool) → Bool
none zero f = true
none (suc n) f = isnt (f n) and none n f

-- the sum of f over the indices below n
unfoldable pub total : ℕ → (ℕ → ℕ) → ℕ
total zero f = 0
total (suc n) f = f n + total n f
