-- The tests of specs/Truth, each turned into the statement that it computes, and back.
-- Assumes nothing.
use mathlib.Core.Path.{◌≡◌, refl, sym, ◌∙◌, ap}
use mathlib.Core.Bool.{Bool, true, false, So, false≢true, true≢false}
use mathlib.Core.Logic.{◌↔◌, ◌≢◌, ◌⊎◌, ⊎_elim}
use Prim.Native.Nat.{ℕ, zero, suc, ◌+◌, ◌≤◌, ◌<◌}
use native.Mathlib.Nat.{not-suc-le-zero, le_step, lt-suc_self}
use native.Mathlib.Numerals.{add-one}
use native.Mathlib.Omega.{arith}
use lib.Dec.{eqb, ltb, leb}
use lib.Arith.{lt_of_le-ne}
use borrow.Author.Tests.{eqb-true, eqb-false, eq-eqb, ltb-true, ltb-false, lt-ltb, leb-true, le-leb}
use Rattle.sets.specs.Truth.{◌and◌, ◌or◌, ◌implies◌, isnt, when◌then◌else◌, bit, any, all, none, total}

-- ---- one test

pub by_test {ℓ} : {C : Type ℓ} (b : Bool) → (b ≡ true → C) → (b ≡ false → C) → C
by_test true t f = t refl
by_test false t f = f refl

pub not-So : (b : Bool) → (So b → ⊥) → b ≡ false
not-So true h = absurd (h refl)
not-So false h = refl

pub So-not : {b : Bool} → b ≡ false → So b → ⊥
So-not e h = false≢true (sym e ∙ h)

-- two tests that imply each other are equal
pub same_test : (a b : Bool) → (So a → So b) → (So b → So a) → a ≡ b
same_test true b f g = sym (f refl)
same_test false true f g = g refl
same_test false false f g = refl

pub same_iff : (a b : Bool) → So a ↔ So b → a ≡ b
same_iff a b h = same_test a b h.0 h.1

-- ---- the connectives

pub and_iff : (a b : Bool) → So (a and b) ↔ (So a × So b)
unfolding ◌and◌
and_iff true b = (λ e. (refl, e), λ k. k.1)
and_iff false b = (λ e. absurd (false≢true e), λ k. absurd (false≢true k.0))

pub or_iff : (a b : Bool) → So (a or b) ↔ (So a ⊎ So b)
unfolding ◌or◌
or_iff true b = (λ e. ◌⊎◌.inl refl, λ k. refl)
or_iff false b = (λ e. ◌⊎◌.inr e, λ k. ⊎_elim (λ e. absurd (false≢true e)) (λ e. e) k)

pub implies_iff : (a b : Bool) → So (a implies b) ↔ (So a → So b)
unfolding ◌implies◌
implies_iff true b = (λ e _. e, λ k. k refl)
implies_iff false b = (λ _ e. absurd (false≢true e), λ k. refl)

pub isnt_iff : (a : Bool) → So (isnt a) ↔ (So a → ⊥)
unfolding isnt
isnt_iff true = (λ e. absurd (false≢true e), λ k. absurd (k refl))
isnt_iff false = (λ _ e. false≢true e, λ k. refl)

pub eqb_iff : (a b : ℕ) → So (eqb a b) ↔ (a ≡ b)
eqb_iff a b = (eqb-true a b, eq-eqb a b)

pub ltb_iff : (a b : ℕ) → So (ltb a b) ↔ (a < b)
ltb_iff a b = (ltb-true a b, lt-ltb a b)

pub leb_iff : (a b : ℕ) → So (leb a b) ↔ (a ≤ b)
leb_iff a b = (leb-true a b, le-leb a b)

pub when-true {ℓ} : {A : Type ℓ} (t : Bool) (a b : A) → So t → (when t then a else b) ≡ a
unfolding when◌then◌else◌
when-true true a b h = refl
when-true false a b h = absurd (false≢true h)

pub when-false {ℓ} : {A : Type ℓ} (t : Bool) (a b : A) → t ≡ false → (when t then a else b) ≡ b
unfolding when◌then◌else◌
when-false true a b h = absurd (true≢false h)
when-false false a b h = refl

-- the first where t holds, the second where it does not: written without a choice
pub picked : (t a b : Bool) → (a and t or b and isnt t) ≡ (when t then a else b)
unfolding ◌and◌ ◌or◌ isnt when◌then◌else◌
picked true true b = refl
picked true false true = refl
picked true false false = refl
picked false true true = refl
picked false true false = refl
picked false false true = refl
picked false false false = refl

-- a test that is to hold, and stops where it does not
pub when-passes {ℓ} : {A : Type ℓ} (t : Bool) (a b : A) → So t → (when isnt t then a else b) ≡ b
when-passes t a b h = when-false (isnt t) a b (not-So (isnt t) (λ s. (isnt_iff t).0 s h))

pub when_stops {ℓ} : {A : Type ℓ} (t : Bool) (a b : A) → t ≡ false → (when isnt t then a else b) ≡ a
when_stops t a b h = when-true (isnt t) a b ((isnt_iff t).1 (So-not h))

-- what a choice gave, by the way that it went
pub when_cases {ℓ ℓ'} : {A : Type ℓ} {C : Type ℓ'} (t : Bool) (a b r : A) → (when t then a else b) ≡ r → (So t → a ≡ r → C) → (t ≡ false → b ≡ r → C) → C
when_cases t a b r e l o = by_test t (λ h. l h (sym (when-true t a b h) ∙ e)) (λ h. o h (sym (when-false t a b h) ∙ e))

pub bit-true : (t : Bool) → So t → bit t ≡ 1
unfolding bit
bit-true t h = ap bit h

pub bit-false : (t : Bool) → t ≡ false → bit t ≡ 0
unfolding bit
bit-false t h = ap bit h

-- ---- one of two numbers' orders

pub either {ℓ} : {C : Type ℓ} (a b : ℕ) → (a < b → C) → (b ≤ a → C) → C
either a b l r = by_test (ltb a b) (λ e. l (ltb-true a b e)) (λ e. r (ltb-false a b e))

pub equal_or {ℓ} : {C : Type ℓ} (a b : ℕ) → (a ≡ b → C) → (a ≢ b → C) → C
equal_or a b l r = by_test (eqb a b) (λ e. l (eqb-true a b e)) (λ e. r (eqb-false a b e))

-- ---- the quantifiers

-- an index below suc n is n or below n
pub below_suc {ℓ} : {C : Type ℓ} (i n : ℕ) → i < suc n → (i ≡ n → C) → (i < n → C) → C
below_suc i n h e l = equal_or i n e (λ d. l (lt_of_le-ne (omega arith) d))

pub any_of : (n : ℕ) (f : ℕ → Bool) (i : ℕ) → i < n → So (f i) → So (any n f)
unfolding any
any_of zero f i h s = absurd (not-suc-le-zero h)
any_of (suc n) f i h s =
    (or_iff (f n) (any n f)).1 (below_suc i n h (λ (e : i ≡ n). ◌⊎◌.inl (rw e at s)) (λ l. ◌⊎◌.inr (any_of n f i l s)))

pub any_is : (n : ℕ) (f : ℕ → Bool) → So (any n f) → (i : ℕ) × (i < n) × So (f i)
unfolding any
any_is zero f s = absurd (false≢true s)
any_is (suc n) f s =
    ⊎_elim (λ h. (n, lt-suc_self n, h)) (λ h. let r = any_is n f h in (r.0, le_step r.1, r.2)) ((or_iff (f n) (any n f)).0 s)

pub any_iff : (n : ℕ) (f : ℕ → Bool) → So (any n f) ↔ ((i : ℕ) × (i < n) × So (f i))
any_iff n f = (any_is n f, λ k. any_of n f k.0 k.1 k.2)

pub all_of : (n : ℕ) (f : ℕ → Bool) → ((i : ℕ) → i < n → So (f i)) → So (all n f)
unfolding all
all_of zero f h = refl
all_of (suc n) f h = (and_iff (f n) (all n f)).1 (h n (lt-suc_self n), all_of n f (λ i l. h i (le_step l)))

pub all_is : (n : ℕ) (f : ℕ → Bool) → So (all n f) → (i : ℕ) → i < n → So (f i)
unfolding all
all_is zero f s i h = absurd (not-suc-le-zero h)
all_is (suc n) f s i h =
    let k = (and_iff (f n) (all n f)).0 s in
    below_suc i n h (λ (e : i ≡ n). rw e k.0) (λ l. all_is n f k.1 i l)

pub all_iff : (n : ℕ) (f : ℕ → Bool) → So (all n f) ↔ ((i : ℕ) → i < n → So (f i))
all_iff n f = (all_is n f, all_of n f)

pub none_of : (n : ℕ) (f : ℕ → Bool) → ((i : ℕ) → i < n → So (f i) → ⊥) → So (none n f)
unfolding none
none_of zero f h = refl
none_of (suc n) f h = (and_iff (isnt (f n)) (none n f)).1 ((isnt_iff (f n)).1 (h n (lt-suc_self n)), none_of n f (λ i l. h i (le_step l)))

pub none_is : (n : ℕ) (f : ℕ → Bool) → So (none n f) → (i : ℕ) → i < n → So (f i) → ⊥
unfolding none
none_is zero f s i h = absurd (not-suc-le-zero h)
none_is (suc n) f s i h =
    let k = (and_iff (isnt (f n)) (none n f)).0 s in
    below_suc i n h (λ (e : i ≡ n). rw e ((isnt_iff (f n)).0 k.0)) (λ l. none_is n f k.1 i l)

pub none_iff : (n : ℕ) (f : ℕ → Bool) → So (none n f) ↔ ((i : ℕ) → i < n → So (f i) → ⊥)
none_iff n f = (none_is n f, none_of n f)

-- is there one below n? One is handed over, or there is none.
pub find : (n : ℕ) (f : ℕ → Bool) → ((i : ℕ) × (i < n) × So (f i)) ⊎ ((i : ℕ) → i < n → So (f i) → ⊥)
find n f = by_test (any n f) (λ e. ◌⊎◌.inl (any_is n f e)) (λ e. ◌⊎◌.inr (λ i h s. So-not e (any_of n f i h s)))

-- tests that agree below n have the same quantifiers and the same sums
pub any_same : (n : ℕ) (f g : ℕ → Bool) → ((i : ℕ) → i < n → f i ≡ g i) → any n f ≡ any n g
unfolding any
any_same zero f g h = refl
any_same (suc n) f g h = rw (h n (lt-suc_self n), any_same n f g (λ i l. h i (le_step l)))

pub all_same : (n : ℕ) (f g : ℕ → Bool) → ((i : ℕ) → i < n → f i ≡ g i) → all n f ≡ all n g
unfolding all
all_same zero f g h = refl
all_same (suc n) f g h = rw (h n (lt-suc_self n), all_same n f g (λ i l. h i (le_step l)))

pub none_same : (n : ℕ) (f g : ℕ → Bool) → ((i : ℕ) → i < n → f i ≡ g i) → none n f ≡ none n g
unfolding none
none_same zero f g h = refl
none_same (suc n) f g h = rw (h n (lt-suc_self n), none_same n f g (λ i l. h i (le_step l)))

pub total_same : (n : ℕ) (f g : ℕ → ℕ) → ((i : ℕ) → i < n → f i ≡ g i) → total n f ≡ total n g
unfolding total
total_same zero f g h = refl
total_same (suc n) f g h = rw (h n (lt-suc_self n), total_same n f g (λ i l. h i (le_step l)))

-- ---- a loop over the indices: it goes on, fails at one, or is through

pub all_none : (f : ℕ → Bool) → So (all 0 f)
unfolding all
all_none f = refl

pub all_more : (i : ℕ) (f : ℕ → Bool) → So (all i f) → So (f i) → So (all (i + 1) f)
all_more i f h t = all_of (i + 1) f (λ k l. below_suc k i (rw (add-one i) at l) (λ (e : k ≡ i). rw e t) (λ b. all_is i f h k b))

pub all_fails : (n i : ℕ) (f : ℕ → Bool) → i < n → (So (f i) → ⊥) → false ≡ all n f
all_fails n i f l d = sym (not-So (all n f) (λ h. d (all_is n f h i l)))

-- one `simp reflect at h` opens a test, one `simp reflect (..)` makes one
pub ruleset reflect = (and_iff, or_iff, implies_iff, isnt_iff, any_iff, all_iff, none_iff, eqb_iff, ltb_iff, leb_iff)
