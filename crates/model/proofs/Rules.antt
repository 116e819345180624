-- Condition 1 of any call: checks that run one after the other answer a rule's number exactly when that rule is broken and all before it hold.
-- Assumes nothing.
use mathlib.Core.Path.{◌≡◌, refl, sym, ◌∙◌, subst}
use mathlib.Core.Logic.{◌↔◌, ◌≢◌, ◌⊎◌, ⊎_elim}
use mathlib.Core.List.{List, [], ◌∷◌}
use Prim.Native.Nat.{ℕ, ◌<◌}
use native.Mathlib.Omega.{arith}
use Rattle.sets.proofs.Truth.{equal_or}
use Rattle.model.specs.Lists.{OneOf}
use Rattle.model.specs.Refusals.{◌or_else◌}
use Rattle.model.specs.Conditions.{Rule, rule, numbers_of, Exactly}
use Rattle.model.proofs.Refusals.{Check, or_else_first, or_else_next, or_else_none}

-- part of a refusal: 0 where the rule holds, and its number where it is broken
pub record Judges (part : ℕ) (r : Rule) : Type 0 where
  pub some : r.number ≢ 0
  pub passes : r.holds → part ≡ 0
  pub passed : part ≡ 0 → r.holds
  pub stops : r.broken → part ≡ r.number
  pub stopped : part ≢ 0 → r.broken

-- a check is of a rule, whose words may be others, and what breaks it may have words of its own
pub judges_broken : {a n : ℕ} {P : Type 0} (Q F : Type 0) → Check a n P → P ↔ Q → (¬ P) ↔ F → Judges a (record { number = n; holds = Q; broken = F })
judges_broken Q F c e f =
    record {
      some = c.some;
      passes = λ q. c.passes (e.1 q);
      passed = λ z. e.0 (c.passed z);
      stops = λ b. c.stops (f.1 b);
      stopped = λ d. f.0 (λ p. d (c.passes p));
    }

pub judges_as : {a n : ℕ} {P : Type 0} (Q : Type 0) → Check a n P → P ↔ Q → Judges a (rule n Q)
judges_as Q c e = judges_broken Q (¬ Q) c e (λ d q. d (e.1 q), λ d p. d (e.0 p))

pub judges : {a n : ℕ} {P : Type 0} → Check a n P → Judges a (rule n P)
judges {P = P} c = judges_as P c (λ p. p, λ p. p)

-- all rules of the list have numbers above n
abbrev pub Above : ℕ → List Rule → Type 0
Above n [] = Unit {0}
Above n (r ∷ rules) = (n < r.number) × Above n rules

pub above_lower : (n m : ℕ) (rules : List Rule) → n < m → Above m rules → Above n rules
above_lower n m [] l a = tt
above_lower n m (r ∷ rules) l a = (let b = a.0 in omega arith, above_lower n m rules l a.1)

not_above : (n : ℕ) (rules : List Rule) → Above n rules → OneOf n (numbers_of rules) → ⊥
not_above n [] a o = o
not_above n (r ∷ rules) a o = ⊎_elim (λ (e : n ≡ r.number). let l = a.0 in let z : ⊥ = omega arith in z) (not_above n rules a.1) o

-- the clauses of condition 1 that speak of the number
pub record NumberByRules (rules : List Rule) (code : ℕ) : Type 1 where
  pub number : OneOf code (0 ∷ numbers_of rules)
  pub exactly : (Before : Type 0) → Before → Exactly Before rules code

-- behind a rule that is broken no other number is answered
never : (rules : List Rule) (code : ℕ) (Before : Type 0) → ¬ Before → code ≢ 0 → Above code rules → Exactly Before rules code
never [] code Before bad d a = (λ e. absurd (d e), λ x. absurd (bad x))
never (r ∷ rules) code Before bad d a = (
  (λ (e : code ≡ r.number). absurd (not_above code (r ∷ rules) a (◌⊎◌.inl e)), λ x. absurd (bad x.0)),
  never rules code (Before × r.holds) (λ x. bad x.0) d a.1,
)

module _ {r : Rule} {a : ℕ} (x : Judges a r) (rules : List Rule) (up : Above r.number rules) where
  -- not both
  clash : r.holds → r.broken → ⊥
  clash p b = x.some (sym (x.stops b) ∙ x.passes p)

  -- the rule is broken: its number is answered
  judged_here : r.broken → NumberByRules (r ∷ rules) r.number
  judged_here b =
      record {
        number = ◌⊎◌.inr (◌⊎◌.inl refl);
        exactly = λ Before before.
            ((λ _. (before, b), λ _. refl), never rules r.number (Before × r.holds) (λ y. clash y.1 b) x.some up);
      }

  -- it holds: the others decide
  judged_later : (b : ℕ) → r.holds → NumberByRules rules b → NumberByRules (r ∷ rules) b
  judged_later b p rest =
      let other : b ≢ r.number =
      λ (e : b ≡ r.number).
      ⊎_elim (λ (z : b ≡ 0). x.some (sym e ∙ z)) (λ o. not_above r.number rules up (subst (λ (y : ℕ). OneOf y (numbers_of rules)) e o)) rest.number in
      record {
        number = ⊎_elim (λ z. ◌⊎◌.inl z) (λ o. ◌⊎◌.inr (◌⊎◌.inr o)) rest.number;
        exactly = λ Before before.
            ((λ e. absurd (other e), λ y. absurd (clash p y.1)), rest.exactly (Before × r.holds) (before, p));
      }

  -- a check, with others behind it that run where its rule holds
  pub judged_next : (b : ℕ) → (r.holds → NumberByRules rules b) → NumberByRules (r ∷ rules) (a or_else b)
  judged_next b rest =
      equal_or a 0 (λ e. let p = x.passed e in subst (NumberByRules (r ∷ rules)) (sym (or_else_next a b e)) (judged_later b p (rest p)))
      (λ d. let t = x.stopped d in subst (NumberByRules (r ∷ rules)) (sym (or_else_first a b d ∙ x.stops t)) (judged_here t))

-- the last check
pub judged_last : {r : Rule} {a : ℕ} → Judges a r → NumberByRules (r ∷ []) a
judged_last {r} {a} x =
    subst (NumberByRules (r ∷ [])) (or_else_none a)
    (judged_next x [] tt 0 (λ _. record { number = ◌⊎◌.inl refl; exactly = λ Before before. (λ _. before, λ _. refl) }))
