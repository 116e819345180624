-- What `all` and `any` over a range answer, told of the numbers below its end.
-- Assumes nothing.
use mathlib.Core.Path.{◌≡◌, refl, sym, ◌∙◌}
use mathlib.Core.Bool.{Bool, true, false, So}
use mathlib.Core.Logic.{◌↔◌}
use mathlib.Core.List.{List}
use Prim.Native.Nat.{ℕ, ◌<◌}
use native.Mathlib.Nat.{zero-add}
use native.Mathlib.Omega.{arith}
use lib.ListN.{length, get_or}
use denote.Param.Members.{Mut}
use Rattle.std.specs.Prelude.{Option}
use Rattle.std.specs.Iterator.{YieldsThen}
use Rattle.std.specs.List.{FoldsTo, range_with_len, AllWithin, HoldsAt}
use Rattle.std.specs.Fn.{Called}
use Rattle.std.specs.Option.{MatchOption}
use Rattle.std.specs.Bool.{MatchBool}
use Rattle.std.proofs.lemmas.Iterator.{YieldsList, cases_from_all, cases_from_any}
use Rattle.std.proofs.lemmas.List.FromFn.{length-range_with_len, get_or-range_with_len}
use Rattle.sets.specs.Truth.{all, any}
use Rattle.sets.proofs.Truth.{So-not, same_test, all_iff, any_iff}
use Rattle.sets.proofs.Telling.{no_of, yes_of}

item : (n k : ℕ) → k < n → get_or (range_with_len 0 n) k 0 ≡ k
item n k l = get_or-range_with_len 0 n k 0 l ∙ zero-add k

inside : (n k : ℕ) → k < length (range_with_len 0 n) → k < n
inside n k l = rw (length-range_with_len 0 n) at l

within : (n k : ℕ) → k < n → k < length (range_with_len 0 n)
within n k l = rw (length-range_with_len 0 n) l

-- a fact of each number of the range, and of one of them
every : (n : ℕ) (Q : ℕ → Type 0) → AllWithin (λ x. x < n → Q x) (range_with_len 0 n) 0 (length (range_with_len 0 n)) → (k : ℕ) → k < n → Q k
every n Q h k l = (rw (item n k l) at (h k 0 (omega arith) (within n k l))) l

one : (n : ℕ) (Q : ℕ → Type 0) (k : ℕ) → k < length (range_with_len 0 n) → HoldsAt (λ x. x < n → Q x) (range_with_len 0 n) k → Q k
one n Q k l h = (rw (item n k (inside n k l)) at (h 0)) (inside n k l)

module _ (n : ℕ) (P : ℕ → Type 0) where
  all_ends : (r : Bool) → MatchBool r (AllWithin (λ x. x < n → P x) (range_with_len 0 n) 0 (length (range_with_len 0 n)))
      ((k : ℕ) × (k < length (range_with_len 0 n)) × HoldsAt (λ x. x < n → P x → ⊥) (range_with_len 0 n) k) → So r ↔ ((k : ℕ) → k < n → P k)
  all_ends true h = yes_of (every n P h)
  all_ends false h = no_of (λ a. one n (λ x. P x → ⊥) h.0 h.1 h.2 (a h.0 (inside n h.0 h.1)))

  any_ends : (r : Bool) → MatchBool r ((k : ℕ) × (k < length (range_with_len 0 n)) × HoldsAt (λ x. x < n → P x) (range_with_len 0 n) k)
      (AllWithin (λ x. x < n → P x → ⊥) (range_with_len 0 n) 0 (length (range_with_len 0 n))) → So r ↔ ((k : ℕ) × (k < n) × P k)
  any_ends true h = yes_of (h.0, inside n h.0 h.1, one n P h.0 h.1 h.2)
  any_ends false h = no_of (λ a. every n (λ x. P x → ⊥) h a.0 a.1 a.2)

  module _ {S F : Type 0} {steps : S → Option ℕ → S → Type 0} {g : Mut F (ℕ × Unit {0}) Bool} {s : S} (u : S) (f : F) (r : Bool) where
    -- where each call tells of its number, `all` tells of all of them
    pub told_by_all : (xs : List ℕ) × (o : Option ℕ) × (j : F) × YieldsThen steps s xs o u × FoldsTo (λ p x q. Called g p (x, tt) true q) f xs j × MatchOption o (r ≡ true) (λ x. (r ≡ false) × ((h : F) × Called g j (x, tt) false h))
        → YieldsList steps (λ x. x) s (range_with_len 0 n) → ((x : ℕ) (t : Bool) (q : F) → Called g f (x, tt) t q → (q ≡ f) × (x < n → So t ↔ P x)) → So r ↔ ((k : ℕ) → k < n → P k)
    told_by_all ran e each =
        all_ends r
        (cases_from_all u f r (λ x. x < n → P x) (λ x. x < n → P x → ⊥) ran e (λ x q k. let t = each x true q k in (t.0, λ l. (t.1 l).0 refl))
        (λ x q k l p. So-not refl (((each x false q k).1 l).1 p)))

    -- and `any` of one of them
    pub told_by_any : (xs : List ℕ) × (o : Option ℕ) × (j : F) × YieldsThen steps s xs o u × FoldsTo (λ p x q. Called g p (x, tt) false q) f xs j × MatchOption o (r ≡ false) (λ x. (r ≡ true) × ((h : F) × Called g j (x, tt) true h))
        → YieldsList steps (λ x. x) s (range_with_len 0 n) → ((x : ℕ) (t : Bool) (q : F) → Called g f (x, tt) t q → (q ≡ f) × (x < n → So t ↔ P x)) → So r ↔ ((k : ℕ) × (k < n) × P k)
    told_by_any ran e each =
        any_ends r
        (cases_from_any u f r (λ x. x < n → P x) (λ x. x < n → P x → ⊥) ran e (λ x q k l. ((each x true q k).1 l).0 refl)
        (λ x q k. let t = each x false q k in (t.0, λ l p. So-not refl ((t.1 l).1 p))))

so_of : {t b : Bool} → t ≡ b → So t ↔ So b
so_of e = (λ h. sym e ∙ h, λ h. e ∙ h)

-- the same in tests
module _ (n : ℕ) (p : ℕ → Bool) {S F : Type 0} {steps : S → Option ℕ → S → Type 0} {g : Mut F (ℕ × Unit {0}) Bool} {s : S} (u : S) (f : F) (r : Bool) where
  pub all_told : (xs : List ℕ) × (o : Option ℕ) × (j : F) × YieldsThen steps s xs o u × FoldsTo (λ p x q. Called g p (x, tt) true q) f xs j × MatchOption o (r ≡ true) (λ x. (r ≡ false) × ((h : F) × Called g j (x, tt) false h))
      → YieldsList steps (λ x. x) s (range_with_len 0 n) → ((x : ℕ) (t : Bool) (q : F) → Called g f (x, tt) t q → (q ≡ f) × (x < n → t ≡ p x)) → r ≡ all n p
  all_told ran e each =
      let k = told_by_all n (λ x. So (p x)) u f r ran e (λ x t q c. let w = each x t q c in (w.0, λ l. so_of (w.1 l))) in
      same_test r (all n p) (λ h. (all_iff n p).1 (k.0 h)) (λ h. k.1 ((all_iff n p).0 h))

  pub any_told : (xs : List ℕ) × (o : Option ℕ) × (j : F) × YieldsThen steps s xs o u × FoldsTo (λ p x q. Called g p (x, tt) false q) f xs j × MatchOption o (r ≡ false) (λ x. (r ≡ true) × ((h : F) × Called g j (x, tt) true h))
      → YieldsList steps (λ x. x) s (range_with_len 0 n) → ((x : ℕ) (t : Bool) (q : F) → Called g f (x, tt) t q → (q ≡ f) × (x < n → t ≡ p x)) → r ≡ any n p
  any_told ran e each =
      let k = told_by_any n (λ x. So (p x)) u f r ran e (λ x t q c. let w = each x t q c in (w.0, λ l. so_of (w.1 l))) in
      same_test r (any n p) (λ h. (any_iff n p).1 (k.0 h)) (λ h. k.1 ((any_iff n p).0 h))
