-- The meets that were seen.
-- Assumes nothing.
use mathlib.Core.Path.{◌≡◌, sym, ◌∙◌, ap}
use mathlib.Core.Bool.{Bool, true, false}
use mathlib.Core.Logic.{◌⊎◌, ⊎_elim}
use mathlib.Core.List.{List, map}
use Prim.Native.Nat.{ℕ, ◌<◌}
use lib.Dec.{eqb}
use lib.Pointwise.{pointwise}
use Rattle.std.specs.Cmp.Lexicographic.{same_text}
use Rattle.sets.specs.Words.{value}
use lib.ListN.{length, get_or, set, replicate, length-map, length-replicate, get_or-replicate}
use lib.Seq.{map-set, get_or-set_same, get_or-set_other}
use Rattle.std.proofs.lemmas.List.{get_or-map}
use Rattle.sets.specs.Held.{set_of}
use Rattle.sets.specs.declared.set.Set.{Set}
use borrow.Author.Tests.{eqb-true, eqb-false}
use Rattle.sets.proofs.Truth.{equal_or}
use Rattle.model.specs.Candidates.{Listed}
use Rattle.model.proofs.Growing.{Among}
use Rattle.mining.specs.Mining.{sets_of, Seen, Known, Remembered}

-- a set stored in a slot
pub slot_stored : (slots : List (Set 4)) (s : ℕ) (x : Set 4) → length slots ≡ 128 → s < 128 → Remembered (set_of x) (sets_of slots) (sets_of (set slots s x))
unfolding sets_of
slot_stored slots s x e h =
    let inside : s < length (map set_of slots) = rw (length-map slots set_of) (rw e h) in
    record {
      slot = s;
      below = h;
      there = rw (map-set set_of slots s x) (get_or-set_same (map set_of slots) s (set_of x) 0 inside);
      others = λ j d. rw (map-set set_of slots s x) (get_or-set_other (map set_of slots) s j (set_of x) 0 d);
    }

-- the set in a slot
pub slot_is : (slots : List (Set 4)) (s : ℕ) (d : Set 4) → s < length slots → get_or (sets_of slots) s 0 ≡ set_of (get_or slots s d)
unfolding sets_of
slot_is slots s d h = get_or-map set_of slots s d 0 h

module _ {slots xs : List ℕ} (s : Seen slots xs) where
  -- what is known of a meet is that it is empty or in the table
  pub known_listed : (x y : ℕ) → Listed xs x → Known slots x y true → (y ≡ 0) ⊎ Listed xs y
  known_listed x y l =
      ⊎_elim (λ (e : y ≡ x). ◌⊎◌.inr (rw e l))
      (⊎_elim ◌⊎◌.inl (λ k. rw k.2 (s.listed k.0 k.1)))

  pub seen_among : {ys : List ℕ} → Among xs ys → Seen slots ys
  seen_among f = record { listed = λ j h. ⊎_elim ◌⊎◌.inl (λ l. ◌⊎◌.inr (f (get_or slots j 0) l)) (s.listed j h) }

  pub seen_more : {slots' : List ℕ} (x : ℕ) → Listed xs x → Remembered x slots slots' → Seen slots' xs
  seen_more {slots'} x l r =
      record {
        listed =
            λ j h. equal_or j r.slot (λ (q : j ≡ r.slot). rw (q, r.there) (◌⊎◌.inr l)) (λ d. rw (r.others j d) (s.listed j h));
      }

-- ---- the answers' cases

pub known_empty : (slots : List ℕ) (x y : ℕ) (b : Bool) → b ≡ eqb y 0 → Known slots x y b
known_empty slots x y true e = ◌⊎◌.inr (◌⊎◌.inl (eqb-true y 0 (sym e)))
known_empty slots x y false e = eqb-false y 0 (sym e)

-- y is what a slot has, word for word
pub known_there : (slots : List (Set 4)) (x : ℕ) (y : Set 4) (s : ℕ) (d : Set 4) → length slots ≡ 128 → s < 128 → pointwise eqb y.words (get_or slots s d).words ≡ true
    → Known (sets_of slots) x (set_of y) true
unfolding set_of
known_there slots x y s d e h t = ◌⊎◌.inr (◌⊎◌.inr (s, h, ap value (same_text y.words (get_or slots s d).words (sym t)) ∙ sym (slot_is slots s d (rw e h))))

-- empty slots
pub seen_none : (none : Set 4) (xs : List ℕ) → set_of none ≡ 0 → Seen (sets_of (replicate 128 none)) xs
seen_none none xs e = record { listed = λ s h. ◌⊎◌.inl (slot_is (replicate 128 none) s none (rw (length-replicate 128 none) h) ∙ ap set_of (get_or-replicate 128 s none none h) ∙ e) }
