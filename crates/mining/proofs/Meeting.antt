-- One row's intersections with the sets of a table, which come into the same table.
-- Assumes nothing.
use mathlib.Core.Path.{◌≡◌, refl, sym, ◌∙◌, ap}
use mathlib.Core.Logic.{◌≢◌, ◌⊎◌, ⊎_elim}
use mathlib.Core.List.{List, [], ◌∷◌}
use Prim.Native.Nat.{ℕ, zero, suc, ◌+◌, ◌≤◌, ◌<◌}
use native.Mathlib.Nat.{not-suc-le-zero}
use native.Mathlib.Omega.{arith}
use lib.Dec.{eqb, ltb}
use lib.ListN.{length, get_or}
use borrow.Author.Tests.{eq-eqb, ne_eqb, lt-ltb, le-ltb}
use Rattle.sets.specs.Sets.{◌∩◌}
use Rattle.sets.proofs.Truth.{either, equal_or, when-true, when-false}
use Rattle.sets.proofs.Order.{∩-self, ∩-assoc}
use Rattle.model.specs.Candidates.{place, add_row, Listed, Growing}
use Rattle.model.proofs.Growing.{Among, listed_at, among_length, among_equal, place_new, place_old, place_iff, place_growing}
use Rattle.model.proofs.Candidates.{Met, add_growing, add_old, add_row_lem, add_meet, add_is, added_zero, added_length, admit-place, added_to}

-- ---- a row's meets, as sets

-- the meet of r with a set that r gives, or that was there, is one of them
pub add_closed : (r : ℕ) (xs : List ℕ) (z : ℕ) → Listed (add_row r xs) z → r ∩ z ≢ 0 → Listed (add_row r xs) (r ∩ z)
add_closed r xs z l d =
    ⊎_elim (λ k. add_meet r xs (r ∩ z) (record { other = z; listed = k; meet = refl; nonempty = d }))
    (⊎_elim (λ k. let e : r ∩ z ≡ z = ap (λ (y : ℕ). r ∩ y) k.0 ∙ ∩-self r ∙ sym k.0 in rw e l)
    (λ m. let e : r ∩ z ≡ z = ap (λ (y : ℕ). r ∩ y) m.meet ∙ sym (∩-assoc r r m.other) ∙ ap (λ (y : ℕ). y ∩ m.other) (∩-self r) ∙ sym m.meet in rw e l))
    (add_is r xs z l)

-- that r was placed before makes no difference
pub add_placed : (r : ℕ) (xs : List ℕ) → Growing xs → r ≢ 0 → add_row r (place r xs) ≡ add_row r xs
add_placed r xs g d =
    among_equal (add_row r (place r xs)) (add_row r xs) (add_growing r (place r xs) (place_growing r xs g)) (add_growing r xs g) to back
  where
    own : (y : ℕ) → y ≡ r → Listed (add_row r xs) y
    own y e = rw e (add_row_lem r xs d)

    to : Among (add_row r (place r xs)) (add_row r xs)
    to y l =
        ⊎_elim (λ k. ⊎_elim (own y) (add_old r xs y) ((place_iff r xs y).0 k))
        (⊎_elim (λ k. own y k.0)
        (λ m.
        ⊎_elim (λ e. own y (m.meet ∙ ap (λ (z : ℕ). r ∩ z) e ∙ ∩-self r))
        (λ k. add_meet r xs y (record { other = m.other; listed = k; meet = m.meet; nonempty = m.nonempty }))
        ((place_iff r xs m.other).0 m.listed)))
        (add_is r (place r xs) y l)

    back : Among (add_row r xs) (add_row r (place r xs))
    back y l =
        ⊎_elim (λ k. add_old r (place r xs) y (place_old r xs y k))
        (⊎_elim (λ k. rw k.0 (add_row_lem r (place r xs) d))
        (λ m.
        add_meet r (place r xs) y
        (record { other = m.other; listed = place_old r xs m.other m.listed; meet = m.meet; nonempty = m.nonempty })))
        (add_is r xs y l)

-- the list's first is above x, is x, or is below x
place_cases : (C : List ℕ → Type 0) (x y : ℕ) (ys : List ℕ) → (x < y → C (x ∷ y ∷ ys)) → C (y ∷ ys) → C (y ∷ place x ys) → C (place x (y ∷ ys))
unfolding place
place_cases C x y ys below same above =
    either x y (λ l. rw (when-true (ltb x y) _ _ (lt-ltb x y l)) (below l))
    (λ l. rw (when-false (ltb x y) _ _ (le-ltb x y l))
    (equal_or x y (λ e. rw (when-true (eqb x y) _ _ (eq-eqb x y e)) same) (λ d. rw (when-false (eqb x y) _ _ (ne_eqb x y d)) above)))

-- what stands at place p after x was placed is x, or stood no later before
pub place-from : (x : ℕ) (xs : List ℕ) (p : ℕ) → p < length (place x xs)
    → (get_or (place x xs) p 0 ≡ x) ⊎ ((q : ℕ) × (q ≤ p) × (q < length xs) × (get_or (place x xs) p 0 ≡ get_or xs q 0))
unfolding place
place-from x [] zero h = ◌⊎◌.inl refl
place-from x [] (suc p) h = let l : suc p < 1 = h in absurd (omega arith)
place-from x (y ∷ ys) p h =
    place_cases
    (λ l. p < length l → (get_or l p 0 ≡ x) ⊎ ((q : ℕ) × (q ≤ p) × (q < suc (length ys)) × (get_or l p 0 ≡ get_or (y ∷ ys) q 0)))
    x y ys (λ b. first p) (λ l. ◌⊎◌.inr (p, omega arith, l, refl)) (later (place-from x ys) p) h
  where
    first : (p : ℕ) → p < suc (suc (length ys))
        → (get_or (x ∷ y ∷ ys) p 0 ≡ x) ⊎ ((q : ℕ) × (q ≤ p) × (q < suc (length ys)) × (get_or (x ∷ y ∷ ys) p 0 ≡ get_or (y ∷ ys) q 0))
    first zero l = ◌⊎◌.inl refl
    first (suc p) l = ◌⊎◌.inr (p, omega arith, omega arith, refl)

    later : ((p : ℕ) → p < length (place x ys)
        → (get_or (place x ys) p 0 ≡ x) ⊎ ((q : ℕ) × (q ≤ p) × (q < length ys) × (get_or (place x ys) p 0 ≡ get_or ys q 0)))
        → (p : ℕ) → p < suc (length (place x ys))
        → (get_or (y ∷ place x ys) p 0 ≡ x) ⊎ ((q : ℕ) × (q ≤ p) × (q < suc (length ys)) × (get_or (y ∷ place x ys) p 0 ≡ get_or (y ∷ ys) q 0))
    later rest zero l = ◌⊎◌.inr (0, omega arith, omega arith, refl)
    later rest (suc p) l = ⊎_elim ◌⊎◌.inl (λ k. ◌⊎◌.inr (suc k.0, omega (arith, k.1), omega (arith, k.2), k.3)) (rest p (omega arith))

-- ---- the walk over the table

-- from the table xs, which has r: the table is ys now, and the meets of r with its first i sets are in it
pub record Walked (r : ℕ) (xs ys : List ℕ) (i : ℕ) : Type 0 where
  pub grows : Growing ys
  pub kept : Among xs ys
  pub added : Among ys (add_row r xs)
  pub met : (p : ℕ) → p < i → p < length ys → (r ∩ get_or ys p 0 ≡ 0) ⊎ Listed ys (r ∩ get_or ys p 0)

module _ (r : ℕ) (xs : List ℕ) where
  pub walked_none : Growing xs → Walked r xs xs 0
  walked_none g = record { grows = g; kept = λ z l. l; added = add_old r xs; met = λ p h l. absurd (not-suc-le-zero h) }

  module _ {ys : List ℕ} {i : ℕ} (w : Walked r xs ys i) where
    -- a meet that is empty or there
    pub walked_known : (r ∩ get_or ys i 0 ≡ 0) ⊎ Listed ys (r ∩ get_or ys i 0) → Walked r xs ys (i + 1)
    walked_known k =
        record {
          grows = w.grows;
          kept = w.kept;
          added = w.added;
          met = λ p h l. equal_or p i (λ (e : p ≡ i). rw e k) (λ d. w.met p (omega arith) l);
        }

    -- one that is placed
    module _ (y : ℕ) (e : y ≡ r ∩ get_or ys i 0) (d : y ≢ 0) (h : i < length ys) where
      pub walked_placed : Walked r xs (place y ys) (i + 1)
      walked_placed =
          record {
            grows = place_growing y ys w.grows;
            kept = λ z l. place_old y ys z (w.kept z l);
            added = λ z l. ⊎_elim (λ (q : z ≡ y). rw q new) (w.added z) ((place_iff y ys z).0 l);
            met = met;
          }
        where
          new : Listed (add_row r xs) y
          new = rw e (add_closed r xs (get_or ys i 0) (w.added (get_or ys i 0) (listed_at ys i h)) (rw e at d))

          own : r ∩ y ≡ y
          own = ap (λ (z : ℕ). r ∩ z) e ∙ sym (∩-assoc r r (get_or ys i 0)) ∙ ap (λ (z : ℕ). z ∩ get_or ys i 0) (∩-self r) ∙ sym e

          old : (q : ℕ) → q < i + 1 → q < length ys → (r ∩ get_or ys q 0 ≡ 0) ⊎ Listed (place y ys) (r ∩ get_or ys q 0)
          old q b l =
              equal_or q i (λ (g : q ≡ i). rw g (rw (← e) (◌⊎◌.inr (place_new y ys))))
              (λ g. ⊎_elim ◌⊎◌.inl (λ k. ◌⊎◌.inr (place_old y ys (r ∩ get_or ys q 0) k)) (w.met q (omega arith) l))

          met : (p : ℕ) → p < i + 1 → p < length (place y ys) → (r ∩ get_or (place y ys) p 0 ≡ 0) ⊎ Listed (place y ys) (r ∩ get_or (place y ys) p 0)
          met p b l =
              ⊎_elim (λ (g : get_or (place y ys) p 0 ≡ y). rw g (rw own (◌⊎◌.inr (place_new y ys))))
              (λ k. rw k.3 (old k.0 (omega (arith, k.1)) k.2))
              (place-from y ys p l)

      pub walked_full : Growing xs → 128 < length (place y ys) → 128 < length (add_row r xs)
      walked_full g l =
          let o = among_length (place y ys) (add_row r xs) walked_placed.grows (add_growing r xs g) walked_placed.added in
          omega arith

    pub walked_all : Growing xs → Listed xs r → length ys ≤ i → ys ≡ add_row r xs
    walked_all g l h = among_equal ys (add_row r xs) w.grows (add_growing r xs g) w.added back
      where
        met : (y : ℕ) → Met r xs y → Listed ys y
        met y m =
            let k = w.kept m.other m.listed in
            let e : y ≡ r ∩ get_or ys k.place 0 = m.meet ∙ ap (λ (z : ℕ). r ∩ z) (sym k.there) in
            ⊎_elim (λ z. absurd (m.nonempty (e ∙ z))) (λ t. rw e t) (w.met k.place (omega (arith, k.below)) k.below)

        back : Among (add_row r xs) ys
        back y t = ⊎_elim (w.kept y) (⊎_elim (λ k. rw k.0 (w.kept r l)) (met y)) (add_is r xs y t)

-- ---- a row

pub row_full : (r : ℕ) (xs : List ℕ) → r ≢ 0 → 128 < length (place r xs) → 128 < length (add_row r xs)
row_full r xs d h =
    let e : added_to r xs 0 ≡ place r xs = added_zero r xs ∙ admit-place r xs d in
    let o : length (place r xs) ≤ length (add_row r xs) = rw e at (added_length r xs 0) in
    omega arith
