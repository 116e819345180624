-- Growing lists of numbers: each number once, the smaller first. What stands in a list, and what placing a number does to it.
-- Assumes nothing.
use mathlib.Core.Path.{◌≡◌, refl, sym, ◌∙◌, ap, ap₂}
use mathlib.Core.Logic.{◌↔◌, ◌⊎◌, ⊎_elim}
use mathlib.Core.List.{List, [], ◌∷◌, ◌++◌}
use Prim.Native.Nat.{ℕ, zero, suc, ◌+◌, ◌-◌, ◌≤◌, ◌<◌}
use native.Mathlib.Nat.{not-suc-le-zero}
use native.Mathlib.Omega.{arith}
use lib.Dec.{eqb, ltb}
use lib.ListN.{length, get_or, take, drop, length-append, length-drop, get_or-append}
use lib.Seq.{length-take-le, get_or-take, get_or-drop, get_or_at, get_or-append-add}
use borrow.Author.Tests.{eq-eqb, ne_eqb, lt-ltb, le-ltb}
use Rattle.sets.proofs.Truth.{either, equal_or, when-true, when-false}
use Rattle.model.specs.Candidates.{place, Listed, Growing}

-- every member of the first list is one of the second
abbrev pub Among : List ℕ → List ℕ → Type 0
Among xs ys = (x : ℕ) → Listed xs x → Listed ys x

-- ---- members

pub listed_at : (xs : List ℕ) (i : ℕ) → i < length xs → Listed xs (get_or xs i 0)
listed_at xs i h = record { place = i; below = h; there = refl }

pub listed-none : {x : ℕ} → Listed [] x → ⊥
listed-none l = not-suc-le-zero l.below

pub listed-first : {y x : ℕ} {ys : List ℕ} → x ≡ y → Listed (y ∷ ys) x
listed-first e = record { place = 0; below = omega arith; there = sym e }

pub listed_later : {y x : ℕ} {ys : List ℕ} → Listed ys x → Listed (y ∷ ys) x
listed_later l = record { place = suc l.place; below = omega arith; there = l.there }

-- a member of a list is its first, or one of the rest
pub listed_cons {ℓ} : {C : Type ℓ} {y x : ℕ} {ys : List ℕ} → Listed (y ∷ ys) x → (x ≡ y → C) → (Listed ys x → C) → C
listed_cons {C = C} {y = y} {x = x} {ys = ys} l first later = go l.place l.below l.there
  where
    go : (i : ℕ) → i < suc (length ys) → get_or (y ∷ ys) i 0 ≡ x → C
    go zero h e = first (sym e)
    go (suc i) h e = later (record { place = i; below = omega arith; there = e })

-- ---- growing from one element to the next

pub growing_none : Growing []
growing_none = record { order = λ i j h l. absurd (not-suc-le-zero l) }

pub growing_cons : {y : ℕ} {ys : List ℕ} → ((x : ℕ) → Listed ys x → y < x) → Growing ys → Growing (y ∷ ys)
growing_cons {y} {ys} above g = record { order = go }
  where
    go : (i j : ℕ) → i < j → j < suc (length ys) → get_or (y ∷ ys) i 0 < get_or (y ∷ ys) j 0
    go i zero h l = absurd (not-suc-le-zero h)
    go zero (suc j) h l = above (get_or ys j 0) (listed_at ys j (omega arith))
    go (suc i) (suc j) h l = g.order i j (omega arith) (omega arith)

pub growing_rest : {y : ℕ} {ys : List ℕ} → Growing (y ∷ ys) → Growing ys
growing_rest g = record { order = λ i j h l. g.order (suc i) (suc j) (omega arith) (omega arith) }

pub growing_first : {y : ℕ} {ys : List ℕ} → Growing (y ∷ ys) → (x : ℕ) → Listed ys x → y < x
growing_first g x l = rw l.there at (g.order 0 (suc l.place) (omega arith) (omega arith))

-- the bigger number stands later, and a number stands at one place only
pub growing_later : {xs : List ℕ} → Growing xs → (i j : ℕ) → i < length xs → j < length xs → get_or xs i 0 < get_or xs j 0 → i < j
growing_later {xs} g i j hi hj h =
    either i j (λ l. l)
    (λ l.
    equal_or i j (λ (e : i ≡ j). let o : get_or xs j 0 < get_or xs j 0 = rw e at h in absurd (omega arith))
    (λ d. let o = g.order j i (omega arith) hi in absurd (omega arith)))

pub growing_place : {xs : List ℕ} → Growing xs → (i j : ℕ) → i < length xs → j < length xs → get_or xs i 0 ≡ get_or xs j 0 → i ≡ j
growing_place g i j hi hj e =
    either i j (λ l. let o = g.order i j l hj in absurd (omega arith))
    (λ l. equal_or i j (λ d. d) (λ d. let o = g.order j i (omega arith) hi in absurd (omega arith)))

-- ---- two growing lists

least : {y : ℕ} {ys : List ℕ} → Growing (y ∷ ys) → (x : ℕ) → Listed (y ∷ ys) x → y ≤ x
least g x l = listed_cons l (λ e. omega arith) (λ t. let o = growing_first g x t in omega arith)

among_rest : {y : ℕ} {xs ys : List ℕ} → ((x : ℕ) → Listed xs x → y < x) → Among xs (y ∷ ys) → Among xs ys
among_rest above f x l = listed_cons (f x l) (λ e. let o = above x l in absurd (omega arith)) (λ t. t)

-- a growing list whose members are all in another growing list is no longer than it
pub among_length : (xs ys : List ℕ) → Growing xs → Growing ys → Among xs ys → length xs ≤ length ys
among_length [] ys g h f = omega arith
among_length (x ∷ xs) [] g h f = absurd (listed-none (f x (listed-first refl)))
among_length (x ∷ xs) (y ∷ ys) g h f =
    either y x
    (λ l. let k = among_length (x ∷ xs) ys g (growing_rest h) (among_rest (λ z t. let o = least g z t in omega arith) f) in omega arith)
    (λ l.
    let m = least h x (f x (listed-first refl)) in
    let above : (z : ℕ) → Listed xs z → y < z = λ z t. let o = growing_first g z t in omega arith in
    let k = among_length xs ys (growing_rest g) (growing_rest h) (among_rest above (λ z t. f z (listed_later t))) in
    omega arith)

-- growing lists with the same members are equal
pub among_equal : (xs ys : List ℕ) → Growing xs → Growing ys → Among xs ys → Among ys xs → xs ≡ ys
among_equal [] [] g h f b = refl
among_equal [] (y ∷ ys) g h f b = absurd (listed-none (b y (listed-first refl)))
among_equal (x ∷ xs) [] g h f b = absurd (listed-none (f x (listed-first refl)))
among_equal (x ∷ xs) (y ∷ ys) g h f b =
    let m = least h x (f x (listed-first refl)) in
    let n = least g y (b y (listed-first refl)) in
    let e : x ≡ y = omega arith in
    ap₂ ◌∷◌ e
    (among_equal xs ys (growing_rest g) (growing_rest h)
    (among_rest (λ z t. let o = growing_first g z t in omega arith) (λ z t. f z (listed_later t)))
    (among_rest (λ z t. let o = growing_first h z t in omega arith) (λ z t. b z (listed_later t))))

-- ---- placing a number

-- the list's first is above x, is x, or is below x
place_cases : (C : List ℕ → Type 0) (x y : ℕ) (ys : List ℕ) → (x < y → C (x ∷ y ∷ ys)) → (x ≡ y → C (y ∷ ys)) → (y < x → C (y ∷ place x ys))
    → C (place x (y ∷ ys))
unfolding place
place_cases C x y ys below same above =
    either x y (λ l. rw (when-true (ltb x y) _ _ (lt-ltb x y l)) (below l))
    (λ l. rw (when-false (ltb x y) _ _ (le-ltb x y l))
    (equal_or x y (λ e. rw (when-true (eqb x y) _ _ (eq-eqb x y e)) (same e))
    (λ d. rw (when-false (eqb x y) _ _ (ne_eqb x y d)) (above (omega arith)))))

pub place_new : (x : ℕ) (xs : List ℕ) → Listed (place x xs) x
unfolding place
place_new x [] = listed-first refl
place_new x (y ∷ ys) = place_cases (λ l. Listed l x) x y ys (λ h. listed-first refl) (λ e. listed-first e) (λ h. listed_later (place_new x ys))

pub place_old : (x : ℕ) (xs : List ℕ) → Among xs (place x xs)
place_old x [] z t = absurd (listed-none t)
place_old x (y ∷ ys) z t =
    place_cases (λ l. Listed l z) x y ys (λ h. listed_later t) (λ e. t)
    (λ h. listed_cons t (λ e. listed-first e) (λ r. listed_later (place_old x ys z r)))

place_is : (x : ℕ) (xs : List ℕ) (z : ℕ) → Listed (place x xs) z → (z ≡ x) ⊎ Listed xs z
unfolding place
place_is x [] z t = listed_cons t ◌⊎◌.inl ◌⊎◌.inr
place_is x (y ∷ ys) z t =
    place_cases (λ l. Listed l z → (z ≡ x) ⊎ Listed (y ∷ ys) z) x y ys (λ h r. listed_cons r ◌⊎◌.inl ◌⊎◌.inr) (λ e r. ◌⊎◌.inr r)
    (λ h r. listed_cons r (λ e. ◌⊎◌.inr (listed-first e)) (λ q. ⊎_elim ◌⊎◌.inl (λ p. ◌⊎◌.inr (listed_later p)) (place_is x ys z q)))
    t

pub place_iff : (x : ℕ) (xs : List ℕ) (y : ℕ) → Listed (place x xs) y ↔ ((y ≡ x) ⊎ Listed xs y)
place_iff x xs y = (place_is x xs y, ⊎_elim (λ (e : y ≡ x). rw e (place_new x xs)) (place_old x xs y))

pub place_growing : (x : ℕ) (xs : List ℕ) → Growing xs → Growing (place x xs)
unfolding place
place_growing x [] g = growing_cons (λ z t. absurd (listed-none t)) g
place_growing x (y ∷ ys) g =
    place_cases Growing x y ys (λ h. growing_cons (λ z t. let o = least g z t in omega arith) g) (λ e. g)
    (λ h. growing_cons (λ z t. ⊎_elim (λ (e : z ≡ x). rw e h) (growing_first g z) (place_is x ys z t)) (place_growing x ys (growing_rest g)))

-- placing what is listed changes nothing
pub place-listed : {x : ℕ} {xs : List ℕ} → Growing xs → Listed xs x → place x xs ≡ xs
place-listed {x} {xs} g l =
    among_equal (place x xs) xs (place_growing x xs g) g (λ z t. ⊎_elim (λ (e : z ≡ x). rw e l) (λ r. r) (place_is x xs z t)) (place_old x xs)

pub place-length : (x : ℕ) (xs : List ℕ) → (length (place x xs) ≡ length xs) ⊎ (length (place x xs) ≡ suc (length xs))
unfolding place
place-length x [] = ◌⊎◌.inr refl
place-length x (y ∷ ys) =
    place_cases (λ l. (length l ≡ suc (length ys)) ⊎ (length l ≡ suc (suc (length ys)))) x y ys (λ h. ◌⊎◌.inr refl) (λ e. ◌⊎◌.inl refl)
    (λ h. ⊎_elim (λ e. ◌⊎◌.inl (ap suc e)) (λ e. ◌⊎◌.inr (ap suc e)) (place-length x ys))

between : (x : ℕ) (xs : List ℕ) (i : ℕ) → i ≤ length xs → ((j : ℕ) → j < i → get_or xs j 0 < x)
    → ((j : ℕ) → i ≤ j → j < length xs → x < get_or xs j 0) → place x xs ≡ take i xs ++ (x ∷ drop i xs)
unfolding place
between x [] zero h b a = refl
between x [] (suc i) h b a = absurd (not-suc-le-zero h)
between x (y ∷ ys) zero h b a =
    let l : x < y = a 0 (omega arith) (omega arith) in
    place_cases (λ t. t ≡ x ∷ y ∷ ys) x y ys (λ h. refl) (λ e. absurd (omega arith)) (λ g. absurd (omega arith))
between x (y ∷ ys) (suc i) h b a =
    let l : y < x = b 0 (omega arith) in
    place_cases (λ t. t ≡ y ∷ (take i ys ++ (x ∷ drop i ys))) x y ys (λ h. absurd (omega arith)) (λ e. absurd (omega arith))
    (λ g. ap (λ (t : List ℕ). y ∷ t) (between x ys i (omega arith) (λ j k. b (suc j) (omega arith)) (λ j k m. a (suc j) (omega arith) (omega arith))))

-- where place i is above x, so is all that follows
pub growing_after : {xs : List ℕ} → Growing xs → (x i : ℕ) → x < get_or xs i 0 → (j : ℕ) → i ≤ j → j < length xs → x < get_or xs j 0
growing_after g x i h j l k = equal_or i j (λ (e : i ≡ j). rw e at h) (λ d. let o = g.order i j (omega arith) k in omega arith)

-- a number above all before place i and below all from i on is put there
module _ (x : ℕ) (xs : List ℕ) (i : ℕ) (fits : i ≤ length xs) (before : (j : ℕ) → j < i → get_or xs j 0 < x)
    (after : (j : ℕ) → i ≤ j → j < length xs → x < get_or xs j 0) where
  pub placed : place x xs ≡ take i xs ++ (x ∷ drop i xs)
  placed = between x xs i fits before after

  front : length (take i xs) ≡ i
  front = length-take-le i xs fits

  pub placed_length : length (place x xs) ≡ suc (length xs)
  placed_length = simp (placed, length-append, front, length-drop) (omega arith)

  pub placed_before : (j : ℕ) → j < i → get_or (place x xs) j 0 ≡ get_or xs j 0
  placed_before j h = rw placed (get_or-append (take i xs) (x ∷ drop i xs) 0 j (omega (arith, front)) ∙ get_or-take i xs j 0 h)

  pub placed_at : get_or (place x xs) i 0 ≡ x
  placed_at = rw placed (get_or_at (take i xs) x (drop i xs) 0 i front)

  pub placed_after : (j : ℕ) → i ≤ j → get_or (place x xs) (suc j) 0 ≡ get_or xs j 0
  placed_after j h =
      let e : length (take i xs) + suc (j - i) ≡ suc j = omega (arith, front) in
      let k : i + (j - i) ≡ j = omega arith in
      rw placed (rw e at (get_or-append-add (take i xs) (x ∷ drop i xs) (suc (j - i)) 0) ∙ rw k at (get_or-drop i xs (j - i) 0))
