-- The sets of a table, by their places.
-- Assumes nothing.
use mathlib.Core.Path.{◌≡◌, sym, ◌∙◌, ap}
use mathlib.Core.List.{List, ◌∷◌, ◌++◌}
use Prim.Native.Nat.{ℕ, suc, ◌+◌, ◌-◌, ◌*◌, ◌≤◌, ◌<◌}
use native.Mathlib.Nat.{zero-add}
use native.Mathlib.Omega.{arith}
use lib.ListN.{length, get_or, take, drop, length-append, length-drop, get_or-append}
use lib.Seq.{ext_get_or, length-take-le, get_or-take, get_or-drop, get_or_at, get_or-append-add}
use Rattle.model.specs.Lists.{set_at, rows_at}
use Rattle.model.proofs.Lists.{length-rows_at, get_d_rows_at}

pub row_at : (n : ℕ) (t : List ℕ) (k : ℕ) → k < n → get_or (rows_at n t 0) k 0 ≡ set_at 4 t (4 * k)
row_at n t k h = get_d_rows_at n t 0 k h ∙ ap (set_at 4 t) (zero-add (4 * k))

-- a list with the sets of a table is the list of its sets
pub rows_are : (n : ℕ) (t xs : List ℕ) → length xs ≡ n → ((k : ℕ) → k < n → set_at 4 t (4 * k) ≡ get_or xs k 0) → rows_at n t 0 ≡ xs
rows_are n t xs e h =
    ext_get_or 0 (rows_at n t 0) xs (length-rows_at n t 0 ∙ sym e)
    (λ k b. let b' : k < n = rw (length-rows_at n t 0) at b in row_at n t k b' ∙ h k b')

-- x put between the first i numbers of a list and the others
module _ (x : ℕ) (xs : List ℕ) (i : ℕ) (h : i ≤ length xs) where
  front : length (take i xs) ≡ i
  front = length-take-le i xs h

  pub spliced_length : length (take i xs ++ (x ∷ drop i xs)) ≡ suc (length xs)
  spliced_length = simp (length-append, front, length-drop) (omega arith)

  pub spliced_before : (j : ℕ) → j < i → get_or (take i xs ++ (x ∷ drop i xs)) j 0 ≡ get_or xs j 0
  spliced_before j l = get_or-append (take i xs) (x ∷ drop i xs) 0 j (omega (arith, front)) ∙ get_or-take i xs j 0 l

  pub spliced_at : get_or (take i xs ++ (x ∷ drop i xs)) i 0 ≡ x
  spliced_at = get_or_at (take i xs) x (drop i xs) 0 i front

  pub spliced_after : (j : ℕ) → i ≤ j → get_or (take i xs ++ (x ∷ drop i xs)) (suc j) 0 ≡ get_or xs j 0
  spliced_after j l =
      let e : length (take i xs) + suc (j - i) ≡ suc j = omega (arith, front) in
      let k : i + (j - i) ≡ j = omega arith in
      rw e at (get_or-append-add (take i xs) (x ∷ drop i xs) (suc (j - i)) 0) ∙ rw k at (get_or-drop i xs (j - i) 0)
