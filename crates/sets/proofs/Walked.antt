-- A set walked word after word, for any number of words: what is known before word j, and what its word adds.
-- Assumes nothing.
use mathlib.Core.Path.{◌≡◌, sym, ◌∙◌}
use mathlib.Core.Bool.{Bool, false}
use mathlib.Core.List.{List, [], ◌∷◌}
use Prim.Native.Nat.{ℕ, suc, ◌+◌, ◌-◌, ◌*◌, ◌≤◌, ◌<◌}
use native.Mathlib.Omega.{arith}
use borrow.Author.Tests.{eq-eqb, ne_eqb}
use lib.Dec.{eqb, ltb}
use lib.Count.{count_trailing_zeros, count_leading_zeros}
use lib.ListN.{get_or, drop}
use Rattle.std.proofs.Math.Seq.{drop-cons}
use Rattle.std.proofs.lemmas.List.{drop_all}
use Rattle.std.specs.Prelude.{Option, Some, None}
use Rattle.sets.specs.Truth.{when◌then◌else◌}
use Rattle.sets.specs.Words.{value}
use Rattle.sets.specs.Extremes.{lowest, highest}
use Rattle.sets.proofs.Truth.{when-true, when-false}
use Rattle.sets.proofs.Compare.{less_from, value-less, less_none}
use Rattle.sets.proofs.Extremes.{lowest_from, highest_from, value-lowest, value-highest}
use Rattle.sets.proofs.Written.{Arr}

module _ (n : ℕ) (ws : List ℕ) (a : Arr n ws) (j : ℕ) where
  -- what is before the end
  here : j < n → drop j ws ≡ get_or ws j 0 ∷ drop (j + 1) ws
  here l = let s : j + 1 ≡ suc j = omega arith in rw s (drop-cons ws j 0 (rw a.0 l))

  gone : n ≤ j → drop j ws ≡ []
  gone l = drop_all j ws (rw a.0 l)

  -- no word before j has an item
  abbrev NoneBefore : Type 0
  NoneBefore = lowest_from (64 * j) (drop j ws) ≡ lowest_from 0 ws

  pub lowest_here : j < n → (get_or ws j 0 ≡ 0 → ⊥) → NoneBefore → Some (64 * j + count_trailing_zeros 64 (get_or ws j 0)) ≡ lowest (64 * n) (value ws)
  lowest_here l d e =
      sym (when-false (eqb (get_or ws j 0) 0) (lowest_from (64 * j + 64) (drop (j + 1) ws)) (Some (64 * j + count_trailing_zeros 64 (get_or ws j 0))) (ne_eqb (get_or ws j 0) 0 d))
      ∙ (rw (here l) at e) ∙ rw a.0 at (value-lowest ws a.1)

  pub lowest_nowhere : n ≤ j → NoneBefore → None ≡ lowest (64 * n) (value ws)
  lowest_nowhere l e = (rw (gone l) at e) ∙ rw a.0 at (value-lowest ws a.1)

  -- the highest item of the words before j
  abbrev HighestBefore : Option ℕ → Type 0
  HighestBefore found = highest_from (64 * j) found (drop j ws) ≡ highest_from 0 None ws

  pub highest_all : (found : Option ℕ) → n ≤ j → HighestBefore found → found ≡ highest (64 * n) (value ws)
  highest_all found l e = (rw (gone l) at e) ∙ rw a.0 at (value-highest ws a.1)

-- one word more
module _ (n : ℕ) (ws : List ℕ) (a : Arr n ws) (j : ℕ) (l : j < n) where
  further : 64 * (j + 1) ≡ 64 * j + 64
  further = omega arith

  pub none_more : get_or ws j 0 ≡ 0 → NoneBefore n ws a j → NoneBefore n ws a (j + 1)
  none_more z e =
      rw further
      (sym (when-true (eqb (get_or ws j 0) 0) (lowest_from (64 * j + 64) (drop (j + 1) ws)) (Some (64 * j + count_trailing_zeros 64 (get_or ws j 0))) (eq-eqb (get_or ws j 0) 0 z))
      ∙ (rw (here n ws a j l) at e))

  pub highest_more : (found : Option ℕ) → HighestBefore n ws a j found → HighestBefore n ws a (j + 1) (when eqb (get_or ws j 0) 0 then found else Some (64 * j + (63 - count_leading_zeros 64 (get_or ws j 0))))
  highest_more found e = rw further (rw (here n ws a j l) at e)

-- what the words before j say of two sets
module _ (n : ℕ) (xs ys : List ℕ) (a : Arr n xs) (b : Arr n ys) (j : ℕ) where
  abbrev pub LessBefore : Bool → Type 0
  LessBefore t = less_from t (drop j xs) (drop j ys) ≡ less_from false xs ys

  pub less_all : (t : Bool) → n ≤ j → LessBefore t → t ≡ ltb (value xs) (value ys)
  less_all t l e = (rw (gone n xs a j l) at e) ∙ value-less false xs ys a.1 b.1 (a.0 ∙ sym b.0) ∙ less_none (value xs) (value ys)

pub less_more : (n : ℕ) (xs ys : List ℕ) (a : Arr n xs) (b : Arr n ys) (j : ℕ) → j < n → (t : Bool) → LessBefore n xs ys a b j t
    → LessBefore n xs ys a b (j + 1) (when eqb (get_or xs j 0) (get_or ys j 0) then t else ltb (get_or xs j 0) (get_or ys j 0))
less_more n xs ys a b j l t e = rw (here n xs a j l, here n ys b j l) at e
