-- What a binary search finds among rows that grow.
-- Assumes nothing.
use mathlib.Core.Path.{◌≡◌, sym, ◌∙◌}
use mathlib.Core.List.{List, []}
use Prim.Native.Nat.{ℕ, ◌≤◌, ◌<◌}
use native.Mathlib.Omega.{arith}
use lib.ListN.{length, get_or}
use Rattle.std.specs.Prelude.{Result, Ok, Err}
use Rattle.std.specs.Ordering.{nat_cmp, ordering_index}
use Rattle.std.specs.List.Sorted.{IsSearchInRange, IsBinarySearchResult, IsNonDecreasingBy}
use Rattle.std.proofs.lemmas.Bool.Decides.{nat_tests}
use Rattle.std.proofs.lemmas.Cmp.{ranked}
use Rattle.std.proofs.lemmas.List.Sorted.{IsNonDecreasingBy-from_default}
use Rattle.sets.specs.Words.{value}
use Rattle.sets.proofs.Truth.{equal_or}
use Rattle.model.specs.Candidates.{Growing}
use Rattle.tables.specs.Rows.{rows_of}
use Rattle.tables.specs.Search.{Finds}
use Rattle.tables.proofs.Chunks.{length-rows_of, row_of}

module _ (rows : List (List ℕ)) (x : ℕ) (g : Growing (rows_of rows)) where
  -- a row is no bigger than a later one
  rows_rise : (i j : ℕ) → i ≤ j → j < length rows → value (get_or rows i []) ≤ value (get_or rows j [])
  rows_rise i j le l =
      equal_or i j (λ (e : i ≡ j). rw e (omega arith))
      (λ d.
      let o : value (get_or rows i []) < value (get_or rows j []) = rw (row_of rows i (omega arith), row_of rows j l) at (g.order i j (omega arith) (rw (length-rows_of rows) l)) in
      omega arith)

  -- so what they answer rises, as the search asks
  answers_rise : IsNonDecreasingBy (λ ws. ordering_index (nat_cmp (value ws) x)) rows
  answers_rise = IsNonDecreasingBy-from_default (λ ws. ordering_index (nat_cmp (value ws) x)) rows [] (λ i j le l. grind (arith, nat_tests, rows_rise i j le l))

  pub searched : (r : Result ℕ ℕ) → IsSearchInRange r (length rows) → IsBinarySearchResult (λ ws. nat_cmp (value ws) x) rows r → Finds (length rows) (rows_of rows) x r
  searched (Ok i) l h = (l, row_of rows i l ∙ ranked _ x _ (sym (h [])))
  searched (Err i) l h =
      let parted = h answers_rise in
      record {
        within = l;
        before = λ j b. rw (row_of rows j (omega arith)) (ranked _ x _ (sym (parted.0 j [] (omega arith) b)));
        after = λ j from b. rw (row_of rows j b) (ranked _ x _ (sym (parted.1 j [] from b)));
      }
