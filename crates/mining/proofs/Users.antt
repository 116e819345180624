-- Mining one row after the other.
-- Assumes nothing.
use mathlib.Core.Path.{◌≡◌, sym}
use mathlib.Core.List.{List}
use Prim.Native.Nat.{ℕ, suc, ◌+◌, ◌<◌}
use native.Mathlib.Numerals.{add-one}
use native.Mathlib.Omega.{arith}
use lib.ListN.{length, get_or}
use Rattle.model.specs.Candidates.{add_row, mined_to, candidates}
use Rattle.model.proofs.Candidates.{mined_suc, mined_no_more}

-- xs are the candidates of the first u rows, and r is the next row
module _ (rows : List ℕ) {xs : List ℕ} (u r : ℕ) (e : xs ≡ mined_to rows u) (next : r ≡ get_or rows u 0) (l : u < length rows) where
  step : add_row r xs ≡ mined_to rows (suc u)
  step = rw (next, e) (sym (mined_suc rows u))

  pub mining_more : add_row r xs ≡ mined_to rows (u + 1)
  mining_more = rw add-one step

  pub mining_full : 128 < length (add_row r xs) → 128 < length (candidates rows)
  mining_full h =
      let k : 128 < length (mined_to rows (suc u)) = rw step at h in
      let o = mined_no_more rows (suc u) l in
      omega arith
