-- The items of a record's rows, counted one row after the other.
-- Assumes nothing.
use mathlib.Core.Path.{◌≡◌, refl, sym, ◌∙◌, ap}
use mathlib.Core.List.{List, map}
use Prim.Native.Nat.{ℕ, zero, suc, ◌+◌, ◌*◌, ◌^◌, ◌≤◌, ◌<◌}
use native.Mathlib.Nat.{le_trans, mul-le-mul_left, mul-le-mul_right, zero-add, add_comm}
use native.Mathlib.Omega.{arith}
use denote.Param.Members.{Mut}
use lib.Count.{ones, ones-le}
use lib.ListN.{get_or, get_or-eq_default}
use Rattle.std.specs.Bool.{⊤}
use Rattle.std.specs.Prelude.{sum, fold}
use Rattle.std.specs.Fn.{Called}
use Rattle.std.specs.Iterator.{Drains}
use Rattle.std.specs.Iterator.Runs.{EachRunFrom}
use Rattle.std.specs.List.{range_with_len}
use Rattle.std.specs.declared.iter.Map.{Map}
use Rattle.std.specs.declared.ops.Range.{Range}
use Rattle.std.specs.Iterator.Adapters.{map_source, map_callee}
use Rattle.std.proofs.iter.Yields.{nat_range_steps}
use Rattle.std.proofs.lemmas.Iterator.{YieldsList, YieldsList-from_map, YieldsList-from_range, maps}
use Rattle.std.proofs.lemmas.Iterator.Consumers.{fits_from_yields_list, sum_from_yields_List}
use Rattle.std.proofs.lemmas.List.FromFn.{sum_by-map-range_with_len_more}
use Rattle.sets.specs.Truth.{total}
use Rattle.sets.specs.Words.{value}
use Rattle.sets.proofs.Counts.{total_bound}
use Rattle.sets.proofs.Truth.{either, total_same}
use Rattle.sets.proofs.Words.{Words, value_lt}
use Rattle.model.specs.Lists.{set_at, elems}
use Rattle.model.specs.Quality as model
use Rattle.model.specs.Record.{juniors_start, members_start, permissions_start, role_rows_of}
use Rattle.quality.specs.Numbers.{counts_in}
use Rattle.model.proofs.Lists.{length_elems, get_d_elems}
use Rattle.model.proofs.Sound.{row_juniors, row_permissions, row_members}

-- a sum over a range
range_total : (n : ℕ) (f : ℕ → ℕ) → sum (map f (range_with_len 0 n)) ≡ total n f
unfolding total
range_total zero f = refl
range_total (suc n) f =
    let next : suc n ≡ n + 1 = omega arith in
    ap (λ (m : ℕ). sum (map f (range_with_len 0 m))) next ∙ sum_by-map-range_with_len_more (λ x. x) f 0 n n (zero-add n)
    ∙ ap (λ (x : ℕ). x + f n) (range_total n f) ∙ add_comm (total n f) (f n)

-- how many items the row of role k has, of w words from its place on
abbrev pub row_count : ℕ → List ℕ → (ℕ → ℕ) → ℕ → ℕ
row_count w ws place k = ones (set_at w ws (place k))

-- no set of w words has more than 64 w items
set_small : (w : ℕ) (ws : List ℕ) (at : ℕ) → Words ws → ones (set_at w ws at) ≤ 64 * w
unfolding set_at
set_small w ws at fits =
    ones-le (64 * w) (value (elems ws at w))
    (rw (length_elems ws at w) at
    (value_lt (elems ws at w)
    (λ i. either i w (λ l. rw (get_d_elems ws at w i l) (fits (at + i))) (λ l. rw (get_or-eq_default (elems ws at w) 0 {n = i} (rw (length_elems ws at w) l)) (omega arith)))))

module _ (w : ℕ) (ws : List ℕ) (place : ℕ → ℕ) (n : ℕ) (few : n ≤ 128) (fits : Words ws) where
  pub rows_few : total n (row_count w ws place) ≤ 64 * w * 128
  rows_few = le_trans (total_bound n (64 * w) (row_count w ws place) (λ k l. set_small w ws (place k) fits)) (let m = mul-le-mul_left (64 * w) few in omega arith)

  -- the sum of the code, whose closure counts a row, can be formed, and is that of the rows
  module _ {F : Type 0} {g : Mut F (ℕ × Unit {0}) ℕ} {f : F} (s : Map (Range ℕ) F) (source : map_source s ≡ record { start = 0; end = n }) (callee : map_callee s ≡ f)
      (counts : (k r : ℕ) (q : F) → Called g f (k, tt) r q → (q ≡ f) × (r ≡ row_count w ws place k)) where
    road : YieldsList (maps nat_range_steps g) (λ x. x) s (map (row_count w ws place) (range_with_len 0 n))
    road = YieldsList-from_map g (row_count w ws place) (YieldsList-from_range 0 n n source (omega arith)) callee counts

    pub rows_fit : w ≤ 4 → EachRunFrom (maps nat_range_steps g) s (λ p. fold (λ a x. a + x) 0 p.items < 2 ^ 64)
    rows_fit narrow =
        fits_from_yields_list s (2 ^ 64) road
        (rw (range_total n (row_count w ws place)) (let l = rows_few in let m : 64 * w * 128 ≤ 32768 = mul-le-mul_right 128 (mul-le-mul_left 64 narrow) in omega arith))

    pub rows_summed : (r : ℕ) → ((xs : List ℕ) × (⊤ → Drains (maps nat_range_steps g) s xs) × (r ≡ fold (λ a x. a + x) 0 xs)) → r ≡ total n (row_count w ws place)
    rows_summed r ran = sum_from_yields_List s r ran road ∙ range_total n (row_count w ws place)

-- ---- the four counts

pub counts_found : (ws : List ℕ) (a b d e : ℕ) → a ≡ ones (set_at 2 ws 4) → b ≡ total (get_or ws 2 0) (row_count 2 ws (λ k. members_start + 2 * k))
    → d ≡ total (get_or ws 2 0) (row_count 4 ws (λ k. permissions_start + 4 * k)) → e ≡ total (get_or ws 2 0) (row_count 2 ws (λ k. juniors_start + 2 * k))
    → counts_in (record { roles = a; members = b; permissions = d; links = e }) ≡ model.counted (get_or ws 2 0) (role_rows_of ws) (set_at 2 ws 4)
unfolding counts_in model.counted
counts_found ws a b d e ea eb ed ee =
    let c = get_or ws 2 0 in
    let members = eb ∙ total_same c _ (λ k. ones ((role_rows_of ws).members k)) (λ k l. ap ones (sym (row_members ws k l))) in
    let permissions = ed ∙ total_same c _ (λ k. ones ((role_rows_of ws).permissions k)) (λ k l. ap ones (sym (row_permissions ws k l))) in
    let links = ee ∙ total_same c _ (λ k. ones ((role_rows_of ws).juniors k)) (λ k l. ap ones (sym (row_juniors ws k l))) in
    λ i. record { roles = ea i; members = members i; permissions = permissions i; links = links i }
