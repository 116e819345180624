-- Rows cut out of words, and laid into them.
-- Assumes nothing.
use mathlib.Core.Path.{◌≡◌, refl, sym, ◌∙◌, ap}
use mathlib.Core.List.{List, [], ◌∷◌, ◌++◌}
use Prim.Native.Nat.{ℕ, zero, suc, ◌+◌, ◌-◌, ◌*◌, ◌/◌, ◌≤◌, ◌<◌}
use native.Mathlib.Nat.{not-suc-le-zero, le_of_suc-le-suc, zero-add}
use native.Mathlib.Omega.{arith}
use lib.ListN.{length, get_or, take, drop, length-drop, length-map, get_or-append}
use lib.Seq.{ext_get_or, length-take-le, get_or-take, get_or-drop, get_or-append-add}
use Rattle.std.specs.List.{flat_map}
use Rattle.std.specs.Simd.{first_chunks}
use Rattle.std.proofs.lemmas.List.{get_or-map}
use Rattle.sets.specs.Words.{value}
use Rattle.model.specs.Lists.{elems, set_at, rows_at}
use Rattle.model.proofs.Lists.{length_elems, get_d_elems, length-rows_at, get_d_rows_at, set_at_same}
use Rattle.tables.specs.Rows.{rows_of}
use Rattle.tables.proofs.Stores.{loaded}
use Rattle.tables.proofs.Parts.{length-part, set_at_part}
use Rattle.tables.proofs.Rows.{rows_are}

pub length-rows_of : (rows : List (List ℕ)) → length (rows_of rows) ≡ length rows
unfolding rows_of
length-rows_of rows = length-map rows value

pub row_of : (rows : List (List ℕ)) (u : ℕ) → u < length rows → get_or (rows_of rows) u 0 ≡ value (get_or rows u [])
unfolding rows_of
row_of rows u h = get_or-map value rows u [] 0 h

length-chunks : (n : ℕ) (ws : List ℕ) → length (first_chunks 4 n ws) ≡ n
length-chunks zero ws = refl
length-chunks (suc n) ws = ap suc (length-chunks n (drop 4 ws))

chunk : (n : ℕ) (ws : List ℕ) (u : ℕ) → u < n → 4 * n ≤ length ws → value (get_or (first_chunks 4 n ws) u []) ≡ set_at 4 ws (4 * u)
chunk zero ws u h l = absurd (not-suc-le-zero h)
chunk (suc n) ws zero h l = loaded 4 ws 0 (omega arith)
chunk (suc n) ws (suc u) h l =
    chunk n (drop 4 ws) u (le_of_suc-le-suc h) (rw (length-drop 4 ws) (omega arith))
    ∙ set_at_same 4 (drop 4 ws) ws (4 * u) (4 * suc u) (λ j b. get_or-drop 4 ws (4 * u + j) 0 ∙ ap (λ (i : ℕ). get_or ws i 0) (let e : 4 + (4 * u + j) ≡ 4 * suc u + j = omega arith in e))

-- the first chunks of the words from a place on are the rows there
module _ (n at : ℕ) (ws : List ℕ) (h : at + 4 * n ≤ length ws) where
  abbrev rest : List ℕ
  rest = take (length ws - at) (drop at ws)

  abbrev chunks : List (List ℕ)
  chunks = first_chunks 4 (length (take (length ws - at) (drop at ws)) / 4) (take (length ws - at) (drop at ws))

  many : n ≤ length rest / 4
  many = let e = length-part ws at (length ws) (omega arith) in omega arith

  size : length (take n chunks) ≡ n
  size = length-take-le n chunks (rw (length-chunks (length rest / 4) rest) many)

  pub chunked : rows_of (take n (first_chunks 4 (length (take (length ws - at) (drop at ws)) / 4) (take (length ws - at) (drop at ws)))) ≡ rows_at n ws at
  chunked =
      ext_get_or 0 (rows_of (take n chunks)) (rows_at n ws at) (length-rows_of (take n chunks) ∙ size ∙ sym (length-rows_at n ws at))
      (λ u b.
      let l : u < n = rw (length-rows_of (take n chunks) ∙ size) at b in
      row_of (take n chunks) u (rw size l) ∙ ap value (get_or-take n chunks u [] l) ∙ chunk (length rest / 4) rest u (omega (arith, many)) (omega arith)
      ∙ set_at_part 4 at (length ws - at) ws (4 * u) (omega arith) ∙ sym (get_d_rows_at n ws at u l))

-- ---- rows written as words

whole : (ws : List ℕ) → length ws ≡ 4 → set_at 4 ws 0 ≡ value ws
unfolding set_at
whole ws e =
    ap value (ext_get_or 0 (elems ws 0 4) ws (length_elems ws 0 4 ∙ sym e) (λ i b. let l : i < 4 = rw (length_elems ws 0 4) at b in get_d_elems ws 0 4 i l ∙ ap (λ (j : ℕ). get_or ws j 0) (zero-add i)))

flat_row : (rows : List (List ℕ)) → ((u : ℕ) → u < length rows → length (get_or rows u []) ≡ 4) → (u : ℕ) → u < length rows
    → set_at 4 (flat_map (λ ws. ws) rows) (4 * u) ≡ value (get_or rows u [])
flat_row [] h u l = absurd (not-suc-le-zero l)
flat_row (ws ∷ rows) h zero l =
    let four = h 0 l in
    set_at_same 4 (ws ++ flat_map (λ ws. ws) rows) ws 0 0 (λ j b. get_or-append ws (flat_map (λ ws. ws) rows) 0 (0 + j) (omega arith)) ∙ whole ws four
flat_row (ws ∷ rows) h (suc u) l =
    let four : length ws ≡ 4 = h 0 (omega arith) in
    set_at_same 4 (ws ++ flat_map (λ ws. ws) rows) (flat_map (λ ws. ws) rows) (4 * suc u) (4 * u)
    (λ j b.
    let e : 4 * suc u + j ≡ length ws + (4 * u + j) = omega arith in
    rw e (get_or-append-add ws (flat_map (λ ws. ws) rows) (4 * u + j) 0))
    ∙ flat_row rows (λ v k. h (suc v) (omega arith)) u (le_of_suc-le-suc l)

-- the words of the rows, one after the other, are words of these rows
pub flattened : (rows : List (List ℕ)) → ((u : ℕ) → u < length rows → length (get_or rows u []) ≡ 4) → rows_at (length rows) (flat_map (λ ws. ws) rows) 0 ≡ rows_of rows
flattened rows h = rows_are (length rows) (flat_map (λ ws. ws) rows) (rows_of rows) (length-rows_of rows) (λ u l. flat_row rows h u l ∙ sym (row_of rows u l))
