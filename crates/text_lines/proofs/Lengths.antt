-- How long the lines of a crew text are.
-- Assumes nothing.
use mathlib.Core.Path.{◌≡◌, refl, ap}
use mathlib.Core.List.{List, ◌++◌}
use Prim.Native.Nat.{ℕ, zero, suc, ◌+◌, ◌-◌, ◌*◌, ◌/◌, ◌≤◌, ◌<◌}
use native.Mathlib.Omega.{arith}
use lib.ListN.{length, get_or, length-append}
use Rattle.sets.proofs.Truth.{below_suc}
use Rattle.text.specs.Fixed.{comma, line_end}
use Rattle.text.specs.Decimal.{decimal}
use Rattle.text.proofs.Written.{decimal_lengths, decimal-length}
use Rattle.text_sets.specs.Hexadecimal.{hexadecimal}
use Rattle.text_sets.proofs.Hexadecimals.{length-hexadecimal}
use Rattle.text_lines.specs.Format.{digits_for, header_line, row_line, row_lines, crew_text}

-- ---- digits

pub digits_are : (size : ℕ) → (size + 3) / 4 ≡ digits_for size
unfolding digits_for
digits_are size = refl

pub digits_most : (size most : ℕ) → size ≤ 4 * most → digits_for size ≤ most
unfolding digits_for
digits_most size most h = omega arith

pub digits_few : (m : ℕ) → m ≤ 256 → digits_for m ≤ 64
unfolding digits_for
digits_few m h = omega arith

-- ---- lines

pub length_header : (n m : ℕ) → length (header_line n m) ≡ 5 + length (decimal n) + 1 + length (decimal m) + 1
unfolding header_line
length_header n m =
    let a : length (decimal n ++ (comma ++ (decimal m ++ line_end))) ≡ length (decimal n) + suc (length (decimal m ++ line_end)) =
    length-append (decimal n) (comma ++ (decimal m ++ line_end)) in
    let b : length (decimal m ++ line_end) ≡ length (decimal m) + 1 = length-append (decimal m) line_end in
    omega arith

pub length_row : (m u s : ℕ) → length (row_line m u s) ≡ length (decimal u) + 1 + digits_for m + 1
unfolding row_line
length_row m u s =
    let a : length (decimal u ++ (comma ++ (hexadecimal (digits_for m) s ++ line_end))) ≡ length (decimal u) + suc (length (hexadecimal (digits_for m) s ++ line_end)) =
    length-append (decimal u) (comma ++ (hexadecimal (digits_for m) s ++ line_end)) in
    let b : length (hexadecimal (digits_for m) s ++ line_end) ≡ length (hexadecimal (digits_for m) s) + 1 =
    length-append (hexadecimal (digits_for m) s) line_end in
    let c : length (hexadecimal (digits_for m) s) ≡ digits_for m = length-hexadecimal (digits_for m) s in
    omega arith

-- ---- rows

pub length-rows-zero : (m : ℕ) (rows : List ℕ) → length (row_lines m rows 0) ≡ 0
unfolding row_lines
length-rows-zero m rows = refl

-- one row more: whatever the rows are
pub length-rows_more : (m : ℕ) (rows : List ℕ) (u : ℕ)
    → length (row_lines m rows (suc u)) ≡ length (row_lines m rows u) + (length (decimal u) + 1 + digits_for m + 1)
unfolding row_lines
length-rows_more m rows u =
    let a : length (row_lines m rows u ++ row_line m u (get_or rows u 0)) ≡ length (row_lines m rows u) + length (row_line m u (get_or rows u 0)) =
    length-append (row_lines m rows u) (row_line m u (get_or rows u 0)) in
    let b : length (row_line m u (get_or rows u 0)) ≡ length (decimal u) + 1 + digits_for m + 1 = length_row m u (get_or rows u 0) in
    omega arith

-- fewer rows are no longer
pub length-rows_fewer : (m : ℕ) (rows : List ℕ) (u n : ℕ) → u ≤ n → length (row_lines m rows u) ≤ length (row_lines m rows n)
length-rows_fewer m rows u zero h = let e : u ≡ 0 = omega arith in rw e (omega arith)
length-rows_fewer m rows u (suc n) h =
    below_suc u (suc n) (omega arith) (λ (e : u ≡ suc n). rw e (omega arith))
    (λ (l : u < suc n). omega (arith, length-rows_fewer m rows u n (omega arith), length-rows_more m rows n))

-- a row of 256 permissions has 64 digits, and a number one more from 10 on and from 100 on
length-rows : (m : ℕ) (rows : List ℕ) (n : ℕ) → m ≤ 256 → n ≤ 128 → length (row_lines m rows n) ≤ 67 * n + (n - 10) + (n - 100)
length-rows m rows zero h k = omega (arith, length-rows-zero m rows)
length-rows m rows (suc u) h k =
    let more = length-rows_more m rows u in
    let before : length (row_lines m rows u) ≤ 67 * u + (u - 10) + (u - 100) = length-rows m rows u h (omega arith) in
    let few : digits_for m ≤ 64 = digits_most m 64 (omega arith) in
    decimal_lengths u (omega arith)
    (λ l e. let x : length (decimal u) ≡ 1 = ap length e in omega arith)
    (λ a b some ha hb s e. let x : length (decimal u) ≡ 2 = ap length e in let y : 10 ≤ u = omega arith in omega arith)
    (λ a b c some ha hb hc s e. let x : length (decimal u) ≡ 3 = ap length e in let y : 100 ≤ u = omega arith in omega arith)

-- ---- the text

pub length_text : (n m : ℕ) (rows : List ℕ) → length (crew_text n m rows) ≡ length (header_line n m) + length (row_lines m rows n)
unfolding crew_text
length_text n m rows = length-append (header_line n m) (row_lines m rows n)

-- that of 128 users and 256 permissions is the longest
pub length-crew_text : (n m : ℕ) (rows : List ℕ) → n ≤ 128 → m ≤ 256 → length (crew_text n m rows) ≤ 8735
length-crew_text n m rows h k =
    let b = length_header n m in
    let c : length (decimal n) ≤ 3 = decimal-length n (omega arith) in
    let d : length (decimal m) ≤ 3 = decimal-length m (omega arith) in
    let e = length-rows m rows n k h in
    omega (arith, length_text n m rows)
