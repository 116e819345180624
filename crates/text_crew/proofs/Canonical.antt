-- The canonical text of a crew list is read back as that list, and a text that is accepted is the canonical text of the list read.
-- Assumes nothing.
use mathlib.Core.Path.{◌≡◌, refl, sym, ◌∙◌, ap}
use mathlib.Core.Bool.{So}
use mathlib.Core.List.{List, [], ◌∷◌, ◌++◌}
use Prim.Native.Nat.{ℕ, zero, suc, ◌+◌, ◌*◌, ◌/◌, ◌%◌, ◌^◌, ◌≤◌, ◌<◌}
use native.Mathlib.Nat.{not-suc-le-zero, add-zero, zero-add, lt_of_lt_of_le}
use native.Mathlib.Omega.{arith}
use lib.Dec.{eqb, ltb}
use lib.ListN.{length, get_or, take, length-append, get_or-append}
use lib.Pow.{pow_mono}
use lib.Seq.{take-suc, take_all, get_or-append_seam, ext_get_or}
use borrow.Author.Tests.{eq-eqb, ne_eqb}
use Rattle.sets.proofs.Truth.{all_is, all_of, ltb_iff, either, equal_or, below_suc, when-true, when-false, when_cases}
use Rattle.model.specs.Lists.{rows_at}
use Rattle.model.specs.State.{within_limits, rows_within}
use Rattle.model.proofs.Lists.{set_at_words, length-rows_at, get_d_rows_at}
use Rattle.std.specs.Prelude.{Option, Some, None, Ok}
use Rattle.text.specs.Fixed.{holds, comma, line_end}
use Rattle.text.specs.Decimal.{number, decimal_at, decimal}
use Rattle.text_sets.specs.Hexadecimal.{hexadecimal_value, hexadecimal}
use Rattle.text.proofs.Bytes.{holds_iff, holds-append, holds_whole, holds_self, holds_end}
use Rattle.text_sets.proofs.Hexadecimals.{sixteen, length-hexadecimal}
use Rattle.text.proofs.Written.{comma_parts, line_parts, decimal_reads, decimal_writes}
use Rattle.text_sets.proofs.Written.{hex_there, hex_reads, hex_writes}
use Rattle.text_lines.specs.Format.{crew_word, digits_for, header_line, row_line, row_lines, crew_text}
use Rattle.refusals.specs.declared.Refusal.TheVariants.{Limits, Text}
use Rattle.text_crew.specs.Reader.{longest_text, buffer_length, Read, rows_read, bad_form, bad_bit, with_row, next_row, rows_to, laid, ReadReply, read_refused, after_rows, read_crew}
use Rattle.text_lines.specs.Lines.{crew_header, limited, header_fields, header_at, row_digits_at}
use Rattle.model.proofs.Record.{within_limits_iff}
use Rattle.text_lines.proofs.Lines.{limits_kept_lem, fields_held, row_held}
use Rattle.text_lines.proofs.Forms.{HeaderForm, header_form, header_cases, row_form}
use Rattle.text_lines.proofs.Lengths.{length_header, length_row, length-crew_text}
use Rattle.text_crew.proofs.Laid.{get_d_laid}
use Rattle.text_crew.proofs.Answers.{wrong_buffer, too_long, by_crew, by_refusal}

-- 16 to the number of digits is enough for m bits
pub digits_enough : (m s : ℕ) → s < 2 ^ m → s < 16 ^ digits_for m
unfolding digits_for
digits_enough m s h =
    let f : m ≤ 4 * ((m + 3) / 4) = omega arith in
    let e : 2 ^ m ≤ 2 ^ (4 * ((m + 3) / 4)) = pow_mono f in
    rw (sixteen ((m + 3) / 4)) (omega arith)

-- ---- a canonical line is read

module _ (text : List ℕ) (n m : ℕ) (ln : n < 1000) (lm : m < 1000) (h : So (holds text 0 (header_line n m))) where
  pub header_reads : header_fields text ≡ Some (crew_header n m (length (header_line n m)))
  unfolding header_line
  header_reads =
      let a = (holds-append text 0 crew_word (decimal n ++ (comma ++ (decimal m ++ line_end)))).0 h in
      let b = (holds-append text 5 (decimal n) (comma ++ (decimal m ++ line_end))).0 a.1 in
      let c = (holds-append text (5 + length (decimal n)) comma (decimal m ++ line_end)).0 b.1 in
      let d = (holds-append text (5 + length (decimal n) + 1) (decimal m) line_end).0 c.1 in
      let p : decimal_at text 5 ≡ number n (5 + length (decimal n)) =
      decimal_reads text 5 n ln b.0 (comma_parts text (5 + length (decimal n)) c.0) in
      let q : decimal_at text (5 + length (decimal n) + 1) ≡ number m (5 + length (decimal n) + 1 + length (decimal m)) =
      decimal_reads text (5 + length (decimal n) + 1) m lm d.0 (line_parts text (5 + length (decimal n) + 1 + length (decimal m)) d.1) in
      sym (fields_held text a.0 p c.0 q d.1) ∙ ap (λ (x : ℕ). Some (crew_header n m x)) (sym (length_header n m))

pub header_read : (text : List ℕ) (n m : ℕ) → So (within_limits n m) → So (holds text 0 (header_line n m))
    → header_at text ≡ Ok (crew_header n m (length (header_line n m)))
unfolding header_at
header_read text n m l h =
    let k = (within_limits_iff n m).0 l in
    let ln : n ≤ 128 = k.1 in
    let lm : m ≤ 256 = k.3 in
    ap limited (header_reads text n m (omega arith) (omega arith) h) ∙ limits_kept_lem (crew_header n m (length (header_line n m))) l

module _ (text : List ℕ) (m u at s : ℕ) (l : u < 1000) (b : s < 16 ^ digits_for m) (h : So (holds text at (row_line m u s))) where
  pub row_read : (row_digits_at text (digits_for m) u at ≡ Some (at + length (decimal u) + 1)) × (hexadecimal_value (digits_for m) text (at + length (decimal u) + 1) ≡ s)
  unfolding row_line
  row_read =
      let d : ℕ = digits_for m in
      let a = (holds-append text at (decimal u) (comma ++ (hexadecimal (digits_for m) s ++ line_end))).0 h in
      let c = (holds-append text (at + length (decimal u)) comma (hexadecimal (digits_for m) s ++ line_end)).0 a.1 in
      let e = (holds-append text (at + length (decimal u) + 1) (hexadecimal (digits_for m) s) line_end).0 c.1 in
      let n : length (hexadecimal (digits_for m) s) ≡ digits_for m = length-hexadecimal (digits_for m) s in
      let p : decimal_at text at ≡ number u (at + length (decimal u)) =
      decimal_reads text at u l a.0 (comma_parts text (at + length (decimal u)) c.0) in (
        sym (row_held text (digits_for m) u at p refl c.0 (hex_there (digits_for m) text (at + length (decimal u) + 1) s b e.0) (rw n at e.1)),
        hex_reads (digits_for m) text (at + length (decimal u) + 1) s b e.0,
      )

add_read : (text : List ℕ) (m u : ℕ) (xs : List ℕ) (p digits s : ℕ) → row_digits_at text (digits_for m) u p ≡ Some digits
    → hexadecimal_value (digits_for m) text digits ≡ s → So (ltb s (2 ^ m))
    → next_row text m u (rows_read xs p) ≡ rows_read (xs ++ (s ∷ [])) (digits + digits_for m + 1)
unfolding next_row with_row
add_read text m u xs p digits s e f c = rw (e, f) (when-true _ _ _ c)

-- the rows of a canonical text
pub rows_read_lem : (text : List ℕ) (m at : ℕ) (rows : List ℕ) (n : ℕ) → n ≤ length rows → n ≤ 128 → ((u : ℕ) → u < n → get_or rows u 0 < 2 ^ m)
    → So (holds text at (row_lines m rows n)) → rows_to text m at n ≡ rows_read (take n rows) (at + length (row_lines m rows n))
unfolding rows_to row_lines
rows_read_lem text m at rows zero l k b h = ap (rows_read []) (sym (add-zero at))
rows_read_lem text m at rows (suc u) l k b h =
    let a = (holds-append text at (row_lines m rows u) (row_line m u (get_or rows u 0))).0 h in
    let r = row_read text m u (at + length (row_lines m rows u)) (get_or rows u 0) (omega arith) (digits_enough m (get_or rows u 0) (b u (omega arith))) a.1 in
    let e : rows_to text m at u ≡ rows_read (take u rows) (at + length (row_lines m rows u)) =
    rows_read_lem text m at rows u (omega arith) (omega arith) (λ i c. b i (omega arith)) a.0 in
    ap (next_row text m u) e ∙ add_read text m u (take u rows) (at + length (row_lines m rows u)) (at + length (row_lines m rows u) + length (decimal u) + 1) (get_or rows u 0) r.0 r.1 ((ltb_iff (get_or rows u 0) (2 ^ m)).1 (b u (omega arith)))
    ∙ ap (λ (x : List ℕ). rows_read x (at + length (row_lines m rows u) + length (decimal u) + 1 + digits_for m + 1)) (sym (take-suc rows u 0 (omega arith)))
    ∙ ap (rows_read (take (suc u) rows)) (place (length-append (row_lines m rows u) (row_line m u (get_or rows u 0))) (length_row m u (get_or rows u 0)))
  where
    place : length (row_lines m rows u ++ row_line m u (get_or rows u 0)) ≡ length (row_lines m rows u) + length (row_line m u (get_or rows u 0))
        → length (row_line m u (get_or rows u 0)) ≡ length (decimal u) + 1 + digits_for m + 1
        → at + length (row_lines m rows u) + length (decimal u) + 1 + digits_for m + 1 ≡ at + length (row_lines m rows u ++ row_line m u (get_or rows u 0))
    place e f = omega arith

whole_read : (text buffer : List ℕ) (n m : ℕ) (rows : List ℕ) (end : ℕ) → end ≡ length text
    → after_rows text buffer n m (rows_read rows end) ≡ record { code = 0; n = n; m = m; words = laid rows }
unfolding after_rows
whole_read text buffer n m rows end e = when-true _ _ _ (eq-eqb end (length text) e)

-- the canonical text of a crew list within the limits reads back as that list
pub read_back : (n m : ℕ) (rows buffer : List ℕ) → So (within_limits n m) → length rows ≡ n → So (rows_within m rows) → length buffer ≡ 512
    → read_crew (crew_text n m rows) buffer ≡ record { code = 0; n = n; m = m; words = laid rows }
unfolding crew_text rows_within
read_back n m rows buffer l c w b =
    let k = (within_limits_iff n m).0 l in
    let ln : n ≤ 128 = k.1 in
    let lm : m ≤ 256 = k.3 in
    let a = (holds-append (header_line n m ++ row_lines m rows n) 0 (header_line n m) (row_lines m rows n)).0 (holds_self (header_line n m ++ row_lines m rows n)) in
    let p : header_at (header_line n m ++ row_lines m rows n) ≡ Ok (crew_header n m (length (header_line n m))) =
    header_read (header_line n m ++ row_lines m rows n) n m l a.0 in
    let q : rows_to (header_line n m ++ row_lines m rows n) m (length (header_line n m)) n ≡ rows_read (take n rows) (length (header_line n m) + length (row_lines m rows n)) =
    rows_read_lem (header_line n m ++ row_lines m rows n) m (length (header_line n m)) rows n (omega arith) ln
    (λ u h. (ltb_iff (get_or rows u 0) (2 ^ m)).0 (all_is (length rows) (λ u. ltb (get_or rows u 0) (2 ^ m)) w u (omega arith)))
    (rw (zero-add (length (header_line n m))) at a.1) in
    let t : take n rows ≡ rows = take_all n rows (omega arith) in
    let small : length (header_line n m ++ row_lines m rows n) ≤ 8735 = length-crew_text n m rows ln lm in
    sym (by_crew (header_line n m ++ row_lines m rows n) buffer b (omega arith) _ p)
    ∙ ap (after_rows (header_line n m ++ row_lines m rows n) buffer n m) (q ∙ ap (λ (x : List ℕ). rows_read x (length (header_line n m) + length (row_lines m rows n))) t)
    ∙ whole_read (header_line n m ++ row_lines m rows n) buffer n m rows (length (header_line n m) + length (row_lines m rows n)) (sym (length-append (header_line n m) (row_lines m rows n)))

-- the words hold the rows
pub words_hold : (n m : ℕ) (rows : List ℕ) → So (within_limits n m) → length rows ≡ n → So (rows_within m rows) → rows_at n (laid rows) 0 ≡ rows
unfolding rows_within
words_hold n m rows l c w =
    let k = (within_limits_iff n m).0 l in
    let ln : n ≤ 128 = k.1 in
    let lm : m ≤ 256 = k.3 in
    ext_get_or 0 (rows_at n (laid rows) 0) rows (length-rows_at n (laid rows) 0 ∙ sym c)
    (λ u h.
    let d : length (rows_at n (laid rows) 0) ≡ n = length-rows_at n (laid rows) 0 in
    let b : u < n = omega arith in
    let s : get_or rows u 0 < 2 ^ m = (ltb_iff (get_or rows u 0) (2 ^ m)).0 (all_is (length rows) (λ u. ltb (get_or rows u 0) (2 ^ m)) w u (omega arith)) in
    let e : 2 ^ m ≤ 2 ^ (64 * 4) = pow_mono lm in
    get_d_rows_at n (laid rows) 0 u b
    ∙ set_at_words 4 (get_or rows u 0) (laid rows) (0 + 4 * u) (lt_of_lt_of_le s e)
    (λ j i.
    let p : (0 + 4 * u + j) / 4 ≡ u = omega arith in
    let q : (0 + 4 * u + j) % 4 ≡ j = omega arith in
    get_d_laid rows (0 + 4 * u + j) (omega arith) ∙ rw (p, q) refl))

-- ---- what is accepted is canonical

same_lines : (m : ℕ) (xs ys : List ℕ) (n : ℕ) → ((u : ℕ) → u < n → get_or xs u 0 ≡ get_or ys u 0) → row_lines m xs n ≡ row_lines m ys n
unfolding row_lines
same_lines m xs ys zero h = refl
same_lines m xs ys (suc n) h = rw (same_lines m xs ys n (λ u l. h u (omega arith)), h n (omega arith)) refl

-- a row that was read, written again
module _ (text : List ℕ) (m u at digits s : ℕ) (e : row_digits_at text (digits_for m) u at ≡ Some digits) (es : s ≡ hexadecimal_value (digits_for m) text digits) where
  pub row_written : So (holds text at (row_line m u s)) × (digits ≡ at + length (decimal u) + 1)
  unfolding row_line
  row_written =
      let f = row_form text (digits_for m) u at digits e in
      let g = decimal_writes text at u f.next f.number in
      let p : f.next ≡ at + length (decimal u) = g.place in
      let q : digits ≡ f.next + 1 = f.place in
      let n : length (hexadecimal (digits_for m) s) ≡ digits_for m = length-hexadecimal (digits_for m) s in
      let h : So (holds text digits (hexadecimal (digits_for m) s)) = rw es (hex_writes (digits_for m) text digits (rw q f.digits_there)) in
      let r : digits ≡ at + length (decimal u) + 1 = omega arith in
      let c : So (holds text (at + length (decimal u)) comma) = rw p at f.comma_there in
      let w : f.next + 1 + digits_for m ≡ digits + digits_for m = omega arith in
      let z : So (holds text (digits + length (hexadecimal (digits_for m) s)) line_end) = rw n (rw w at f.end_there) in
      let y : So (holds text digits (hexadecimal (digits_for m) s ++ line_end)) =
      (holds-append text digits (hexadecimal (digits_for m) s) line_end).1 (h, z) in (
        (holds-append text at (decimal u) (comma ++ (hexadecimal (digits_for m) s ++ line_end))).1
            (g.there, (holds-append text (at + length (decimal u)) comma (hexadecimal (digits_for m) s ++ line_end)).1 (c, rw r at y)),
        r,
      )

-- the first n rows that were read, written again
pub record RowsWritten (text : List ℕ) (m at n : ℕ) (rows : List ℕ) (end : ℕ) : Type 0 where
  pub count : length rows ≡ n
  pub small : (u : ℕ) → u < n → get_or rows u 0 < 2 ^ m
  pub there : So (holds text at (row_lines m rows n))
  pub place : end ≡ at + length (row_lines m rows n)

none_written : (text : List ℕ) (m at : ℕ) (rows : List ℕ) (end : ℕ) → at ≤ length text → rows_to text m at 0 ≡ rows_read rows end
    → RowsWritten text m at 0 rows end
unfolding rows_to row_lines
none_written text m at rows end h e =
    let p : [] ≡ rows = cc in
    let q : at ≡ end = cc in
    record {
      count = ap length (sym p);
      small = λ u l. absurd (not-suc-le-zero l);
      there = (holds_iff text at []).1 (let k : at + 0 ≤ length text = omega arith in k, λ i l. absurd (not-suc-le-zero l));
      place = let k : end ≡ at + 0 = omega arith in k;
    }

-- one row more, after those before it
one_written : (text : List ℕ) (m at u : ℕ) (xs : List ℕ) (p digits s : ℕ) → RowsWritten text m at u xs p
    → row_digits_at text (digits_for m) u p ≡ Some digits
    → s ≡ hexadecimal_value (digits_for m) text digits → s < 2 ^ m → RowsWritten text m at (suc u) (xs ++ (s ∷ [])) (digits + digits_for m + 1)
unfolding row_lines
one_written text m at u xs p digits s f e es b =
    let c : length xs ≡ u = f.count in
    let last : get_or (xs ++ (s ∷ [])) u 0 ≡ s = rw (sym c) (get_or-append_seam xs s [] 0) in
    let lines : row_lines m (xs ++ (s ∷ [])) u ≡ row_lines m xs u =
    same_lines m (xs ++ (s ∷ [])) xs u (λ i l. get_or-append xs (s ∷ []) 0 i (omega arith)) in
    let w = row_written text m u p digits s e es in
    let pl : p ≡ at + length (row_lines m xs u) = f.place in
    let d : digits ≡ p + length (decimal u) + 1 = w.1 in
    let n : length (row_lines m xs u ++ row_line m u s) ≡ length (row_lines m xs u) + length (row_line m u s) =
    length-append (row_lines m xs u) (row_line m u s) in
    let r : length (row_line m u s) ≡ length (decimal u) + 1 + digits_for m + 1 = length_row m u s in
    let k : length (xs ++ (s ∷ [])) ≡ length xs + 1 = length-append xs (s ∷ []) in
    record {
      count = omega arith;
      small = λ i l. below_suc i u l (λ (x : i ≡ u). rw (x, last) b) (λ h. rw (get_or-append xs (s ∷ []) 0 i (omega arith)) (f.small i h));
      there = rw (lines, last) ((holds-append text at (row_lines m xs u) (row_line m u s)).1 (f.there, rw pl at w.0));
      place = rw (lines, last) (omega arith);
    }

-- the ways to read one row more
module _ (text : List ℕ) (m at u : ℕ) (rows : List ℕ) (end : ℕ) where
  by_bits : (xs : List ℕ) (p digits : ℕ) → RowsWritten text m at u xs p → row_digits_at text (digits_for m) u p ≡ Some digits
      → So (ltb (hexadecimal_value (digits_for m) text digits) (2 ^ m))
      → rows_read (xs ++ (hexadecimal_value (digits_for m) text digits ∷ [])) (digits + digits_for m + 1) ≡ rows_read rows end
      → RowsWritten text m at (suc u) rows end
  by_bits xs p digits f e b k =
      let g = one_written text m at u xs p digits (hexadecimal_value (digits_for m) text digits) f e refl ((ltb_iff (hexadecimal_value (digits_for m) text digits) (2 ^ m)).0 b) in
      let v : xs ++ (hexadecimal_value (digits_for m) text digits ∷ []) ≡ rows = cc in
      let w : digits + digits_for m + 1 ≡ end = cc in
      rw (v, w) at g

  by_row : (xs : List ℕ) (p : ℕ) → RowsWritten text m at u xs p → (o : Option ℕ) → row_digits_at text (digits_for m) u p ≡ o
      → with_row text m xs o ≡ rows_read rows end
      → RowsWritten text m at (suc u) rows end
  unfolding with_row
  by_row xs p f (Some digits) e k =
      let s = hexadecimal_value (digits_for m) text digits in
      when_cases (ltb s (2 ^ m)) (rows_read (xs ++ (s ∷ [])) (digits + digits_for m + 1)) bad_bit (rows_read rows end) k (by_bits xs p digits f e)
      (λ t. λ (g : bad_bit ≡ rows_read rows end). let z : ◌≡◌ {A = ℕ} 0 1 = cc in absurd (omega arith))
  by_row xs p f None e k = let z : ◌≡◌ {A = ℕ} 0 1 = cc in absurd (omega arith)

  by_rows : (o : Read) → ((xs : List ℕ) (p : ℕ) → o ≡ rows_read xs p → RowsWritten text m at u xs p) → next_row text m u o ≡ rows_read rows end
      → RowsWritten text m at (suc u) rows end
  unfolding next_row
  by_rows (rows_read xs p) f k = by_row xs p (f xs p refl) (row_digits_at text (digits_for m) u p) refl k
  by_rows bad_form f k = let z : ◌≡◌ {A = ℕ} 0 1 = cc in absurd (omega arith)
  by_rows bad_bit f k = let z : ◌≡◌ {A = ℕ} 0 1 = cc in absurd (omega arith)

pub rows_written : (text : List ℕ) (m at n : ℕ) (rows : List ℕ) (end : ℕ) → at ≤ length text → rows_to text m at n ≡ rows_read rows end
    → RowsWritten text m at n rows end
unfolding rows_to
rows_written text m at zero rows end h e = none_written text m at rows end h e
rows_written text m at (suc u) rows end h e = by_rows text m at u rows end (rows_to text m at u) (λ xs p k. rows_written text m at u xs p h k) e

-- a header that was read, written again
pub header_written : (text : List ℕ) (n m at : ℕ) → HeaderForm text n m at → So (holds text 0 (header_line n m)) × (at ≡ length (header_line n m))
unfolding header_line
header_written text n m at f =
    let g = decimal_writes text 5 n f.next f.users in
    let k = decimal_writes text (f.next + 1) m f.end f.permissions in
    let p : f.next ≡ 5 + length (decimal n) = g.place in
    let q : f.end ≡ f.next + 1 + length (decimal m) = k.place in
    let r : at ≡ f.end + 1 = f.place in
    let l : So (holds text (f.next + 1 + length (decimal m)) line_end) = rw q at f.end_there in
    let b : So (holds text (f.next + 1) (decimal m ++ line_end)) = (holds-append text (f.next + 1) (decimal m) line_end).1 (k.there, l) in
    let c : So (holds text f.next (comma ++ (decimal m ++ line_end))) =
    (holds-append text f.next comma (decimal m ++ line_end)).1 (f.comma_there, b) in (
      (holds-append text 0 crew_word (decimal n ++ (comma ++ (decimal m ++ line_end)))).1
          (f.word_there, (holds-append text 5 (decimal n) (comma ++ (decimal m ++ line_end))).1 (g.there, rw p at c)),
      (let z : length (header_line n m) ≡ 5 + length (decimal n) + 1 + length (decimal m) + 1 = length_header n m in omega arith),
    )

-- what an accepted text says
pub record AcceptedText (text buffer : List ℕ) : Type 0 where
  pub users : ℕ
  pub permissions : ℕ
  pub rows : List ℕ
  pub answer : read_crew text buffer ≡ record { code = 0; n = users; m = permissions; words = laid rows }
  pub limits : So (within_limits users permissions)
  pub count : length rows ≡ users
  pub within : So (rows_within permissions rows)
  pub canonical : text ≡ crew_text users permissions rows

-- a refusal is no acceptance
refused_not : (text buffer : List ℕ) (k : ℕ) → read_refused (suc k) buffer ≡ read_crew text buffer → (read_crew text buffer).code ≡ 0
    → AcceptedText text buffer
unfolding read_refused
refused_not text buffer k e z = let y : suc k ≡ 0 = ap (λ (x : ReadReply). x.code) e ∙ z in absurd (omega arith)

module _ (text buffer : List ℕ) (z : (read_crew text buffer).code ≡ 0) where
  all_rows : (n m at : ℕ) → header_at text ≡ Ok (crew_header n m at) → (rows : List ℕ) (end : ℕ) → rows_to text m at n ≡ rows_read rows end
      → record { code = 0; n = n; m = m; words = laid rows } ≡ read_crew text buffer → end ≡ length text → AcceptedText text buffer
  unfolding crew_text rows_within
  all_rows n m at e rows end r a l =
      let f = header_form text (crew_header n m at) e in
      let h = header_written text n m at f.0 in
      let p : at ≡ length (header_line n m) = h.1 in
      let hl : 0 + length (header_line n m) ≤ length text = holds_end text 0 (header_line n m) h.0 in
      let w = rows_written text m at n rows end (omega arith) r in
      let c : length rows ≡ n = w.count in
      let q : end ≡ at + length (row_lines m rows n) = w.place in
      let there : So (holds text (length (header_line n m)) (row_lines m rows n)) = rw p at w.there in
      let n' : length (header_line n m ++ row_lines m rows n) ≡ length (header_line n m) + length (row_lines m rows n) =
      length-append (header_line n m) (row_lines m rows n) in
      record {
        users = n;
        permissions = m;
        rows = rows;
        answer = sym a;
        limits = f.1;
        count = c;
        within = all_of (length rows) (λ u. ltb (get_or rows u 0) (2 ^ m)) (λ u b. (ltb_iff (get_or rows u 0) (2 ^ m)).1 (w.small u (omega arith)));
        canonical = holds_whole text (header_line n m ++ row_lines m rows n) ((holds-append text 0 (header_line n m) (row_lines m rows n)).1 (h.0, rw (zero-add (length (header_line n m))) there)) (omega arith);
      }

  by_end : (n m at : ℕ) → header_at text ≡ Ok (crew_header n m at) → (o : Read) → rows_to text m at n ≡ o → after_rows text buffer n m o ≡ read_crew text buffer
      → AcceptedText text buffer
  unfolding after_rows
  by_end n m at e (rows_read rows end) r a =
      equal_or end (length text)
      (λ l. all_rows n m at e rows end r (sym (whole_read text buffer n m rows end l) ∙ a) l)
      (λ d. refused_not text buffer 9 (sym (when-false (eqb end (length text)) (record { code = 0; n = n; m = m; words = laid rows }) (read_refused 10 buffer) (ne_eqb end (length text) d)) ∙ a) z)
  by_end n m at e bad_form r a = refused_not text buffer 9 a z
  by_end n m at e bad_bit r a = refused_not text buffer 2 a z

  by_line : length buffer ≡ buffer_length → length text ≤ longest_text → AcceptedText text buffer
  by_line b l =
      header_cases text
      (λ h e. by_end h.n h.m h.next e (rows_to text h.m h.next h.n) refl (by_crew text buffer b l h e))
      (λ e. refused_not text buffer 9 (by_refusal text buffer b l Text e) z)
      (λ e. refused_not text buffer 1 (by_refusal text buffer b l Limits e) z)

  pub accepted : AcceptedText text buffer
  accepted =
      equal_or (length buffer) buffer_length
      (λ b.
      either longest_text (length text) (λ l. refused_not text buffer 9 (too_long text buffer b l) z) (λ l. by_line b l))
      (λ d. refused_not text buffer 2 (wrong_buffer text buffer d) z)

-- a text that is accepted is the canonical text of the list that its answer and its words hold
pub accepted_canonical : (text buffer : List ℕ) → (read_crew text buffer).code ≡ 0
    → text ≡ crew_text (read_crew text buffer).n (read_crew text buffer).m (rows_at (read_crew text buffer).n (read_crew text buffer).words 0)
accepted_canonical text buffer z =
    let a = accepted text buffer z in
    let e : read_crew text buffer ≡ record { code = 0; n = a.users; m = a.permissions; words = laid a.rows } = a.answer in
    rw e (a.canonical ∙ ap (crew_text a.users a.permissions) (sym (words_hold a.users a.permissions a.rows a.limits a.count a.within)))
