-- Runs of bytes written one after another make the crew text of a record; and how many bytes these are.
-- Assumes nothing.
use mathlib.Core.Path.{◌≡◌, refl, sym, ◌∙◌, ap}
use mathlib.Core.Bool.{So}
use mathlib.Core.List.{List, [], ◌++◌}
use Prim.Native.Nat.{ℕ, zero, suc, ◌+◌, ◌*◌, ◌≤◌, ◌<◌}
use native.Mathlib.Nat.{add-zero}
use native.Mathlib.Omega.{arith}
use native.Mathlib.Numerals.{add-one}
use lib.ListN.{length, get_or}
use Rattle.std.specs.List.{range_with_len, sum_by}
use Rattle.std.proofs.lemmas.List.Sums.{sum_by-cons}
use Rattle.model.specs.Lists.{set_at, rows_at}
use Rattle.model.specs.State.{State}
use Rattle.model.specs.Record.{record_length, crew_start, state_of, sound}
use Rattle.model.proofs.Lists.{get_d_rows_at}
use Rattle.model.proofs.Record.{sound_iff}
use Rattle.stores.specs.Stores.{put_at}
use Rattle.text.specs.Fixed.{comma, line_end}
use Rattle.text.specs.Decimal.{decimal}
use Rattle.text.proofs.Puts.{Put, put_none, put_then, put_same}
use Rattle.text_sets.specs.Hexadecimal.{hexadecimal}
use Rattle.text_sets.proofs.Hexadecimals.{length-hexadecimal}
use Rattle.text_lines.specs.Format.{digits_for, header_line, row_line, row_lines, crew_text}
use Rattle.text_lines.proofs.Lengths.{length_header, length-rows-zero, length-rows_more, length_text, length-crew_text}
use Rattle.text_write.specs.Text.{record_text, longest_written}

-- ---- how many bytes

-- the rows from the one at a on add what each has, whatever it is
rows_sum : (m : ℕ) (rows : List ℕ) (row : ℕ → ℕ) → ((u : ℕ) → row u ≡ length (decimal u) + 1 + digits_for m + 1) → (a k : ℕ)
    → length (row_lines m rows a) + sum_by row (range_with_len a k) ≡ length (row_lines m rows (a + k))
rows_sum m rows row e a zero = rw (add-zero a) (omega arith)
rows_sum m rows row e a (suc k) =
    let x = rows_sum m rows row e (a + 1) k in
    let f : a + 1 + k ≡ a + suc k = omega arith in
    let y : length (row_lines m rows (a + 1 + k)) ≡ length (row_lines m rows (a + suc k)) = ap (λ (i : ℕ). length (row_lines m rows i)) f in
    let z : length (row_lines m rows (a + 1)) ≡ length (row_lines m rows a) + (length (decimal a) + 1 + digits_for m + 1) = rw (add-one a) (length-rows_more m rows a) in
    omega (arith, e a, sum_by-cons row a (range_with_len (a + 1) k))

module _ (n m : ℕ) (row : ℕ → ℕ) (e : (u : ℕ) → row u ≡ length (decimal u) + 1 + digits_for m + 1) where
  all_rows : (rows : List ℕ) → sum_by row (range_with_len 0 n) ≡ length (row_lines m rows n)
  all_rows rows =
      let f : 0 + n ≡ n = omega arith in
      let s : length (row_lines m rows 0) + sum_by row (range_with_len 0 n) ≡ length (row_lines m rows n) = rw f at (rows_sum m rows row e 0 n) in
      omega (arith, length-rows-zero m rows)

  pub rows_short : n ≤ 128 → m ≤ 256 → sum_by row (range_with_len 0 n) ≤ 8735
  rows_short h k = omega (arith, all_rows [], length_text n m [], length-crew_text n m [] h k)

  pub sized : (rows : List ℕ) (a b r : ℕ) → a ≡ length (decimal n) → b ≡ length (decimal m) → r ≡ sum_by row (range_with_len 0 n)
      → 7 + a + b + r ≡ length (crew_text n m rows)
  sized rows a b r ea eb er = omega (arith, length_header n m, all_rows rows, length_text n m rows)

-- ---- what is written

pub row_put : (l l1 l2 l3 l4 : List ℕ) (at r1 r2 r3 r4 : ℕ) (m u d s v : ℕ) → d ≡ digits_for m → s ≡ v → Put l at (decimal u) l1 r1 → Put l1 r1 comma l2 r2
    → (r3 ≡ r2 + d) × (l3 ≡ put_at l2 r2 (hexadecimal d s)) → Put l3 r3 line_end l4 r4 → Put l at (row_line m u v) l4 r4
unfolding row_line
row_put l l1 l2 l3 l4 at r1 r2 r3 r4 m u d s v ed es a b c e =
    let n : length (hexadecimal d s) ≡ d = length-hexadecimal d s in
    let h : Put l2 r2 (hexadecimal d s) l3 r3 = (c.0 ∙ ap (λ (x : ℕ). r2 + x) (sym n), c.1) in
    put_same _ _ _ _ _ _ (λ i. decimal u ++ (comma ++ (hexadecimal (ed i) (es i) ++ line_end)))
    (put_then _ _ _ _ _ _ (decimal u) (comma ++ (hexadecimal d s ++ line_end)) a
    (put_then _ _ _ _ _ _ comma (hexadecimal d s ++ line_end) b (put_then _ _ _ _ _ _ (hexadecimal d s) line_end h e)))

pub rows_none : (l : List ℕ) (at m : ℕ) (rows : List ℕ) → Put l at (row_lines m rows 0) l at
unfolding row_lines
rows_none l at m rows = put_none l at

-- one row more, read from the record
pub rows_more : (l l1 l2 : List ℕ) (at r1 r2 : ℕ) (m : ℕ) (ws : List ℕ) (n u : ℕ) → u < n → Put l at (row_lines m (rows_at n ws crew_start) u) l1 r1
    → Put l1 r1 (row_line m u (set_at 4 ws (crew_start + 4 * u))) l2 r2 → Put l at (row_lines m (rows_at n ws crew_start) (u + 1)) l2 r2
unfolding row_lines
rows_more l l1 l2 at r1 r2 m ws n u h p q =
    let rows = rows_at n ws crew_start in
    let e : row_line m u (set_at 4 ws (crew_start + 4 * u)) ≡ row_line m u (get_or rows u 0) = ap (row_line m u) (sym (get_d_rows_at n ws crew_start u h)) in
    rw (add-one u) (put_then _ _ _ _ _ _ (row_lines m rows u) (row_line m u (get_or rows u 0)) p (put_same _ _ _ _ _ _ e q))

pub rows_put : (l l' : List ℕ) (at r : ℕ) (m : ℕ) (rows : List ℕ) (u n : ℕ) → u ≡ n → Put l at (row_lines m rows u) l' r → Put l at (row_lines m rows n) l' r
rows_put l l' at r m rows u n e p = put_same _ _ _ _ _ _ (ap (row_lines m rows) e) p

-- ---- the text of a record

-- what the limits of a sound record leave of room
pub record RoomFor (ws : List ℕ) : Type 0 where
  pub size : length ws ≡ record_length
  pub users : get_or ws 0 0 ≤ 128
  pub permissions : get_or ws 1 0 ≤ 256
  pub header : length (header_line (get_or ws 0 0) (get_or ws 1 0)) ≡ 7 + length (decimal (get_or ws 0 0)) + length (decimal (get_or ws 1 0))
  pub bytes : length (record_text ws)
      ≡ length (header_line (get_or ws 0 0) (get_or ws 1 0)) + length (row_lines (get_or ws 1 0) (rows_at (get_or ws 0 0) ws crew_start) (get_or ws 0 0))

pub record_room : (ws : List ℕ) → So (sound ws) → RoomFor ws
unfolding record_text state_of
record_room ws h =
    let s = (sound_iff ws).0 h in
    let l = s.1 in
    let n = get_or ws 0 0 in
    let m = get_or ws 1 0 in
    record {
      size = s.0;
      users = l.users_most;
      permissions = l.permissions_most;
      header = omega (arith, length_header n m);
      bytes = length_text n m (rows_at n ws crew_start);
    }

pub record_put : (l l1 l2 : List ℕ) (r1 r2 : ℕ) (ws : List ℕ) → (r1 ≡ length (header_line (get_or ws 0 0) (get_or ws 1 0))) × (l1 ≡ put_at l 0 (header_line (get_or ws 0 0) (get_or ws 1 0)))
    → Put l1 r1 (row_lines (get_or ws 1 0) (rows_at (get_or ws 0 0) ws crew_start) (get_or ws 0 0)) l2 r2 → l2 ≡ put_at l 0 (record_text ws)
unfolding record_text state_of crew_text
record_put l l1 l2 r1 r2 ws p q =
    let n = get_or ws 0 0 in
    let m = get_or ws 1 0 in
    (put_then _ _ _ 0 _ _ (header_line n m) (row_lines m (rows_at n ws crew_start) n) (let e : r1 ≡ 0 + length (header_line n m) = omega (arith, p.0) in e, p.1) q).1

-- a record has the text of its state
pub text_of : (ws : List ℕ) (st : State) → state_of ws ≡ st → record_text ws ≡ crew_text st.users st.permissions st.rows
unfolding record_text
text_of ws st e = ap (λ (x : State). crew_text x.users x.permissions x.rows) e

-- none has a longer one
pub text_most : (ws : List ℕ) → So (sound ws) → length (record_text ws) ≤ longest_written
text_most ws h =
    let l = ((sound_iff ws).0 h).1 in
    rw (text_of ws (state_of ws) refl) (length-crew_text (state_of ws).users (state_of ws).permissions (state_of ws).rows l.users_most l.permissions_most)
