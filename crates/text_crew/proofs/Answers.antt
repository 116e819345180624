-- Reading the rows: how far it has come, and how it ends.
-- Assumes nothing.
use mathlib.Core.Path.{◌≡◌, refl, sym, ◌∙◌, ap}
use mathlib.Core.Bool.{Bool, true, false, So, not}
use mathlib.Core.List.{List, [], ◌∷◌, ◌++◌}
use mathlib.Core.Logic.{◌≢◌}
use Prim.Native.Nat.{ℕ, zero, suc, ◌+◌, ◌-◌, ◌*◌, ◌^◌, ◌≤◌, ◌<◌, min}
use native.Mathlib.Nat.{add-zero, add-suc}
use native.Mathlib.Omega.{arith}
use native.Mathlib.Numerals.{add-one}
use lib.Dec.{eqb, ltb}
use lib.ListN.{length, length-append}
use borrow.Author.Tests.{eq-eqb, ne_eqb, le-leb, lt-leb}
use lib.Pow.{pow_pos}
use Rattle.sets.specs.Sets.{subset, collect}
use Rattle.sets.proofs.Truth.{same_test, ltb_iff, when-true, when-false, when-passes, when_stops}
use Rattle.sets.proofs.Members.{item_below}
use Rattle.sets.proofs.Order.{subset_iff, subset-≤, collect_iff}
use Rattle.sets.proofs.Below.{collect-below}
use Rattle.text_sets.specs.Hexadecimal.{hexadecimal_value}
use Rattle.stores.specs.Stores.{put_at}
use Rattle.tables.specs.Stores.{words_of}
use Rattle.text_lines.specs.Format.{digits_for}
use Rattle.std.specs.Prelude.{Option, Some, None, Result, Ok, Err}
use Rattle.refusals.specs.declared.Refusal.{Refusal}
use Rattle.refusals.specs.declared.Refusal.TheVariants.{Crew, Text}
use Rattle.refusals.specs.Numbers.{number_of}
use Rattle.text_lines.specs.declared.header.Header.{Header}
use Rattle.text_crew.specs.Reader.{longest_text, buffer_length, Read, rows_read, bad_form, bad_bit, with_row, next_row, rows_to, laid, rows_end, RowsLaid, ReadReply, read_refused, after_rows, after_header, read_crew}
use Rattle.text_lines.specs.Lines.{row_digits_at, header_at}
use Rattle.sets.proofs.Telling.{said_no, said_yes}
use Rattle.model.proofs.Record.{within_limits_iff}
use Rattle.text_lines.proofs.Forms.{header_form}
use Rattle.text_crew.proofs.Laid.{laid_more}

-- ---- no bit at m or above

pub within_power : (m s : ℕ) → m ≤ 256 → subset s (collect 256 (λ i. ltb i m)) ≡ ltb s (2 ^ m)
within_power m s h =
    same_test (subset s (collect 256 (λ i. ltb i m))) (ltb s (2 ^ m))
    (λ k.
    let e : collect 256 (λ i. ltb i m) ≡ 2 ^ min 256 m - 1 = collect-below 256 m in
    let f : min 256 m ≡ m = omega arith in
    let g : 2 ^ min 256 m ≡ 2 ^ m = ap (λ (x : ℕ). 2 ^ x) f in
    let l : s ≤ collect 256 (λ i. ltb i m) = subset-≤ s (collect 256 (λ i. ltb i m)) k in
    (ltb_iff s (2 ^ m)).1 (omega (arith, pow_pos m)))
    (λ k.
    let l : s < 2 ^ m = (ltb_iff s (2 ^ m)).0 k in
    (subset_iff s (collect 256 (λ i. ltb i m))).1
    (λ i b. let j : i < m = item_below m s i l b in (collect_iff 256 (λ i. ltb i m) i).1 (omega arith, (ltb_iff i m).1 j)))

pub bit_yes : {r : Bool} (m a b : ℕ) → m ≤ 256 → r ≡ subset a b → b ≡ collect 256 (λ i. ltb i m) → not r ≡ false → So (ltb a (2 ^ m))
bit_yes m a b h e f k = sym (within_power m a h) ∙ ap (subset a) (sym f) ∙ said_yes e k

pub bit_no : {r : Bool} (m a b : ℕ) → m ≤ 256 → r ≡ subset a b → b ≡ collect 256 (λ i. ltb i m) → not r ≡ true → ltb a (2 ^ m) ≡ false
bit_no m a b h e f k = sym (within_power m a h) ∙ ap (subset a) (sym f) ∙ said_no e k

-- ---- a fault stays

module _ (text : List ℕ) (m start u : ℕ) where
  form_stays : rows_to text m start (suc u) ≡ bad_form → (k : ℕ) → rows_to text m start (suc u + k) ≡ bad_form
  unfolding rows_to next_row
  form_stays e zero = rw (add-zero (suc u)) e
  form_stays e (suc k) = rw (add-suc (suc u) k) (ap (next_row text m (suc u + k)) (form_stays e k))

  bit_stays : rows_to text m start (suc u) ≡ bad_bit → (k : ℕ) → rows_to text m start (suc u + k) ≡ bad_bit
  unfolding rows_to next_row
  bit_stays e zero = rw (add-zero (suc u)) e
  bit_stays e (suc k) = rw (add-suc (suc u) k) (ap (next_row text m (suc u + k)) (bit_stays e k))

-- ---- u rows read, and held in the words

pub record Filling (text : List ℕ) (m start u at : ℕ) (words : List ℕ) : Type 0 where
  pub rows : List ℕ
  pub read : rows_to text m start u ≡ rows_read rows at
  pub count : length rows ≡ u
  pub held : words ≡ laid rows

pub fill_none : (text : List ℕ) (m start : ℕ) (words : List ℕ) → words ≡ laid [] → Filling text m start 0 start words
unfolding rows_to
fill_none text m start words e = record { rows = []; read = refl; count = refl; held = e }

module _ (text : List ℕ) (m start u at : ℕ) (words : List ℕ) (f : Filling text m start u at words) where
  step : (o : Option ℕ) → row_digits_at text (digits_for m) u at ≡ o → rows_to text m start (suc u) ≡ with_row text m f.rows o
  unfolding rows_to next_row
  step o e = rw (f.read, e) refl

  pub fill_more : (digits s : ℕ) (after : List ℕ) → u < 128 → row_digits_at text (digits_for m) u at ≡ Some digits
      → s ≡ hexadecimal_value (digits_for m) text digits → So (ltb s (2 ^ m))
      → after ≡ put_at words (4 * u) (words_of 4 s)
      → Filling text m start (u + 1) (digits + digits_for m + 1) after
  unfolding with_row
  fill_more digits s after h e es k w =
      record {
        rows = f.rows ++ (s ∷ []);
        read = rw (add-one u, step (Some digits) e, ← es) (when-true _ _ _ k);
        count = let n : length (f.rows ++ (s ∷ [])) ≡ length f.rows + 1 = length-append f.rows (s ∷ []) in omega (arith, f.count);
        held = w ∙ rw f.held (laid_more f.rows u s f.count h);
      }

  pub fill_broken : (n : ℕ) (after : List ℕ) → u < n → row_digits_at text (digits_for m) u at ≡ None
      → (Err Text ≡ rows_end (rows_to text m start n)) × RowsLaid (rows_to text m start n) after
  unfolding with_row rows_end RowsLaid
  fill_broken n after h e =
      let k : suc u + (n - suc u) ≡ n = omega arith in
      let r : rows_to text m start n ≡ bad_form = rw k at (form_stays text m start u (step None e) (n - suc u)) in
      rw r (refl, tt)

  pub fill_bit : (n digits s : ℕ) (after : List ℕ) → u < n → row_digits_at text (digits_for m) u at ≡ Some digits
      → s ≡ hexadecimal_value (digits_for m) text digits → ltb s (2 ^ m) ≡ false
      → (Err Crew ≡ rows_end (rows_to text m start n)) × RowsLaid (rows_to text m start n) after
  unfolding with_row rows_end RowsLaid
  fill_bit n digits s after h e es b =
      let k : suc u + (n - suc u) ≡ n = omega arith in
      let q : rows_to text m start (suc u) ≡ bad_bit = rw (step (Some digits) e, ← es) (when-false _ _ _ b) in
      let r : rows_to text m start n ≡ bad_bit = rw k at (bit_stays text m start u q (n - suc u)) in
      rw r (refl, tt)

  pub fill_all : (Ok at ≡ rows_end (rows_to text m start u)) × RowsLaid (rows_to text m start u) words
  unfolding rows_end RowsLaid
  fill_all = rw f.read (refl, f.held)

-- ---- the answer

module _ (text buffer : List ℕ) (n m : ℕ) where
  pub after_more : (o : Read) (at : ℕ) → Ok at ≡ rows_end o → at ≢ length text → read_refused 10 buffer ≡ after_rows text buffer n m o
  unfolding rows_end after_rows
  after_more (rows_read rows end) at e h =
      let p : at ≡ end = cc in
      sym
      (when-false (eqb end (length text)) (record { code = 0; n = n; m = m; words = laid rows }) (read_refused 10 buffer)
      (ne_eqb end (length text) (λ (q : end ≡ length text). h (p ∙ q))))
  after_more bad_form at e h = let no : ⊥ = grind arith in absurd no
  after_more bad_bit at e h = let no : ⊥ = grind arith in absurd no

  pub after_all : (o : Read) (at : ℕ) (words : List ℕ) → Ok at ≡ rows_end o → RowsLaid o words → at ≡ length text
      → ◌≡◌ {A = ReadReply} (record { code = 0; n = n; m = m; words = words }) (after_rows text buffer n m o)
  unfolding rows_end after_rows RowsLaid
  after_all (rows_read rows end) at words e f h =
      let p : at ≡ end = cc in
      rw f
      (sym
      (when-true (eqb end (length text)) (record { code = 0; n = n; m = m; words = laid rows }) (read_refused 10 buffer)
      (eq-eqb end (length text) (sym p ∙ h))))
  after_all bad_form at words e f h = let no : ⊥ = grind arith in absurd no
  after_all bad_bit at words e f h = let no : ⊥ = grind arith in absurd no

  pub after_fault : (o : Read) (r : Refusal) → Err r ≡ rows_end o → read_refused (number_of r) buffer ≡ after_rows text buffer n m o
  unfolding rows_end after_rows
  after_fault (rows_read rows end) r e = let no : ⊥ = grind arith in absurd no
  after_fault bad_form r e = let p : r ≡ Text = cc in rw p refl
  after_fault bad_bit r e = let p : r ≡ Crew = cc in rw p refl

module _ (text buffer : List ℕ) where
  pub wrong_buffer : length buffer ≢ buffer_length → read_refused 3 buffer ≡ read_crew text buffer
  unfolding read_crew
  wrong_buffer h = sym (when_stops _ _ _ (ne_eqb (length buffer) buffer_length h))

  module _ (b : length buffer ≡ buffer_length) where
    pub too_long : longest_text < length text → read_refused 10 buffer ≡ read_crew text buffer
    unfolding read_crew
    too_long h = sym (when-passes _ _ _ (eq-eqb (length buffer) buffer_length b) ∙ when_stops _ _ _ (lt-leb (length text) longest_text h))

    module _ (l : length text ≤ longest_text) where
      by_header : {h : Result Header Refusal} → header_at text ≡ h → after_header text buffer h ≡ read_crew text buffer
      unfolding read_crew
      by_header e =
          sym
          (when-passes _ _ _ (eq-eqb (length buffer) buffer_length b) ∙ when-passes _ _ _ (le-leb (length text) longest_text l) ∙ ap (after_header text buffer) e)

      pub by_crew : (h : Header) → header_at text ≡ Ok h → after_rows text buffer h.n h.m (rows_to text h.m h.next h.n) ≡ read_crew text buffer
      unfolding after_header
      by_crew h e = by_header e

      pub by_refusal : (r : Refusal) → header_at text ≡ Err r → read_refused (number_of r) buffer ≡ read_crew text buffer
      unfolding after_header
      by_refusal r e = by_header e

-- the reader's answers, and what the limits of a header leave to its rows
pub header_small : (text : List ℕ) (h : Header) → header_at text ≡ Ok h → (h.n ≤ 128) × (h.m ≤ 256)
header_small text h e = let k = (within_limits_iff h.n h.m).0 (header_form text h e).1 in (k.1, k.3)

pub ruleset reader_laws = (wrong_buffer, too_long, by_crew, by_refusal, header_small)

pub ruleset rows_laws = (after_more, after_all, after_fault)
