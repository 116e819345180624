-- The reader keeps condition 1: each number exactly when, in the paper's words.
-- Assumes nothing.
use mathlib.Core.Path.{◌≡◌, refl, sym, ◌∙◌, ap}
use mathlib.Core.Bool.{false, So}
use mathlib.Core.Logic.{◌↔◌, ◌≢◌, ◌⊎◌, ⊎_elim}
use mathlib.Core.List.{List, [], ◌∷◌, ◌++◌, append_assoc, append-nil}
use Prim.Native.Nat.{ℕ, zero, suc, ◌+◌, ◌-◌, ◌*◌, ◌/◌, ◌%◌, ◌^◌, ◌≤◌, ◌<◌}
use native.Mathlib.Nat.{zero-add, le_step, lt-suc_self}
use native.Mathlib.Omega.{arith}
use lib.Dec.{eqb, ltb}
use lib.ListN.{length, get_or, drop, length-append, length-drop, get_or-eq_default}
use lib.Seq.{take_all, get_or-append-add, get_or-drop}
use borrow.Author.Tests.{ltb-false, le-ltb, eqb-false}
use Rattle.sets.specs.Sets.{has}
use Rattle.sets.specs.Words.{word}
use Rattle.sets.proofs.Truth.{not-So, So-not, when_cases, either, equal_or}
use Rattle.sets.proofs.Members.{has-zero, item_below, below_of_items, item_of}
use Rattle.sets.proofs.Words.{word-zero, word_lt, has_shift}
use Rattle.model.specs.Lists.{OneOf}
use Rattle.model.specs.State.{within_limits}
use Rattle.model.proofs.Record.{within_limits_iff, rows_within_iff}
use Rattle.text.specs.Fixed.{holds}
use Rattle.text.specs.Decimal.{decimal}
use Rattle.text_sets.specs.Hexadecimal.{hexadecimal_value}
use Rattle.text.proofs.Bytes.{holds_iff, holds_end, holds-append, holds_whole, holds_self}
use Rattle.text_sets.proofs.Hexadecimals.{sixteen, hex_digit, hex_lt}
use Rattle.text.proofs.Written.{decimal_writes}
use Rattle.text_lines.specs.Format.{digits_for, header_line, row_line, row_lines}
use Rattle.text_lines.specs.declared.header.Header.{Header}
use Rattle.std.specs.Prelude.{Option, Some, None, Ok, Err}
use Rattle.std.proofs.lemmas.Option.{none-some}
use Rattle.refusals.specs.declared.Refusal.TheVariants.{Crew, Limits, Text}
use Rattle.text_crew.specs.Reader.{longest_text, buffer_length, Read, rows_read, bad_form, bad_bit, with_row, next_row, rows_to, laid, ReadReply, read_refused, after_rows, read_crew}
use Rattle.text_lines.specs.Lines.{crew_header, limited, header_fields, header_at, row_digits_at}
use Rattle.text_crew.specs.Conditions.{Begins, HeaderStands, RowStands, CrewRows, InOrder, HeaderBeyond, RowBeyond, HeaderBroken, RowBroken, MoreBytes, TextOf, LinesJudged, When0, When2, When3, When10, ReadFrom, ReadConditions}
use Rattle.text_lines.proofs.Lines.{limits_broken}
use Rattle.text_lines.proofs.Forms.{HeaderForm, malformed_fields, header_form, header_seen, header_beyond, header_cases, row_has}
use Rattle.text_crew.proofs.Laid.{length-laid, get_d_laid}
use Rattle.text_crew.proofs.Answers.{Filling, fill_broken, fill_bit, fill_all, after_more, after_fault, wrong_buffer, too_long, by_crew, by_refusal}
use Rattle.text_crew.proofs.Canonical.{header_reads, header_read, header_written, row_read, row_written, rows_read_lem, rows_written, read_back, words_hold, AcceptedText, accepted}

-- ---- what a text begins with, and goes on with

begins_iff : (text bytes : List ℕ) → So (holds text 0 bytes) ↔ Begins text bytes
begins_iff text bytes = (
  λ s. (drop (length bytes) text, whole s),
  λ b. rw b.1 ((holds-append (bytes ++ b.0) 0 bytes b.0).0 (holds_self (bytes ++ b.0))).0,
)
  where
    whole : So (holds text 0 bytes) → text ≡ bytes ++ drop (length bytes) text
    whole s =
        let rest = drop (length bytes) text in
        let l : 0 + length bytes ≤ length text = holds_end text 0 bytes s in
        let n : length (drop (length bytes) text) ≡ length text - length bytes = length-drop (length bytes) text in
        let a : length (bytes ++ drop (length bytes) text) ≡ length bytes + length (drop (length bytes) text) = length-append bytes rest in
        let t : So (holds text (0 + length bytes) rest) =
        (holds_iff text (0 + length bytes) rest).1
        (omega arith, λ i _. ap (λ (x : ℕ). get_or text (x + i) 0) (zero-add (length bytes)) ∙ sym (get_or-drop (length bytes) text i 0)) in
        holds_whole text (bytes ++ rest) ((holds-append text 0 bytes rest).1 (s, t)) (omega arith)

after_iff : (xs ys bytes : List ℕ) → So (holds (xs ++ ys) (length xs) bytes) ↔ So (holds ys 0 bytes)
after_iff xs ys bytes =
    let n : length (xs ++ ys) ≡ length xs + length ys = length-append xs ys in
    let same : (i : ℕ) → get_or ys (0 + i) 0 ≡ get_or (xs ++ ys) (length xs + i) 0 =
    λ i. ap (λ (x : ℕ). get_or ys x 0) (zero-add i) ∙ sym (get_or-append-add xs ys i 0) in (
      λ s.
          let k = (holds_iff (xs ++ ys) (length xs) bytes).0 s in
          let l : length xs + length bytes ≤ length (xs ++ ys) = k.0 in
          (holds_iff ys 0 bytes).1 (omega arith, λ i b. same i ∙ k.1 i b),
      λ s.
          let k = (holds_iff ys 0 bytes).0 s in
          let l : 0 + length bytes ≤ length ys = k.0 in
          (holds_iff (xs ++ ys) (length xs) bytes).1 (omega arith, λ i b. sym (same i) ∙ k.1 i b),
    )

part_iff : (text xs ys bytes : List ℕ) (p : ℕ) → text ≡ xs ++ ys → p ≡ length xs → So (holds text p bytes) ↔ Begins ys bytes
part_iff text xs ys bytes p e l =
    let a = after_iff xs ys bytes in
    let b = begins_iff ys bytes in
    rw (e, l) (λ s. b.0 (a.0 s), λ s. a.1 (b.1 s))

-- ---- bits below m

items_below : (m x : ℕ) → ((p : ℕ) → So (has x p) → p < m) → x < 2 ^ m
items_below m x h = below_of_items m x (λ i b. not-So (has x i) (λ t. let z : i < m = h i t in let no : ⊥ = omega arith in no))

item_above : (m x : ℕ) → 2 ^ m ≤ x → (p : ℕ) × (m ≤ p) × So (has x p)
item_above m x h =
    let i = item_of (x / 2 ^ m) (λ z. let l : x < 2 ^ m = below_of_items m x (λ p b. none z p b) in let no : ⊥ = omega arith in no) in
    let l : m ≤ m + i.0 = omega arith in
    (m + i.0, l, rw (has_shift x m i.0) at i.1)
  where
    none : x / 2 ^ m ≡ 0 → (p : ℕ) → m ≤ p → has x p ≡ false
    none z p b =
        let e : m + (p - m) ≡ p = omega arith in
        ap (has x) (sym e) ∙ sym (has_shift x m (p - m)) ∙ ap (λ (y : ℕ). has y (p - m)) z ∙ has-zero (p - m)

above_big : (m x p : ℕ) → m ≤ p → So (has x p) → 2 ^ m ≤ x
above_big m x p l t = either x (2 ^ m) (λ b. let z : p < m = item_below m x p b t in absurd (omega arith)) (λ b. b)

-- ---- the header

module _ (text : List ℕ) where
  stands_read : (n m : ℕ) → HeaderStands text n m → header_fields text ≡ Some (crew_header n m (length (header_line n m)))
  stands_read n m s = header_reads text n m s.0 s.1 ((begins_iff text (header_line n m)).1 s.2)

  form_stands : (n m at : ℕ) → HeaderForm text n m at → HeaderStands text n m
  form_stands n m at f = (
    (decimal_writes text 5 n f.next f.users).small,
    (decimal_writes text (f.next + 1) m f.end f.permissions).small,
    (begins_iff text (header_line n m)).0 (header_written text n m at f).0,
  )

  malformed_broken : header_fields text ≡ None → HeaderBroken text
  malformed_broken e n m s = none-some _ (sym e ∙ stands_read n m s)

  beyond_beyond : header_at text ≡ Err Limits → HeaderBeyond text
  beyond_beyond e =
      let b = header_beyond text e in
      let h = b.0 in
      record {
        n = h.n;
        m = h.m;
        header = form_stands h.n h.m h.next b.1;
        beyond = λ l. So-not b.2 ((within_limits_iff h.n h.m).1 l);
      }

  read_beyond : HeaderBeyond text → header_at text ≡ Err Limits
  unfolding header_at
  read_beyond f =
      let no = not-So (within_limits f.n f.m) (λ s. f.beyond ((within_limits_iff f.n f.m).0 s)) in
      ap limited (stands_read f.n f.m f.header) ∙ limits_broken (crew_header f.n f.m (length (header_line f.n f.m))) no

  read_broken : HeaderBroken text → header_at text ≡ Err Text
  unfolding header_at limited
  read_broken f = ap limited (go (header_fields text) refl)
    where
      go : (o : Option Header) → header_fields text ≡ o → header_fields text ≡ None
      go (Some h) e = absurd (f h.n h.m (form_stands h.n h.m h.next (header_seen text h e)))
      go None e = e

  form_broken : header_at text ≡ Err Text → HeaderBroken text
  unfolding header_at
  form_broken e = malformed_broken (malformed_fields text e)

-- ---- from a text that is in order so far to what the reader makes of it

module _ (text : List ℕ) (n m k : ℕ) (rest : List ℕ) (f : InOrder text n m k rest) where
  -- where row k is to stand
  abbrev place : ℕ
  place = length (header_line n m) + length (row_lines m f.rows k)

  abbrev front : List ℕ
  front = header_line n m ++ row_lines m f.rows k

  front_rest : text ≡ front ++ rest
  front_rest = f.lines ∙ sym (append_assoc (header_line n m) (row_lines m f.rows k) rest)

  length_front : length front ≡ place
  length_front = length-append (header_line n m) (row_lines m f.rows k)

  rest_iff : (bytes : List ℕ) → So (holds text place bytes) ↔ Begins rest bytes
  rest_iff bytes = part_iff text front rest bytes place front_rest (sym length_front)

  ends_here : rest ≡ [] → place ≡ length text
  ends_here e = sym length_front ∙ ap length (sym (append-nil front) ∙ sym (front_rest ∙ ap (λ (x : List ℕ). front ++ x) e))

  goes_on : place ≡ length text → rest ≡ []
  goes_on e =
      let a : length (front ++ rest) ≡ length front + length rest = length-append front rest in
      let b : length text ≡ length (front ++ rest) = ap length front_rest in
      let c : length front ≡ place = length_front in
      nothing rest (omega arith)
    where
      nothing : (xs : List ℕ) → length xs ≡ 0 → xs ≡ []
      nothing [] l = refl
      nothing (x ∷ xs) l = absurd (omega arith)

  header_here : header_at text ≡ Ok (crew_header n m (length (header_line n m)))
  header_here =
      header_read text n m ((within_limits_iff n m).1 f.list.limits)
      ((holds-append text 0 (header_line n m) (row_lines m f.rows k)).0 ((begins_iff text front).1 (rest, front_rest))).0

  module _ (few : k ≤ n) where
    rows_here : rows_to text m (length (header_line n m)) k ≡ rows_read f.rows place
    rows_here =
        let c : length f.rows ≡ k = f.list.count in
        let l : n ≤ 128 = f.list.limits.1 in
        let there = ((holds-append text 0 (header_line n m) (row_lines m f.rows k)).0 ((begins_iff text front).1 (rest, front_rest))).1 in
        rows_read_lem text m (length (header_line n m)) f.rows k (omega arith) (omega arith)
        (λ u b. items_below m (get_or f.rows u 0) (λ p. f.list.bits u p b))
        (rw (zero-add (length (header_line n m))) at there)
        ∙ ap (λ (x : List ℕ). rows_read x place) (take_all k f.rows (omega arith))

    filling : Filling text m (length (header_line n m)) k place (laid f.rows)
    filling = record { rows = f.rows; read = rows_here; count = f.list.count; held = refl }

    row_here : (x : ℕ) → RowStands rest m k x
        → (row_digits_at text (digits_for m) k place ≡ Some (place + length (decimal k) + 1))
        × (hexadecimal_value (digits_for m) text (place + length (decimal k) + 1) ≡ x)
    row_here x s =
        let l : n ≤ 128 = f.list.limits.1 in
        row_read text m k place x (omega arith) s.0 ((rest_iff (row_line m k x)).1 s.1)

  row_stands : (digits : ℕ) → row_digits_at text (digits_for m) k place ≡ Some digits → RowStands rest m k (hexadecimal_value (digits_for m) text digits)
  row_stands digits e =
      let x = hexadecimal_value (digits_for m) text digits in (
        rw (sixteen (digits_for m)) (hex_lt (digits_for m) text digits (hex_digit (digits_for m) text digits (row_has text (digits_for m) k place digits e))),
        (rest_iff (row_line m k x)).0 (row_written text m k place digits x e refl).0,
      )

-- ---- and from where the reader came to a text that is in order so far

record Reached (text : List ℕ) (n m k p : ℕ) : Type 0 where
  rest : List ℕ
  order : InOrder text n m k rest
  at_place : p ≡ place text n m k rest order

reached : (text : List ℕ) (n m at k : ℕ) (rows : List ℕ) (p : ℕ) → header_at text ≡ Ok (crew_header n m at) → rows_to text m at k ≡ rows_read rows p
    → Reached text n m k p
reached text n m at k rows p e r =
    let f = header_form text (crew_header n m at) e in
    let h = header_written text n m at f.0 in
    let q : at ≡ length (header_line n m) = h.1 in
    let hl : 0 + length (header_line n m) ≤ length text = holds_end text 0 (header_line n m) h.0 in
    let w = rows_written text m at k rows p (omega arith) r in
    let there : So (holds text (0 + length (header_line n m)) (row_lines m rows k)) = rw (zero-add (length (header_line n m))) (rw q at w.there) in
    let b = (begins_iff text (header_line n m ++ row_lines m rows k)).0 ((holds-append text 0 (header_line n m) (row_lines m rows k)).1 (h.0, there)) in
    let list : CrewRows n m k rows =
    record { limits = (within_limits_iff n m).0 f.1; count = w.count; bits = λ u i l t. item_below m (get_or rows u 0) i (w.small u l) t } in
    record {
      rest = b.0;
      order = record { rows = rows; list = list; lines = b.1 ∙ append_assoc (header_line n m) (row_lines m rows k) b.0 };
      at_place = w.place ∙ ap (λ (x : ℕ). x + length (row_lines m rows k)) q;
    }

row_reached : (text : List ℕ) (n m k p : ℕ) (q : Reached text n m k p) (o : Option ℕ) → row_digits_at text (digits_for m) k p ≡ o
    → row_digits_at text (digits_for m) k (place text n m k q.rest q.order) ≡ o
row_reached text n m k p q o e = ap (row_digits_at text (digits_for m) k) (sym q.at_place) ∙ e

-- ---- the first row with a fault

record FirstFault (text : List ℕ) (m at n : ℕ) (o : Read) : Type 0 where
  k : ℕ
  rows : List ℕ
  p : ℕ
  below : k < n
  before : rows_to text m at k ≡ rows_read rows p
  fault : with_row text m rows (row_digits_at text (digits_for m) k p) ≡ o

module _ (text : List ℕ) (m at : ℕ) (o : Read) (d : (rows : List ℕ) (p : ℕ) → rows_read rows p ≢ o) where
  later : (u : ℕ) → FirstFault text m at u o → FirstFault text m at (suc u) o
  later u f = record { k = f.k; rows = f.rows; p = f.p; below = le_step f.below; before = f.before; fault = f.fault }

  at_row : (u : ℕ) (before : Read) → rows_to text m at u ≡ before → (rows_to text m at u ≡ o → FirstFault text m at u o) → next_row text m u before ≡ o
      → FirstFault text m at (suc u) o
  unfolding next_row
  at_row u (rows_read rows p) e more f = record { k = u; rows = rows; p = p; below = lt-suc_self u; before = e; fault = f }
  at_row u bad_form e more f = later u (more (e ∙ f))
  at_row u bad_bit e more f = later u (more (e ∙ f))

  first_fault : (n : ℕ) → rows_to text m at n ≡ o → FirstFault text m at n o
  unfolding rows_to
  first_fault zero e = absurd (d [] at e)
  first_fault (suc u) e = at_row u (rows_to text m at u) refl (λ f. first_fault u f) e

fault_form : (text : List ℕ) (m : ℕ) (rows : List ℕ) (o : Option ℕ) → with_row text m rows o ≡ bad_form → o ≡ None
unfolding with_row
fault_form text m rows (Some digits) e =
    let s = hexadecimal_value (digits_for m) text digits in
    when_cases (ltb s (2 ^ m)) (rows_read (rows ++ (s ∷ [])) (digits + digits_for m + 1)) bad_bit bad_form e
    (λ t. λ (f : rows_read (rows ++ (s ∷ [])) (digits + digits_for m + 1) ≡ bad_form). let z : ◌≡◌ {A = ℕ} 0 1 = cc in absurd (omega arith))
    (λ t. λ (f : bad_bit ≡ bad_form). let z : ◌≡◌ {A = ℕ} 0 1 = cc in absurd (omega arith))
fault_form text m rows None e = refl

fault_bit : (text : List ℕ) (m : ℕ) (rows : List ℕ) (o : Option ℕ) → with_row text m rows o ≡ bad_bit
    → (digits : ℕ) × (o ≡ Some digits) × (ltb (hexadecimal_value (digits_for m) text digits) (2 ^ m) ≡ false)
unfolding with_row
fault_bit text m rows (Some digits) e =
    let s = hexadecimal_value (digits_for m) text digits in
    when_cases (ltb s (2 ^ m)) (rows_read (rows ++ (s ∷ [])) (digits + digits_for m + 1)) bad_bit bad_bit e
    (λ t. λ (f : rows_read (rows ++ (s ∷ [])) (digits + digits_for m + 1) ≡ bad_bit). let z : ◌≡◌ {A = ℕ} 0 1 = cc in absurd (omega arith))
    (λ t f. (digits, refl, t))
fault_bit text m rows None e = let z : ◌≡◌ {A = ℕ} 0 1 = cc in absurd (omega arith)

module _ (text : List ℕ) (n m at : ℕ) (e : header_at text ≡ Ok (crew_header n m at)) where
  row_broken : rows_to text m at n ≡ bad_form → RowBroken text
  row_broken r =
      let f = first_fault text m at bad_form (λ rows p. λ (g : rows_read rows p ≡ bad_form). let z : ◌≡◌ {A = ℕ} 0 1 = cc in omega arith) n r in
      let q = reached text n m at f.k f.rows f.p e f.before in
      let l : f.k < n = f.below in
      let b : row_digits_at text (digits_for m) f.k (place text n m f.k q.rest q.order) ≡ None =
      row_reached text n m f.k f.p q None (fault_form text m f.rows (row_digits_at text (digits_for m) f.k f.p) f.fault) in
      record {
        n = n;
        m = m;
        k = f.k;
        rest = q.rest;
        order = q.order;
        one_more = l;
        broken = λ x s.
            let h = (row_here text n m f.k q.rest q.order (omega arith) x s).0 in
            let z : ◌≡◌ {A = ℕ} 0 1 = cc in
            let no : ⊥ = omega arith in no;
      }

  row_beyond : rows_to text m at n ≡ bad_bit → RowBeyond text
  row_beyond r =
      let f = first_fault text m at bad_bit (λ rows p. λ (g : rows_read rows p ≡ bad_bit). let z : ◌≡◌ {A = ℕ} 0 1 = cc in omega arith) n r in
      let q = reached text n m at f.k f.rows f.p e f.before in
      let b = fault_bit text m f.rows (row_digits_at text (digits_for m) f.k f.p) f.fault in
      let x = hexadecimal_value (digits_for m) text b.0 in
      record {
        n = n;
        m = m;
        k = f.k;
        rest = q.rest;
        order = q.order;
        one_more = f.below;
        x = x;
        row = row_stands text n m f.k q.rest q.order b.0 (row_reached text n m f.k f.p q (Some b.0) b.1);
        bit = item_above m x (ltb-false x (2 ^ m) b.2);
      }

  more_bytes : (rows : List ℕ) (end : ℕ) → rows_to text m at n ≡ rows_read rows end → end ≢ length text → MoreBytes text
  more_bytes rows end r d =
      let q = reached text n m at n rows end e r in
      record { n = n; m = m; rest = q.rest; order = q.order; more = λ z. d (q.at_place ∙ ends_here text n m n q.rest q.order z) }

-- ---- every way that the reader can go

data Outcome (text buffer : List ℕ) : Type 0 where
  good : (read_crew text buffer).code ≡ 0 → Outcome text buffer
  limits : read_refused 2 buffer ≡ read_crew text buffer → When2 text buffer → Outcome text buffer
  crew : read_refused 3 buffer ≡ read_crew text buffer → When3 text buffer → Outcome text buffer
  form : read_refused 10 buffer ≡ read_crew text buffer → When10 text buffer → Outcome text buffer

code_of : {r : ReadReply} (k : ℕ) (buffer : List ℕ) → read_refused k buffer ≡ r → r.code ≡ k
unfolding read_refused
code_of k buffer e = ap (λ (x : ReadReply). x.code) (sym e)

module _ (text buffer : List ℕ) where
  -- the lengths, as the definition of the reader tests them
  fits : LinesJudged text buffer → (length buffer ≡ buffer_length) × (length text ≤ longest_text)
  fits j =
      let b : length buffer ≡ 512 = j.0 in
      let l : length text ≤ 16384 = j.1 in
      (omega arith, omega arith)

  rows_outcome : (j : LinesJudged text buffer) (n m at : ℕ) → header_at text ≡ Ok (crew_header n m at) → (o : Read) → rows_to text m at n ≡ o
      → after_rows text buffer n m o ≡ read_crew text buffer → Outcome text buffer
  unfolding after_rows
  rows_outcome j n m at e (rows_read rows end) r a =
      when_cases (eqb end (length text)) (record { code = 0; n = n; m = m; words = laid rows }) (read_refused 10 buffer) (read_crew text buffer) a
      (λ t f. good (ap (λ (x : ReadReply). x.code) (sym f)))
      (λ t f. form f (◌⊎◌.inr (j, ◌⊎◌.inr (◌⊎◌.inr (more_bytes text n m at e rows end r (eqb-false end (length text) t))))))
  rows_outcome j n m at e bad_form r a = form a (◌⊎◌.inr (j, ◌⊎◌.inr (◌⊎◌.inl (row_broken text n m at e r))))
  rows_outcome j n m at e bad_bit r a = crew a (◌⊎◌.inr (j, row_beyond text n m at e r))

  line_outcome : (j : LinesJudged text buffer) → Outcome text buffer
  line_outcome j =
      header_cases text
      (λ h e. rows_outcome j h.n h.m h.next e (rows_to text h.m h.next h.n) refl (by_crew text buffer (fits j).0 (fits j).1 h e))
      (λ e. form (by_refusal text buffer (fits j).0 (fits j).1 Text e) (◌⊎◌.inr (j, ◌⊎◌.inl (form_broken text e))))
      (λ e. limits (by_refusal text buffer (fits j).0 (fits j).1 Limits e) (j, beyond_beyond text e))

  outcome : Outcome text buffer
  outcome =
      equal_or (length buffer) buffer_length
      (λ b.
      either longest_text (length text) (λ l. form (too_long text buffer b l) (◌⊎◌.inl (omega arith, omega arith)))
      (λ l. line_outcome (omega arith, omega arith)))
      (λ d. crew (wrong_buffer text buffer d) (◌⊎◌.inl d))

  -- where the header and k rows are in order, the rows decide
  by_rows : LinesJudged text buffer → (n m k : ℕ) (rest : List ℕ) → InOrder text n m k rest
      → after_rows text buffer n m (rows_to text m (length (header_line n m)) n) ≡ read_crew text buffer
  by_rows j n m k rest f = by_crew text buffer (fits j).0 (fits j).1 (crew_header n m (length (header_line n m))) (header_here text n m k rest f)

  -- ---- each number exactly when

  when0 : When0 text buffer → (read_crew text buffer).code ≡ 0
  when0 w =
      let n = w.1.0 in
      let m = w.1.1 in
      let rows = w.1.2 in
      let t = w.1.3 in
      let c : length rows ≡ n = t.list.count in
      rw t.lines
      (ap (λ (x : ReadReply). x.code)
      (read_back n m rows buffer ((within_limits_iff n m).1 t.list.limits) c
      ((rows_within_iff m rows).1 (λ u b. items_below m (get_or rows u 0) (λ p. t.list.bits u p (omega arith)))) w.0.0))

  when2 : When2 text buffer → (read_crew text buffer).code ≡ 2
  when2 w = code_of 2 buffer (by_refusal text buffer (fits w.0).0 (fits w.0).1 Limits (read_beyond text w.1))

  when3 : When3 text buffer → (read_crew text buffer).code ≡ 3
  when3 w = ⊎_elim (λ d. code_of 3 buffer (wrong_buffer text buffer d)) (λ x. bit x.0 x.1) w
    where
      bit : LinesJudged text buffer → RowBeyond text → (read_crew text buffer).code ≡ 3
      bit j f =
          let l : f.k < f.n = f.one_more in
          let few : f.k ≤ f.n = omega arith in
          let h = row_here text f.n f.m f.k f.rest f.order few f.x f.row in
          let big : ltb f.x (2 ^ f.m) ≡ false = le-ltb f.x (2 ^ f.m) (above_big f.m f.x f.bit.0 f.bit.1 f.bit.2) in
          let rows = filling text f.n f.m f.k f.rest f.order few in
          let end = (fill_bit text f.m _ f.k _ _ rows f.n _ f.x [] l h.0 (sym h.1) big).0 in
          code_of 3 buffer (after_fault text buffer f.n f.m _ Crew end ∙ by_rows j f.n f.m f.k f.rest f.order)

  when10 : When10 text buffer → (read_crew text buffer).code ≡ 10
  when10 w =
      ⊎_elim (λ x. code_of 10 buffer (too_long text buffer x.0 x.1))
      (λ x. ⊎_elim (header x.0) (λ y. ⊎_elim (row x.0) (more x.0) y) x.1) w
    where
      header : LinesJudged text buffer → HeaderBroken text → (read_crew text buffer).code ≡ 10
      header j f = code_of 10 buffer (by_refusal text buffer (fits j).0 (fits j).1 Text (read_broken text f))

      row : LinesJudged text buffer → RowBroken text → (read_crew text buffer).code ≡ 10
      row j f =
          let l : f.k < f.n = f.one_more in
          let rows = filling text f.n f.m f.k f.rest f.order (omega arith) in
          let end = (fill_broken text f.m _ f.k _ _ rows f.n [] l (go _ refl)).0 in
          code_of 10 buffer (after_fault text buffer f.n f.m _ Text end ∙ by_rows j f.n f.m f.k f.rest f.order)
        where
          go : (o : Option ℕ) → row_digits_at text (digits_for f.m) f.k (place text f.n f.m f.k f.rest f.order) ≡ o → o ≡ None
          go (Some digits) e =
              let x = hexadecimal_value (digits_for f.m) text digits in
              absurd (f.broken x (row_stands text f.n f.m f.k f.rest f.order digits e))
          go None e = refl

      more : LinesJudged text buffer → MoreBytes text → (read_crew text buffer).code ≡ 10
      more j f =
          let rows = filling text f.n f.m f.n f.rest f.order (omega arith) in
          let end = (fill_all text f.m _ f.n _ _ rows).0 in
          code_of 10 buffer
          (after_more text buffer f.n f.m _ _ end (λ z. f.more (goes_on text f.n f.m f.n f.rest f.order z))
          ∙ by_rows j f.n f.m f.n f.rest f.order)

  only2 : Outcome text buffer → (read_crew text buffer).code ≡ 2 → When2 text buffer
  only2 (good e) z = absurd (omega (arith, sym e ∙ z))
  only2 (limits e w) z = w
  only2 (crew e w) z = absurd (omega (arith, sym (code_of 3 buffer e) ∙ z))
  only2 (form e w) z = absurd (omega (arith, sym (code_of 10 buffer e) ∙ z))

  only3 : Outcome text buffer → (read_crew text buffer).code ≡ 3 → When3 text buffer
  only3 (good e) z = absurd (omega (arith, sym e ∙ z))
  only3 (limits e w) z = absurd (omega (arith, sym (code_of 2 buffer e) ∙ z))
  only3 (crew e w) z = w
  only3 (form e w) z = absurd (omega (arith, sym (code_of 10 buffer e) ∙ z))

  only10 : Outcome text buffer → (read_crew text buffer).code ≡ 10 → When10 text buffer
  only10 (good e) z = absurd (omega (arith, sym e ∙ z))
  only10 (limits e w) z = absurd (omega (arith, sym (code_of 2 buffer e) ∙ z))
  only10 (crew e w) z = absurd (omega (arith, sym (code_of 3 buffer e) ∙ z))
  only10 (form e w) z = w

  number_of : Outcome text buffer → OneOf (read_crew text buffer).code (0 ∷ 2 ∷ 3 ∷ 10 ∷ [])
  number_of (good e) = ◌⊎◌.inl e
  number_of (limits e w) = ◌⊎◌.inr (◌⊎◌.inl (code_of 2 buffer e))
  number_of (crew e w) = ◌⊎◌.inr (◌⊎◌.inr (◌⊎◌.inl (code_of 3 buffer e)))
  number_of (form e w) = ◌⊎◌.inr (◌⊎◌.inr (◌⊎◌.inr (◌⊎◌.inl (code_of 10 buffer e))))

  -- a refusal, whatever its number
  refusal : Outcome text buffer → (read_crew text buffer).code ≢ 0 → (k : ℕ) × (read_refused k buffer ≡ read_crew text buffer)
  refusal (good e) d = absurd (d e)
  refusal (limits e w) d = (2, e)
  refusal (crew e w) d = (3, e)
  refusal (form e w) d = (10, e)

  refusal_is : (read_crew text buffer).code ≢ 0 → ((read_crew text buffer).n ≡ 0) × ((read_crew text buffer).m ≡ 0) × ((read_crew text buffer).words ≡ buffer)
  unfolding read_refused
  refusal_is d = let e = (refusal outcome d).1 in rw (sym e) (refl, refl, refl)

  -- what an accepted text leaves in the words
  zeros_after : (rows : List ℕ) (i : ℕ) → 4 * length rows ≤ i → get_or (laid rows) i 0 ≡ 0
  zeros_after rows i h =
      let l : length (laid rows) ≡ 512 = length-laid rows in
      either i 512
      (λ b. get_d_laid rows i b ∙ ap (λ (x : ℕ). word x (i % 4)) (get_or-eq_default rows 0 (omega arith)) ∙ word-zero (i % 4))
      (λ b. get_or-eq_default (laid rows) 0 (omega arith))

  words_fit : (rows : List ℕ) (i : ℕ) → get_or (laid rows) i 0 < 2 ^ 64
  words_fit rows i =
      let l : length (laid rows) ≡ 512 = length-laid rows in
      either i 512 (λ b. rw (get_d_laid rows i b) (word_lt (get_or rows (i / 4) 0) (i % 4)))
      (λ b. rw (get_or-eq_default (laid rows) 0 {n = i} (omega arith)) (omega arith))

  text_of : (a : AcceptedText text buffer) → TextOf text a.users a.permissions a.rows
  text_of a =
      let c : length a.rows ≡ a.users = a.count in
      let list : CrewRows a.users a.permissions a.users a.rows =
      record {
        limits = (within_limits_iff a.users a.permissions).0 a.limits;
        count = c;
        bits = λ u p l t.
            item_below a.permissions (get_or a.rows u 0) p ((rows_within_iff a.permissions a.rows).0 a.within u (omega arith)) t;
      } in
      record { list = list; lines = a.canonical }

  read_from : AcceptedText text buffer → ReadFrom text (read_crew text buffer)
  read_from a =
      let e : read_crew text buffer ≡ record { code = 0; n = a.users; m = a.permissions; words = laid a.rows } = a.answer in
      rw e
      (record {
        rows = a.rows;
        text_of = text_of a;
        room = length-laid a.rows;
        held = words_hold a.users a.permissions a.rows a.limits a.count a.within;
        zeros = λ i l. zeros_after a.rows i (rw a.count l);
        words = words_fit a.rows;
      })

  judged : (read_crew text buffer).code ≡ 0 → LinesJudged text buffer
  judged z =
      equal_or (length buffer) buffer_length
      (λ b. (
        omega arith,
        either longest_text (length text) (λ l. absurd (omega (arith, sym (code_of 10 buffer (too_long text buffer b l)) ∙ z))) (λ l. omega arith),
      ))
      (λ d. absurd (omega (arith, sym (code_of 3 buffer (wrong_buffer text buffer d)) ∙ z)))

pub read_conditions : (text buffer : List ℕ) → ReadConditions text buffer (read_crew text buffer)
read_conditions text buffer =
    record {
      number = number_of text buffer (outcome text buffer);
      accepted = (
        λ z. let a = accepted text buffer z in (judged text buffer z, (a.users, a.permissions, a.rows, text_of text buffer a)),
        when0 text buffer,
      );
      limits = (only2 text buffer (outcome text buffer), when2 text buffer);
      crew = (only3 text buffer (outcome text buffer), when3 text buffer);
      form = (only10 text buffer (outcome text buffer), when10 text buffer);
      zeros = λ d. let r = refusal_is text buffer d in (r.0, r.1);
      unaltered = λ d. (refusal_is text buffer d).2;
      result = λ z. read_from text buffer (accepted text buffer z);
    }
