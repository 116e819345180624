-- What the reader answers. "a text's length is judged before its lines, which are read from the front, and the first fault counts (in each
-- line its form, 10, before its limits: 2 for the header, 3 for a row; then more bytes, 10"
-- Assumes nothing.
use Rattle.std.specs.Prelude.{◌≡◌, Option, Some, None, Result, Ok, Err, List, [], ◌∷◌, ◌++◌, ℕ, zero, suc, ◌+◌, ◌^◌, eqb, leb, ltb, length, get_or}
use Rattle.sets.specs.Truth.{isnt, when◌then◌else◌}
use Rattle.model.specs.Lists.{tabulate}
use Rattle.model.specs.Record.{region_word}
use Rattle.model.specs.Refusals.{wrong_crew_words, wrong_text}
use Rattle.text_sets.specs.Hexadecimal.{hexadecimal_value}
use Rattle.text_lines.specs.Format.{digits_for}
use Rattle.text_lines.specs.Lines.{header_at, row_digits_at}
use Rattle.text_crew.specs.declared.CrewSize.{CrewSize}
use Rattle.text_lines.specs.declared.header.Header.{Header}
use Rattle.refusals.specs.declared.Refusal.{Refusal}
use Rattle.refusals.specs.declared.Refusal.TheVariants.{Crew, Text}
use Rattle.refusals.specs.Numbers.{number_of}

-- "over 16,384 bytes", "a lent buffer of 512 words"
abbrev pub longest_text : ℕ
longest_text = 16384

abbrev pub buffer_length : ℕ
buffer_length = 512

-- ---- the rows

-- the rows read and the place after them, or the first fault
pub data Read : Type 0 where
  rows_read : List ℕ → ℕ → Read
  bad_form : Read
  bad_bit : Read

-- one row more, by its form and then by its bits: none at m or above
unfoldable pub with_row : List ℕ → ℕ → List ℕ → Option ℕ → Read
with_row text m rows (Some at) =
    let s = hexadecimal_value (digits_for m) text at in
    when ltb s (2 ^ m) then rows_read (rows ++ (s ∷ [])) (at + digits_for m + 1) else bad_bit
with_row text m rows None = bad_form

unfoldable pub next_row : List ℕ → ℕ → ℕ → Read → Read
next_row text m u (rows_read rows at) = with_row text m rows (row_digits_at text (digits_for m) u at)
next_row text m u bad_form = bad_form
next_row text m u bad_bit = bad_bit

-- the first n rows, from place `at` on
unfoldable pub rows_to : List ℕ → ℕ → ℕ → ℕ → Read
rows_to text m at zero = rows_read [] at
rows_to text m at (suc u) = next_row text m u (rows_to text m at u)

-- ---- the answer

pub record ReadReply : Type 0 where
  pub code : ℕ
  pub n : ℕ
  pub m : ℕ
  pub words : List ℕ

-- "Every refusal returns zeros beside its number and leaves all buffers as lent."
unfoldable pub read_refused : ℕ → List ℕ → ReadReply
read_refused k buffer = record { code = k; n = 0; m = 0; words = buffer }

-- "the n rows, then zeros": word j of row u at 4 u + j
unfoldable pub laid : List ℕ → List ℕ
laid rows = tabulate buffer_length (region_word 4 (λ u. get_or rows u 0))

-- after the rows, no more bytes
unfoldable pub after_rows : List ℕ → List ℕ → ℕ → ℕ → Read → ReadReply
after_rows text buffer n m (rows_read rows at) =
    when eqb at (length text) then record { code = 0; n = n; m = m; words = laid rows } else read_refused wrong_text buffer
after_rows text buffer n m bad_form = read_refused wrong_text buffer
after_rows text buffer n m bad_bit = read_refused wrong_crew_words buffer

unfoldable pub after_header : List ℕ → List ℕ → Result Header Refusal → ReadReply
after_header text buffer (Ok h) = after_rows text buffer h.n h.m (rows_to text h.m h.next h.n)
after_header text buffer (Err r) = read_refused (number_of r) buffer

-- the reader, on a text and a lent buffer
unfoldable pub read_crew : List ℕ → List ℕ → ReadReply
read_crew text buffer =
    when isnt (eqb (length buffer) buffer_length) then read_refused wrong_crew_words buffer
    else when isnt (leb (length text) longest_text) then read_refused wrong_text buffer
    else after_header text buffer (header_at text)

-- ---- what the code gives

-- n and m, or the refusal
unfoldable pub read_result : Result CrewSize Refusal → List ℕ → ReadReply
read_result (Ok size) buffer = record { code = 0; n = size.n; m = size.m; words = buffer }
read_result (Err r) buffer = read_refused (number_of r) buffer

-- the place after the rows, or what their first fault is told as
unfoldable pub rows_end : Read → Result ℕ Refusal
rows_end (rows_read rows at) = Ok at
rows_end bad_form = Err Text
rows_end bad_bit = Err Crew

-- where all rows are read, the words hold them
unfoldable pub RowsLaid : Read → List ℕ → Type 0
RowsLaid (rows_read rows at) words = words ≡ laid rows
RowsLaid bad_form words = Unit {0}
RowsLaid bad_bit words = Unit {0}
