-- Document 01's own sample and one more, computed from the definitions.
-- Assumes nothing.
use mathlib.Core.Path.{◌≡◌, refl}
use mathlib.Core.List.{List, [], ◌∷◌}
use Prim.Native.Nat.{ℕ}
use Rattle.model.proofs.Everything.{everything}
use Rattle.text.specs.Digits.{digit_byte, digit_of, digit_at}
use Rattle.text.specs.Fixed.{holds}
use Rattle.text.specs.Decimal.{decimal_digit, decimal_at, decimal_of, decimal}
use Rattle.text_sets.specs.Hexadecimal.{hexadecimal_at, hexadecimal_value, hexadecimal}
use Rattle.text_lines.specs.Format.{digits_for}
use Rattle.text_crew.specs.Reader.{with_row, next_row, rows_to, read_refused, laid, after_rows, after_header, read_crew}
use Rattle.text_lines.specs.Lines.{limited, header_end, header_rest, header_fields, header_at, row_rest, row_digits_at}
use Rattle.listing.specs.Listing.{plain_weights, plain_tolerance, settled, role_line, roles_text, listed, listing}
use Rattle.text_roles.specs.Lines.{field, line, lines_to, head_line, refused_text}

-- opens all that a listing computes by
unfoldable shown : ℕ
unfolding everything digit_byte digit_of digit_at holds decimal_digit decimal_at decimal_of decimal hexadecimal_at hexadecimal_value hexadecimal digits_for
    limited header_end header_rest header_fields header_at row_rest row_digits_at with_row next_row rows_to read_refused laid after_rows after_header read_crew
    plain_weights plain_tolerance settled field line lines_to head_line refused_text role_line roles_text listed listing
shown = 0

-- `crew,3,3`, `0,3`, `1,6`, `2,7`
abbrev sample_text : List ℕ
sample_text =
    99 ∷ 114 ∷ 101 ∷ 119 ∷ 44 ∷ 51 ∷ 44 ∷ 51 ∷ 10
    ∷ 48 ∷ 44 ∷ 51 ∷ 10
    ∷ 49 ∷ 44 ∷ 54 ∷ 10
    ∷ 50 ∷ 44 ∷ 55 ∷ 10
    ∷ []

-- `roles,2,10`, `1,3,3,5,0`, `2,6,6,6,0`
abbrev sample_roles : List ℕ
sample_roles =
    114 ∷ 111 ∷ 108 ∷ 101 ∷ 115 ∷ 44 ∷ 50 ∷ 44 ∷ 49 ∷ 48 ∷ 10
    ∷ 49 ∷ 44 ∷ 51 ∷ 44 ∷ 51 ∷ 44 ∷ 53 ∷ 44 ∷ 48 ∷ 10
    ∷ 50 ∷ 44 ∷ 54 ∷ 44 ∷ 54 ∷ 44 ∷ 54 ∷ 44 ∷ 48 ∷ 10
    ∷ []

pub sample : listing sample_text ≡ sample_roles
unfolding shown
sample = refl

-- Five persons, nine permissions and 13 candidates need two, three and four digits; elimination strikes seven roles and review restores one.
-- What is listed is what the model in tests/ gives, and tests/test_model.py compares it with these bytes.

-- `crew,5,9`, `0,13c`, `1,0bd`, `2,03a`, `3,195`, `4,0d6`
abbrev digits_text : List ℕ
digits_text =
    99 ∷ 114 ∷ 101 ∷ 119 ∷ 44 ∷ 53 ∷ 44 ∷ 57 ∷ 10
    ∷ 48 ∷ 44 ∷ 49 ∷ 51 ∷ 99 ∷ 10
    ∷ 49 ∷ 44 ∷ 48 ∷ 98 ∷ 100 ∷ 10
    ∷ 50 ∷ 44 ∷ 48 ∷ 51 ∷ 97 ∷ 10
    ∷ 51 ∷ 44 ∷ 49 ∷ 57 ∷ 53 ∷ 10
    ∷ 52 ∷ 44 ∷ 48 ∷ 100 ∷ 54 ∷ 10
    ∷ []

-- `roles,7,32`, `3,038,038,00,0000`, `4,03a,002,04,0008`, `6,094,094,00,0000`, `8,0bd,001,02,0048`, `9,0d6,042,10,0040`,
-- `11,13c,104,01,0008`, `12,195,101,08,0040`
abbrev digits_roles : List ℕ
digits_roles =
    114 ∷ 111 ∷ 108 ∷ 101 ∷ 115 ∷ 44 ∷ 55 ∷ 44 ∷ 51 ∷ 50 ∷ 10
    ∷ 51 ∷ 44 ∷ 48 ∷ 51 ∷ 56 ∷ 44 ∷ 48 ∷ 51 ∷ 56 ∷ 44 ∷ 48 ∷ 48 ∷ 44 ∷ 48 ∷ 48 ∷ 48 ∷ 48 ∷ 10
    ∷ 52 ∷ 44 ∷ 48 ∷ 51 ∷ 97 ∷ 44 ∷ 48 ∷ 48 ∷ 50 ∷ 44 ∷ 48 ∷ 52 ∷ 44 ∷ 48 ∷ 48 ∷ 48 ∷ 56 ∷ 10
    ∷ 54 ∷ 44 ∷ 48 ∷ 57 ∷ 52 ∷ 44 ∷ 48 ∷ 57 ∷ 52 ∷ 44 ∷ 48 ∷ 48 ∷ 44 ∷ 48 ∷ 48 ∷ 48 ∷ 48 ∷ 10
    ∷ 56 ∷ 44 ∷ 48 ∷ 98 ∷ 100 ∷ 44 ∷ 48 ∷ 48 ∷ 49 ∷ 44 ∷ 48 ∷ 50 ∷ 44 ∷ 48 ∷ 48 ∷ 52 ∷ 56 ∷ 10
    ∷ 57 ∷ 44 ∷ 48 ∷ 100 ∷ 54 ∷ 44 ∷ 48 ∷ 52 ∷ 50 ∷ 44 ∷ 49 ∷ 48 ∷ 44 ∷ 48 ∷ 48 ∷ 52 ∷ 48 ∷ 10
    ∷ 49 ∷ 49 ∷ 44 ∷ 49 ∷ 51 ∷ 99 ∷ 44 ∷ 49 ∷ 48 ∷ 52 ∷ 44 ∷ 48 ∷ 49 ∷ 44 ∷ 48 ∷ 48 ∷ 48 ∷ 56 ∷ 10
    ∷ 49 ∷ 50 ∷ 44 ∷ 49 ∷ 57 ∷ 53 ∷ 44 ∷ 49 ∷ 48 ∷ 49 ∷ 44 ∷ 48 ∷ 56 ∷ 44 ∷ 48 ∷ 48 ∷ 52 ∷ 48 ∷ 10
    ∷ []

pub digits_sample : listing digits_text ≡ digits_roles
unfolding shown
digits_sample = refl
