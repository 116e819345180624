-- A line of a crew text as it is read: "in each line its form .. before its limits".
-- Assumes nothing.
use Rattle.std.specs.Prelude.{Option, Some, None, Result, Ok, Err, List, ℕ, ◌+◌, eqb}
use Rattle.sets.specs.Truth.{◌and◌, when◌then◌else◌}
use Rattle.model.specs.State.{within_limits}
use Rattle.refusals.specs.declared.Refusal.{Refusal}
use Rattle.refusals.specs.declared.Refusal.TheVariants.{Limits, Text}
use Rattle.text.specs.Fixed.{holds, comma, line_end}
use Rattle.text.specs.Decimal.{Decimal, decimal_at}
use Rattle.text_sets.specs.Hexadecimal.{hexadecimal_at}
use Rattle.text_lines.specs.Format.{crew_word}
use Rattle.text_lines.specs.declared.header.Header.{Header}

-- ---- the header

-- n, m and the place after the line
abbrev pub crew_header : ℕ → ℕ → ℕ → Header
crew_header n m next = record { n = n; m = m; next = next }

unfoldable pub header_end : List ℕ → ℕ → Option Decimal → Option Header
header_end text n (Some m) = when holds text m.next line_end then Some (crew_header n m.value (m.next + 1)) else None
header_end text n None = None

unfoldable pub header_rest : List ℕ → Option Decimal → Option Header
header_rest text (Some n) = when holds text n.next comma then header_end text n.value (decimal_at text (n.next + 1)) else None
header_rest text None = None

-- the fields of the header, where the whole line has its form
unfoldable pub header_fields : List ℕ → Option Header
header_fields text = when holds text 0 crew_word then header_rest text (decimal_at text 5) else None

-- n and m are in their limits
unfoldable pub limited : Option Header → Result Header Refusal
limited (Some h) = when within_limits h.n h.m then Ok h else Err Limits
limited None = Err Text

-- the form of the whole line, then its limits
unfoldable pub header_at : List ℕ → Result Header Refusal
header_at text = limited (header_fields text)

-- ---- a row

-- after the number of the line: it is u, then a comma, d digits and the line's end
unfoldable pub row_rest : List ℕ → ℕ → ℕ → Option Decimal → Option ℕ
row_rest text d u (Some v) =
    when eqb v.value u and holds text v.next comma and hexadecimal_at d text (v.next + 1) and holds text (v.next + 1 + d) line_end
    then Some (v.next + 1) else None
row_rest text d u None = None

-- where the digits of row u stand, if the line at place `at` has its form
unfoldable pub row_digits_at : List ℕ → ℕ → ℕ → ℕ → Option ℕ
row_digits_at text d u at = row_rest text d u (decimal_at text at)
