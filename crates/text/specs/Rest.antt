-- What is left of a text, and what is left after a field, where the field stands there.
-- Assumes nothing.
use Rattle.std.specs.Prelude.{Option, Some, None, List, ℕ, ◌+◌}
use Rattle.text.specs.declared.rest.Rest.{Rest}
use Rattle.text.specs.Fixed.{fixed_at, line_end}
use Rattle.text.specs.Decimal.{Decimal, decimal_at}

-- so many bytes further
unfoldable pub moved : Rest → ℕ → Rest
moved rest count = record { text = rest.text; at = rest.at + count }

-- from the place on that a field tells as its end
unfoldable pub after : Rest → Option ℕ → Option Rest
after rest (Some next) = Some (record { text = rest.text; at = next })
after rest None = None

unfoldable pub after_number : Rest → Option Decimal → Option (ℕ × Rest)
after_number rest (Some d) = Some (d.value, record { text = rest.text; at = d.next })
after_number rest None = None

unfoldable pub after_fixed : Rest → List ℕ → Option Rest
after_fixed rest bytes = after rest (fixed_at rest.text.now rest.at bytes)

unfoldable pub after_line_end : Rest → Option Rest
after_line_end rest = after_fixed rest line_end

unfoldable pub after_decimal : Rest → Option (ℕ × Rest)
after_decimal rest = after_number rest (decimal_at rest.text.now rest.at)
