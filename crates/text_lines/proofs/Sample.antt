-- The format, computed: document 01's own sample, and a line whose fields have more digits.
-- Assumes nothing.
use mathlib.Core.Path.{◌≡◌, refl}
use mathlib.Core.List.{[], ◌∷◌}
use Rattle.sets.specs.Truth.{when◌then◌else◌}
use Rattle.text.specs.Digits.{digit_byte}
use Rattle.text.specs.Decimal.{decimal_of, decimal}
use Rattle.text_sets.specs.Hexadecimal.{hexadecimal}
use Rattle.text_lines.specs.Format.{digits_for, header_line, row_line, row_lines, crew_text}

-- "Input `crew,3,3` `0,3` `1,6` `2,7` (one line each)"
pub sample : crew_text 3 3 (3 ∷ 6 ∷ 7 ∷ [])
    ≡ 99 ∷ 114 ∷ 101 ∷ 119 ∷ 44 ∷ 51 ∷ 44 ∷ 51 ∷ 10 ∷ 48 ∷ 44 ∷ 51 ∷ 10 ∷ 49 ∷ 44 ∷ 54 ∷ 10 ∷ 50 ∷ 44 ∷ 55 ∷ 10 ∷ []
unfolding crew_text header_line row_lines row_line digits_for decimal decimal_of hexadecimal digit_byte when◌then◌else◌
sample = refl

-- `102,0af`: "lower case, exactly m/4 digits rounded up, highest digit first", where m = 9
pub wider_sample : row_line 9 102 175 ≡ 49 ∷ 48 ∷ 50 ∷ 44 ∷ 48 ∷ 97 ∷ 102 ∷ 10 ∷ []
unfolding row_line digits_for decimal decimal_of hexadecimal digit_byte when◌then◌else◌
wider_sample = refl
