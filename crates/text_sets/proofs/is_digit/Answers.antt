-- A digit that is there is one below 16.
-- Assumes nothing.
use mathlib.Core.Path.{◌∙◌}
use Rattle.text_sets.proofs.Hexadecimals.{digit_told}
use Rattle.text_sets.proofs.is_digit.Goals as goal

pub returns : goal.returns
returns c = c.is_some.ensures ∙ digit_told c.args.rest _ _ _ c.skip.ensures c.digit.ensures
