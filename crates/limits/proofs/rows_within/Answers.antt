-- Each row is asked.
-- Assumes nothing.
use borrow.Author.Rules.{rules}
use mathlib.Core.Path.{◌∙◌}
use Prim.Native.Nat.{◌^◌}
use lib.Dec.{ltb}
use Rattle.std.proofs.lemmas.Iterator.{YieldsList-from_slice}
use Rattle.std.proofs.lemmas.Iterator.Search.{all_from_yields_List}
use Rattle.sets.specs.Words.{value}
use Rattle.limits.proofs.Within.{row_tested, rows_test}
use Rattle.limits.proofs.rows_within.Goals as goal

pub returns : goal.returns
returns c = all_from_yields_List (λ row. ltb (value row) (2 ^ c.args.m)) _ _ _ c.all.ensures.ran (YieldsList-from_slice _ c.iter.ensures.rest) (λ x t q k. (search rules, search (rules, row_tested, c.requires.m_bound, c.below-inside.ensures))) ∙ rows_test _ _
