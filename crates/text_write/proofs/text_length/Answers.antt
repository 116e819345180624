-- Each row adds its number's digits, a comma, its own digits and the line's end.
-- Assumes nothing.
use borrow.Author.Rules.{rules}
use mathlib.Core.Path.{◌≡◌, refl}
use Prim.Native.Nat.{ℕ, ◌+◌, ◌^◌}
use native.Mathlib.Omega.{arith}
use lib.ListN.{length}
use Rattle.std.specs.List.{range_with_len, sum_by}
use Rattle.std.proofs.lemmas.Iterator.{YieldsList-from_range, YieldsList-from_map}
use Rattle.std.proofs.lemmas.Iterator.Consumers.{sum_by_from_yields_List, fits_by_from_yields_list}
use Rattle.text.specs.Decimal.{decimal}
use Rattle.text_lines.specs.Format.{digits_for}
use Rattle.text_write.proofs.Puts.{rows_short, sized}
use Rattle.text_write.proofs.text_length.Goals as goal

abbrev row : ℕ → ℕ → ℕ
row m u = length (decimal u) + 1 + digits_for m + 1

pub sum-requires-clause-fits : goal.sum-requires-clause-fits
sum-requires-clause-fits c = let m = c.args.m in
    let few = rows_short c.args.n m (row m) (λ u. refl) c.requires.n_bound c.requires.m_bound in
    fits_by_from_yields_list (row m) _ c.map.result (2 ^ 64)
    (YieldsList-from_map _ (row m) (YieldsList-from_range 0 _ c.args.n c.map.ensures.source (omega arith)) c.map.ensures.closure (λ x r q k. search rules)) (omega arith)

told : (c : goal.After-sum) → c.sum.result ≡ sum_by (row c.args.m) (range_with_len 0 c.args.n)
told c = let m = c.args.m in
    sum_by_from_yields_List (row m) _ c.map.result _ c.sum.ensures.ran
    (YieldsList-from_map _ (row m) (YieldsList-from_range 0 _ c.args.n c.map.ensures.source (omega arith)) c.map.ensures.closure (λ x r q k. search rules))

pub overflow_add-result : goal.overflow_add-result
overflow_add-result c = omega (arith, told c, rows_short c.args.n c.args.m (row c.args.m) (λ u. refl) c.requires.n_bound c.requires.m_bound)

pub returns : goal.returns
returns c = λ rows. sized c.args.n c.args.m (row c.args.m) (λ u. refl) rows _ _ _ c.decimal_length.ensures.value c.decimal_length-2.ensures.value (told c)
