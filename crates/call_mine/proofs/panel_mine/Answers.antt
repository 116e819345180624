-- What is told without mining, then mining, then the record built afresh.
-- Assumes nothing.
use borrow.Author.Rules.{rules}
use mathlib.Core.Path.{sym, subst}
use native.Mathlib.Omega.{arith}
use Rattle.std.proofs.lemmas.Result.{err_from_is_err_and}
use Rattle.mining.specs.Mining.{Mines}
use Rattle.call_mine.proofs.Mining.{lent_refused, lent_length, lent_size, too_many, mined_limits, mined}
use Rattle.call_mine.proofs.panel_mine.Goals as goal

pub returns-in_err-lent_refusal : goal.returns-in_err-lent_refusal
returns-in_err-lent_refusal c = let p = err_from_is_err_and c.from_residual.result c.from_residual.ensures.1 in
    rw (p.1, p.2) (lent_refused _ _ _ _ _ c.in_err-lent_refusal.ensures)

pub as_rows-rows-requires : goal.as_rows-rows-requires
as_rows-rows-requires c = let size = lent_size _ _ _ _ (sym c.in_ok-lent_refusal.ensures) in
    omega arith

pub returns-in_default : goal.returns-in_default
returns-in_default c = too_many _ _ _ _ (sym c.in_ok-lent_refusal.ensures) (subst (Mines _ _) c.in_default.is (rw c.as_rows-rows.ensures.value at c.mine.ensures))

pub write_fresh-requires : goal.write_fresh-requires
write_fresh-requires c = let z = sym c.in_ok-lent_refusal.ensures in
    let rows = c.as_rows-rows.ensures in
    let m = subst (Mines _ _) c.in-Some.is (rw rows.value at c.mine.ensures) in
    record {
      limits = rw (rows.value, rows.count) (mined_limits _ _ _ _ z _ m.count m.few);
      mined = rw rows.value m.sets;
    }

pub returns : goal.returns
returns c = let rows = c.as_rows-rows.ensures in
    let m = subst (Mines _ _) c.in-Some.is (rw rows.value at c.mine.ensures) in
    mined _ _ _ _ (sym c.in_ok-lent_refusal.ensures) _ m.count m.few _ (rw (rows.value, rows.count) at c.write_fresh.ensures)

pub unwrap-requires : goal.unwrap-requires
unwrap-requires c = let size = lent_length _ _ _ _ (sym c.in_ok-lent_refusal.ensures) in
    search (rules, size)
