-- The entries of the words before j are filled.
-- Assumes nothing.
use borrow.Author.Rules.{rules}
use mathlib.Core.Path.{◌≡◌}
use native.Mathlib.Omega.{arith}
use Prim.Native.Nat.{◌+◌, ◌-◌, ◌*◌, ◌<◌, min}
use Rattle.tables.proofs.Tables.{filled_none}
use Rattle.sets.proofs.Order.{first_iff}
use Rattle.columns.proofs.Filling.{filled_first}
use Rattle.columns.proofs.all.fill_columns.Goals as goal

pub loop-j-init : goal.loop-j-init
loop-j-init g c = let none : min (64 * 0) c.args.c ≡ 0 = omega arith in
    (search rules, rw none (filled_none 2 _ _))

pub fill_columns_for-requires : goal.fill_columns_for-requires
fill_columns_for-requires g c = (
  search rules,
  search rules,
  λ k t. let l : k < c.args.c = (first_iff 256 c.args.c k (omega arith)).0 (rw c.below.ensures at t) in omega (arith, c.requires.4),
)

pub returns-then-c-lt16 : goal.returns-then-c-lt16
returns-then-c-lt16 g c = filled_first _ _ _ _ _ c.below.ensures (omega arith) c.fill_columns_for.ensures

pub fill_word-requires : goal.fill_word-requires
fill_word-requires g c = (search rules, search rules, search rules, omega arith, search rules, omega arith)

pub loop-j-preserved : goal.loop-j-preserved
loop-j-preserved g c = let l = c.loop-j in
    let a = c.args in
    let now : min (64 * l.j) a.c ≡ 64 * l.j = omega arith in
    let next : 64 * l.j + min (a.c - 64 * l.j) 64 ≡ min (64 * (l.j + 1)) a.c = omega arith in
    (omega arith, rw next at (c.fill_word.ensures a.out.now (rw now at l.invariant.1)))

pub returns : goal.returns
returns g c = let a = c.args in
    let whole : min (64 * c.loop-j.j) a.c ≡ a.c = omega arith in
    rw whole at c.loop-j.invariant.1
