-- The entries of word j, each made of a word of both blocks, by `column_pair`.
-- Assumes nothing.
use borrow.Author.Rules.{rules}
use native.Mathlib.Omega.{arith}
use Prim.Native.Nat.{◌+◌}
use Rattle.columns.proofs.Gathering.{inside, zeros, column_pair}
use Rattle.columns.proofs.all.fill_word.Goals as goal

pub gather_all-requires : goal.gather_all-requires
gather_all-requires g c = (search rules, zeros 64, search rules, search rules, λ q l. inside _ (0 + q) _ _ _ (omega arith) c.requires.3 c.requires.2)

pub gather_all-requires-2 : goal.gather_all-requires-2
gather_all-requires-2 g c = let given = c.requires in
    (search rules, zeros 64, search rules, omega arith, λ q l. inside _ (64 + q) _ _ _ (omega arith) given.3 given.2)

pub returns : goal.returns
returns g c = λ before h. let a = c.args in
    rw c.in_first_word.ensures at
    (c.store_pairs.ensures _ before
    (λ b l. column_pair g.row.WORDS a.n _ a.j b _ _ _ (λ i. (c.type_inv.table i).fits)
    c.requires.3 (omega arith) c.in_first_word-first.ensures
    (c.gather_all.ensures b (omega arith)) (c.gather_all-2.ensures b (omega arith)))
    h)
