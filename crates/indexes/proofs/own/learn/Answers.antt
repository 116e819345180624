-- The role is known, or its entry is stored.
-- Assumes nothing.
use mathlib.Core.Path.{sym, ◌∙◌}
use native.Mathlib.Omega.{arith}
use Prim.Native.Nat.{◌^◌, ◌<◌}
use Rattle.sets.specs.Held.{set_of}
use Rattle.sets.proofs.Written.{words}
use Rattle.sets.proofs.Held.{held128}
use Rattle.indexes.proofs.Owning.{own_learnt}
use Rattle.indexes.proofs.own.learn.Goals as goal

pub returns-then-contains : goal.returns-then-contains
returns-then-contains c = λ st crew n cc i src le lu own h. (h, sym c.contains.ensures ∙ c.if-contains.true)

pub returns : goal.returns
returns c = let given = c.requires in
    let small : set_of c.lower_of.result < 2 ^ 128 = search (words, held128) in
    λ st crew n cc i src le lu own h.
    rw c.store.ensures
    (own_learnt st crew n _ cc src _ _ _ i _ _ _ _ _ h (omega arith) given.e_bound given.u_bound le lu own c.lower_of.ensures small c.insert.ensures c.insert-2.ensures)
