-- The entries of the users before u are filled, and the own roles among them are known.
-- Assumes nothing.
use mathlib.Core.Path.{◌≡◌, sym, ◌∙◌}
use lib.ListN.{length}
use native.Mathlib.Omega.{arith}
use Prim.Native.Nat.{◌^◌, ◌<◌}
use Rattle.sets.specs.Held.{set_of}
use Rattle.sets.proofs.Written.{words}
use Rattle.sets.proofs.Held.{held128}
use Rattle.tables.proofs.Chunks.{row_of}
use Rattle.tables.proofs.Tables.{filled_none, filled_more}
use Rattle.indexes.proofs.Sources.{source_row}
use Rattle.indexes.proofs.Owning.{own_start}
use Rattle.indexes.proofs.own.fill_roles.Goals as goal

pub loop-u-init : goal.loop-u-init
loop-u-init c = λ st src. (own_start st _ _ _ c.empty.ensures, filled_none 2 _ _)

pub loop-u-preserved : goal.loop-u-preserved
loop-u-preserved c = let small : set_of c.own_roles-turn.result.roles < 2 ^ 128 = search (words, held128) in
    λ st src.
    let inv = c.loop-u.invariant st src in
    let lu : c.loop-u.u < length c.args.rows.now = omega arith in
    let row = c.from_words.ensures ∙ sym (row_of _ _ lu) ∙ source_row st _ _ _ _ src _ in
    let k = c.own_roles-turn.ensures st _ _ src lu row inv.0 in
    (k.0, rw c.store.ensures (filled_more 2 _ _ _ (c.before).args.out.now c.loop-u.out inv.1 (omega arith) small k.1))

pub returns : goal.returns
returns c = let e : c.loop-u.u ≡ length c.args.rows.now = omega arith in
    λ st src. rw e at (c.loop-u.invariant st src)
