-- The candidates of the rows so far are found.
-- Assumes nothing.
use mathlib.Core.Path.{◌≡◌, sym, ◌∙◌, ap}
use Prim.Native.Nat.{◌<◌}
use native.Mathlib.Omega.{arith}
use lib.ListN.{length}
use Rattle.model.specs.Candidates.{mined_to}
use Rattle.model.proofs.Candidates.{mined_table, candidates_mined}
use Rattle.tables.specs.Rows.{rows_of}
use Rattle.tables.proofs.Chunks.{length-rows_of, row_of}
use Rattle.mining.proofs.Users.{mining_more, mining_full}
use Rattle.mining.proofs.mine.Goals as goal

pub loop-row-init : goal.loop-row-init
unfolding mined_to
loop-row-init c = c.requires.none_yet

pub add_row-requires : goal.add_row-requires
add_row-requires c = rw c.loop-row.invariant (mined_table _ _)

pub returns-in_err-add_row : goal.returns-in_err-add_row
returns-in_err-add_row c = let inside : c.loop-row.row-index < length c.args.rows.now = omega arith in
    rw c.from_residual.ensures
    (mining_full _ _ _ c.loop-row.invariant (c.from_words.ensures ∙ sym (row_of _ _ inside)) (rw (length-rows_of _) inside) c.in_err-add_row.ensures)

pub loop-row-preserved : goal.loop-row-preserved
loop-row-preserved c = let inside : c.loop-row.row-index < length c.args.rows.now = omega arith in
    c.in_ok-add_row.ensures ∙ mining_more _ _ _ c.loop-row.invariant (c.from_words.ensures ∙ sym (row_of _ _ inside)) (rw (length-rows_of _) inside)

pub returns : goal.returns
returns c = let all : c.loop-row.row-index ≡ length (rows_of c.args.rows.now) = rw (length-rows_of _) (omega arith) in
    let found = rw (all, ← candidates_mined _) at c.loop-row.invariant in
    record { sets = found; count = c.count-count.ensures.value ∙ ap length found; few = c.count-count.ensures.upper_bound }
