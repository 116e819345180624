-- The rows handed over are the record's own.
-- Assumes nothing.
use native.Mathlib.Omega.{arith}
use Rattle.records.proofs.begin.index_record.Goals as goal

pub as_rows-rows-requires : goal.as_rows-rows-requires
as_rows-rows-requires c = omega (arith, c.requires.fills_from.few_users)

pub fill_index-requires : goal.fill_index-requires
fill_index-requires c = let given = c.requires.fills_from in
    record { fills_from = given; rows_len = rw c.as_rows-rows.ensures.count given.few_users }

pub returns : goal.returns
returns c = λ st src. let rows = c.as_rows-rows.ensures in c.fill_index.ensures st (rw (rows.value, rows.count) src)
