-- The header and the rows, one after another.
-- Assumes nothing.
use native.Mathlib.Omega.{arith}
use Rattle.text_write.proofs.Puts.{record_put, record_room}
use Rattle.text_write.proofs.put_crew.Goals as goal

pub bounds-rec-0 : goal.bounds-rec-0
bounds-rec-0 c = let size = (record_room _ c.requires.so).size in omega arith

pub bounds-rec-1 : goal.bounds-rec-1
bounds-rec-1 c = let size = (record_room _ c.requires.so).size in omega arith

pub put_header-start-requires : goal.put_header-start-requires
put_header-start-requires c = let r = record_room _ c.requires.so in omega (arith, r.header, r.bytes)

pub bounds-rec-0-2 : goal.bounds-rec-0-2
bounds-rec-0-2 c = let size = (record_room _ c.requires.so).size in omega arith

pub bounds-rec-1-2 : goal.bounds-rec-1-2
bounds-rec-1-2 c = let size = (record_room _ c.requires.so).size in omega arith

pub put_rows-requires : goal.put_rows-requires
put_rows-requires c = let r = record_room _ c.requires.so in
    record { n_bound = r.users; m_bound = r.permissions; n_in_bounds = omega (arith, r.bytes) }

pub returns : goal.returns
returns c = record_put _ _ _ _ _ _ (c.put_header-start.ensures.value, c.put_header-start.ensures.out_after) (c.put_rows.ensures.value, c.put_rows.ensures.out_after)
