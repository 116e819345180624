-- The refusal, or the listing of what was mined.
-- Assumes nothing.
use native.Mathlib.Omega.{arith}
use Rattle.text.proofs.Puts.{first_same}
use Rattle.listing.proofs.Read.{text_refused, settled_sound, text_listed}
use Rattle.listing.proofs.list_roles.Goals as goal

pub put_roles-requires : goal.put_roles-requires
put_roles-requires c = let m = c.in-Ok.ensures in
    record { so = settled_sound c.args.text.now _ _ m.record_sound c.settle.ensures; most_bytes_in_bounds = omega arith }

pub returns-in-Ok : goal.returns-in-Ok
returns-in-Ok c = let m = c.in-Ok.ensures in
    let w = first_same _ _ _ _ _ _ (text_listed _ _ _ m.record_sound c.settle.ensures m.refusal m.mined) c.put_roles.ensures in
    (w.0, w.1, omega arith)

pub returns-in-Err : goal.returns-in-Err
returns-in-Err c = let w = first_same _ _ _ _ _ _ (text_refused _ _ c.in-Err.ensures.refusal) (rw c.number.ensures at c.put_refusal.ensures) in
    (w.0, w.1, omega arith)
