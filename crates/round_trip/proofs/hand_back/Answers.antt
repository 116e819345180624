-- The refusal, or what comes back of what was mined.
-- Assumes nothing.
use native.Mathlib.Omega.{arith}
use Rattle.text.proofs.Puts.{first_same}
use Rattle.round_trip.proofs.Handing.{text_refused, back_told, back_written}
use Rattle.round_trip.proofs.hand_back.Goals as goal

pub unwrap-requires : goal.unwrap-requires
unwrap-requires c = let m = c.in-Ok.ensures in
    back_told c.args.text.now _ _ _ m.record_sound m.refusal m.mined (omega arith) _ c.panel_write_crew.ensures

pub returns-in-Ok : goal.returns-in-Ok
returns-in-Ok c = let m = c.in-Ok.ensures in
    let w = back_written _ _ _ _ m.record_sound m.refusal m.mined (omega arith) _ _ c.panel_write_crew.ensures c.unwrap.ensures in
    (w.0, w.1, omega (arith, w.2))

pub returns-in-Err : goal.returns-in-Err
returns-in-Err c = let w = first_same _ _ _ _ _ _ (text_refused _ _ c.in-Err.ensures.refusal) (rw c.number.ensures at c.put_refusal.ensures) in
    (w.0, w.1, omega (arith, w.2))
