-- The entrance, the length of the buffer, and then the text.
-- Assumes nothing.
use mathlib.Core.Path.{◌≡◌, sym}
use native.Mathlib.Omega.{arith}
use Rattle.std.proofs.lemmas.Result.{err_from_is_err_and}
use Rattle.model.specs.Calls.{unfit}
use Rattle.model.proofs.Refusals.{unfit_iff}
use Rattle.text_write.proofs.Puts.{record_room}
use Rattle.call_write.proofs.panel_write_crew.Goals.{In_ok-rec}
use Rattle.call_write.proofs.Writing.{length_known, room_known, write_unfit, write_short, write_given}
use Rattle.call_write.proofs.panel_write_crew.Goals as goal

-- the record that the entrance gives was let in
fit : (c : In_ok-rec) → unfit c.in_ok-rec.rec.now ≡ 0
fit c = let told = c.in_ok-rec.ensures in rw told.given (sym told.number)

pub returns-in_err-rec : goal.returns-in_err-rec
returns-in_err-rec c = let p = err_from_is_err_and c.from_residual.result c.from_residual.ensures.1 in
    rw (p.1, p.2) (write_unfit _ _ _ c.in_err-rec.ensures.number)

pub text_length-length-requires : goal.text_length-length-requires
text_length-length-requires c = let r = record_room _ ((unfit_iff _).0 (fit (goal.at.text_length-length-requires c).In_ok-rec)) in record { n_bound = r.users; m_bound = r.permissions }

pub returns-then-text-length : goal.returns-then-text-length
returns-then-text-length c = rw (← c.in_ok-rec.ensures.given) (write_short _ _ _ (fit (goal.at.returns-then-text-length c).In_ok-rec) (length_known _ _ c.text_length-length.ensures) c.if-text-length.true)

pub put_crew-requires : goal.put_crew-requires
put_crew-requires c = record { so = (unfit_iff _).0 (fit (goal.at.put_crew-requires c).In_ok-rec); rec_in_bounds = room_known _ _ _ c.text_length-length.ensures (omega arith) }

pub returns : goal.returns
returns c = rw (← c.in_ok-rec.ensures.given)
    (write_given _ _ _ _ (fit (goal.at.returns c).In_ok-rec) (room_known _ _ _ c.text_length-length.ensures c.if-text-length.false) (length_known _ _ c.text_length-length.ensures) c.put_crew.ensures)
