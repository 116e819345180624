-- The entrance, the numbers, and then what the links in the record give the user.
-- Assumes nothing.
use mathlib.Core.Path.{sym}
use Rattle.std.proofs.lemmas.Result.{err_from_is_err_and}
use Rattle.model.proofs.Refusals.{unfit_iff}
use Rattle.model.proofs.Sound.{sound_few}
use Rattle.call_may.proofs.Rights.{may_unfit, may_refused, may_given}
use Rattle.call_may.proofs.panel_may.Goals as goal

pub returns-in_err-rec : goal.returns-in_err-rec
returns-in_err-rec c = let p = err_from_is_err_and c.from_residual.result c.from_residual.ensures.1 in
    rw (p.1, p.2) (may_unfit _ _ _ _ c.in_err-rec.ensures.number)

pub returns-in_err-pair_refusal : goal.returns-in_err-pair_refusal
returns-in_err-pair_refusal c = let p = err_from_is_err_and c.from_residual-in_err-pair_refusal.result c.from_residual-in_err-pair_refusal.ensures.1 in
    let told = c.in_ok-rec.ensures in
    rw (p.1, p.2) (may_refused _ _ _ (sym told.number) _ (rw told.given at c.in_err-pair_refusal.ensures))

pub may-requires : goal.may-requires
may-requires c = let told = c.in_ok-rec.ensures in
    record { rec_bound = rw told.given (sound_few _ ((unfit_iff _).0 (sym told.number))) }

pub returns : goal.returns
returns c = let told = c.in_ok-rec.ensures in
    let z = sym told.number in
    let pair = rw told.given at c.in_ok-pair_refusal.ensures in
    let may = rw told.given at c.may.ensures in
    may_given _ _ _ _ z (sym pair) (may ((unfit_iff _).0 z))
