-- The entrance, the weights, and then the quality of the record's rows.
-- Assumes nothing.
use mathlib.Core.Path.{sym}
use Rattle.std.proofs.lemmas.Result.{err_from_is_err_and}
use Rattle.model.proofs.Refusals.{unfit_iff}
use Rattle.model.proofs.Sound.{sound_few}
use Rattle.call_quality.proofs.Quality.{quality_unfit, quality_refused, quality_given}
use Rattle.call_quality.proofs.panel_quality.Goals as goal

pub returns-in_err-rec : goal.returns-in_err-rec
returns-in_err-rec c = let p = err_from_is_err_and c.from_residual.result c.from_residual.ensures.1 in
    rw (p.1, p.2) (quality_unfit _ _ _ c.in_err-rec.ensures.number)

pub returns-in_err-weights : goal.returns-in_err-weights
returns-in_err-weights c = let p = err_from_is_err_and c.from_residual-in_err-weights.result c.from_residual-in_err-weights.ensures.1 in
    rw (p.1, p.2) (quality_refused _ _ (sym c.in_ok-rec.ensures.number) _ c.in_err-weights.ensures.number)

pub count_rows-requires : goal.count_rows-requires
count_rows-requires c = let told = c.in_ok-rec.ensures in
    record { rec_bound = rw told.given (sound_few _ ((unfit_iff _).0 (sym told.number))) }

pub weigh-requires : goal.weigh-requires
weigh-requires c = c.count_rows.ensures.few

pub returns : goal.returns
returns c = rw (c.weigh.ensures.value, c.in_ok-weights.ensures.value) (quality_given _ _ _ (sym c.in_ok-rec.ensures.number) (sym c.in_ok-weights.ensures.number) (rw c.in_ok-rec.ensures.given at c.count_rows.ensures.result_value))
