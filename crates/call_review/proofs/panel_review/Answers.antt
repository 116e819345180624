-- The entrance, the weights, and then the passes.
-- Assumes nothing.
use borrow.Author.Rules.{rules}
use mathlib.Core.Path.{sym, ◌∙◌}
use Rattle.std.proofs.lemmas.Result.{err_from_is_err_and}
use Rattle.model.proofs.Refusals.{unfit_iff}
use Rattle.model.proofs.Sound.{sound_counts}
use Rattle.refusals.proofs.Numbers.{some_number}
use Rattle.calls.proofs.Entering.{LetIn, let_in}
use Rattle.calls_edit.proofs.Edits.{edit_unfit, edit_refused, fit_length, fit_few}
use Rattle.call_review.proofs.Reviewing.{by_weights, given}
use Rattle.call_review.proofs.panel_review.Goals as goal
use Rattle.call_review.proofs.panel_review.Goals.{After-unwrap-rec}

pub returns-in_err-enter : goal.returns-in_err-enter
returns-in_err-enter c = let p = err_from_is_err_and c.from_residual.result c.from_residual.ensures.1 in
    rw (p.1, p.2) (edit_unfit _ _ _ (some_number _) c.in_err-enter.ensures.number)

pub unwrap-rec-requires : goal.unwrap-rec-requires
unwrap-rec-requires c = let whole = fit_length _ (sym c.in_ok-enter.ensures.number) in
    search (rules, whole)

-- the record as an array: it was let in
inside : (c : After-unwrap-rec) → LetIn c.args.rec.now c.unwrap-rec.result.now c.enter.new.index c.enter.new.seniors
inside c = let_in (sym c.in_ok-enter.ensures.number) c.in_ok-enter.ensures.ready (search rules)

pub returns-in_err-weights : goal.returns-in_err-weights
returns-in_err-weights c = let p = err_from_is_err_and c.from_residual-in_err-weights.result c.from_residual-in_err-weights.ensures.1 in
    let here = inside (goal.at.returns-in_err-weights c).After-unwrap-rec in
    rw (p.1, p.2, ← here.same) (edit_refused _ _ here.fit _ (some_number _) (c.in_err-weights.ensures.number ∙ by_weights _ _))

pub count_rows-counts-requires : goal.count_rows-counts-requires
count_rows-counts-requires c = record { rec_bound = fit_few _ (inside (goal.at.count_rows-counts-requires c).After-unwrap-rec).fit }

pub review_all-run-requires : goal.review_all-run-requires
review_all-run-requires c = let here = inside (goal.at.review_all-run-requires c).After-unwrap-rec in
    record { ready = here.ready; exact = c.count_rows-counts.ensures.result_value ∙ sound_counts _ ((unfit_iff _).0 here.fit) }

pub returns : goal.returns
returns c = let left = c.review_all-run.ensures in
    let here = inside (goal.at.returns c).After-unwrap-rec in
    rw (← here.same)
    (given _ _ _ _ _ _ here.fit (sym (by_weights _ _) ∙ sym c.in_ok-weights.ensures.number) left.ready_2 left.same_crew_list (rw c.in_ok-weights.ensures.value at left.result_after))
