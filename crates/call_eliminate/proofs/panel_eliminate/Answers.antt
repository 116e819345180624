-- The entrance, the machine's own check, and then the record that the elimination leaves.
-- Assumes nothing.
use borrow.Author.Rules.{rules}
use mathlib.Core.Path.{sym, ◌∙◌}
use Rattle.std.proofs.lemmas.Result.{err_from_is_err_and}
use Rattle.model.proofs.Refusals.{unfit_iff}
use Rattle.model.proofs.Sound.{sound_counts}
use Rattle.refusals.proofs.Numbers.{some_number}
use Rattle.calls.proofs.Entering.{LetIn, let_in}
use Rattle.calls_edit.proofs.Edits.{edit_unfit, edit_refused, fit_length, fit_few}
use Rattle.call_eliminate.proofs.Eliminating.{run_ended}
use Rattle.call_eliminate.proofs.panel_eliminate.Goals as goal
use Rattle.call_eliminate.proofs.panel_eliminate.Goals.{After-unwrap-rec}

pub returns-in_err-enter : goal.returns-in_err-enter
returns-in_err-enter c = let p = err_from_is_err_and c.from_residual.result c.from_residual.ensures.1 in
    rw (p.1, p.2) (edit_unfit _ _ _ (some_number _) c.in_err-enter.ensures.number)

pub unwrap-rec-requires : goal.unwrap-rec-requires
unwrap-rec-requires c = let whole = fit_length _ (sym c.in_ok-enter.ensures.number) in
    search (rules, whole)

-- the record as an array: it was let in
inside : (c : After-unwrap-rec) → LetIn c.args.rec.now c.unwrap-rec.result.now c.enter.new.index c.enter.new.seniors
inside c = let_in (sym c.in_ok-enter.ensures.number) c.in_ok-enter.ensures.ready (search rules)

pub returns-in_err-terms : goal.returns-in_err-terms
returns-in_err-terms c = let p = err_from_is_err_and c.from_residual-in_err-terms.result c.from_residual-in_err-terms.ensures.1 in
    let here = inside (goal.at.returns-in_err-terms c).After-unwrap-rec in
    rw (p.1, p.2, ← here.same) (edit_refused _ _ here.fit _ (some_number _) (c.in_err-terms.ensures.number _))

pub count_rows-counts-requires : goal.count_rows-counts-requires
count_rows-counts-requires c = record { rec_bound = fit_few _ (inside (goal.at.count_rows-counts-requires c).After-unwrap-rec).fit }

pub eliminate_all-run-requires : goal.eliminate_all-run-requires
eliminate_all-run-requires c = let here = inside (goal.at.eliminate_all-run-requires c).After-unwrap-rec in
    record { ready = here.ready; exact = c.count_rows-counts.ensures.result_value ∙ sound_counts _ ((unfit_iff _).0 here.fit) }

pub returns : goal.returns
returns c = let here = inside (goal.at.returns c).After-unwrap-rec in
    rw (← here.same)
    (run_ended _ _ _ _ _ _ _ here.fit (sym (c.in_ok-terms.ensures.number _)) (rw (c.in_ok-terms.ensures.weights, c.in_ok-terms.ensures.tolerance) at c.eliminate_all-run.ensures))
