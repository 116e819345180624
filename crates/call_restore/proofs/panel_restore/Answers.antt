-- The entrance, the machine's own checks, and then the record with the role.
-- Assumes nothing.
use borrow.Author.Rules.{rules}
use mathlib.Core.Path.{sym}
use Rattle.std.proofs.lemmas.Result.{err_from_is_err_and}
use Rattle.model.proofs.Refusals.{restore_iff}
use Rattle.refusals.proofs.Numbers.{some_number}
use Rattle.calls.proofs.Entering.{LetIn, let_in}
use Rattle.calls_edit.proofs.Edits.{edit_unfit, edit_refused, fit_length, fit_few, fit_number}
use Rattle.call_restore.proofs.Restoring.{restored}
use Rattle.call_restore.proofs.panel_restore.Goals as goal
use Rattle.call_restore.proofs.panel_restore.Goals.{After-unwrap-rec}

pub returns-in_err-enter : goal.returns-in_err-enter
returns-in_err-enter c = let p = err_from_is_err_and c.from_residual.result c.from_residual.ensures.1 in
    rw (p.1, p.2) (edit_unfit _ _ _ (some_number _) c.in_err-enter.ensures.number)

pub unwrap-rec-requires : goal.unwrap-rec-requires
unwrap-rec-requires c = let whole = fit_length _ (sym c.in_ok-enter.ensures.number) in
    search (rules, whole)

-- the record as an array: it was let in
inside : (c : After-unwrap-rec) → LetIn c.args.rec.now c.unwrap-rec.result.now c.enter.new.index c.enter.new.seniors
inside c = let_in (sym c.in_ok-enter.ensures.number) c.in_ok-enter.ensures.ready (search rules)

pub restore_refusal-requires : goal.restore_refusal-requires
restore_refusal-requires c = record { rec_bound = fit_few _ (inside (goal.at.restore_refusal-requires c).After-unwrap-rec).fit }

pub returns-in_err-restore_refusal : goal.returns-in_err-restore_refusal
returns-in_err-restore_refusal c = let p = err_from_is_err_and c.from_residual-in_err-restore_refusal.result c.from_residual-in_err-restore_refusal.ensures.1 in
    let here = inside (goal.at.returns-in_err-restore_refusal c).After-unwrap-rec in
    rw (p.1, p.2, ← here.same) (edit_refused _ _ here.fit _ (some_number _) (c.in_err-restore_refusal.ensures _ _ here.ready))

pub put_back-requires : goal.put_back-requires
put_back-requires c = let here = inside (goal.at.put_back-requires c).After-unwrap-rec in
    record { k_bound = fit_number _ here.fit _ ((restore_iff _ _).0 (sym (c.in_ok-restore_refusal.ensures _ _ here.ready))).0 }

pub returns : goal.returns
returns c = let here = inside (goal.at.returns c).After-unwrap-rec in
    let e = sym (c.in_ok-restore_refusal.ensures _ _ here.ready) in
    let known = (restore_iff _ _).0 e in
    rw (← here.same) (restored _ _ _ _ _ here.fit e (c.put_back.ensures _ here.ready known.0 known.1))
