-- The entrance, the machine's own checks, and then the record without the role.
-- Assumes nothing.
use borrow.Author.Rules.{rules}
use mathlib.Core.Path.{sym}
use Rattle.std.proofs.lemmas.Result.{err_from_is_err_and}
use Rattle.model.proofs.Refusals.{strike_iff}
use Rattle.rows.proofs.Linking.{reindexed}
use Rattle.refusals.proofs.Numbers.{some_number}
use Rattle.calls.proofs.Entering.{LetIn, let_in}
use Rattle.calls_edit.proofs.Edits.{edit_unfit, edit_refused, fit_length, fit_few, fit_number}
use Rattle.call_strike.proofs.Striking.{struck}
use Rattle.call_strike.proofs.panel_strike.Goals as goal
use Rattle.call_strike.proofs.panel_strike.Goals.{After-unwrap-rec}

pub returns-in_err-enter : goal.returns-in_err-enter
returns-in_err-enter c = let p = err_from_is_err_and c.from_residual.result c.from_residual.ensures.1 in
    rw (p.1, p.2) (edit_unfit _ _ _ (some_number _) c.in_err-enter.ensures.number)

pub unwrap-rec-requires : goal.unwrap-rec-requires
unwrap-rec-requires c = let whole = fit_length _ (sym c.in_ok-enter.ensures.number) in
    search (rules, whole)

-- the record as an array: it was let in
inside : (c : After-unwrap-rec) → LetIn c.args.rec.now c.unwrap-rec.result.now c.enter.new.index c.enter.new.seniors
inside c = let_in (sym c.in_ok-enter.ensures.number) c.in_ok-enter.ensures.ready (search rules)

pub strike_refusal-requires : goal.strike_refusal-requires
strike_refusal-requires c = record { rec_bound = fit_few _ (inside (goal.at.strike_refusal-requires c).After-unwrap-rec).fit }

pub returns-in_err-strike_refusal : goal.returns-in_err-strike_refusal
returns-in_err-strike_refusal c = let p = err_from_is_err_and c.from_residual-in_err-strike_refusal.result c.from_residual-in_err-strike_refusal.ensures.1 in
    let here = inside (goal.at.returns-in_err-strike_refusal c).After-unwrap-rec in
    rw (p.1, p.2, ← here.same) (edit_refused _ _ here.fit _ (some_number _) (c.in_err-strike_refusal.ensures.by_index _ here.ready))

pub take_out-requires : goal.take_out-requires
take_out-requires c = let here = inside (goal.at.take_out-requires c).After-unwrap-rec in
    let e = sym (c.in_ok-strike_refusal.ensures.by_index _ here.ready) in
    record { k_bound = fit_number _ here.fit _ ((strike_iff _ _).0 e).0 }

pub returns : goal.returns
returns c = let here = inside (goal.at.returns c).After-unwrap-rec in
    let was = here.ready in
    let e = sym (c.in_ok-strike_refusal.ensures.by_index _ was) in
    let still = reindexed _ _ _ _ _ was (c.in_ok-strike_refusal.ensures.indexed _ was.indexed) in
    rw (← here.same) (struck _ _ _ _ _ here.fit e (c.take_out.ensures _ still ((strike_iff _ _).0 e).1))
