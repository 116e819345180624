-- What the length check finds, or else what the soundness check does.
-- Assumes nothing.
use borrow.Author.Rules.{rules}
use mathlib.Core.Path.{◌≡◌, sym, ◌∙◌}
use Rattle.std.proofs.lemmas.Result.{err_from_is_err_and}
use Rattle.model.specs.Calls.{unfit}
use Rattle.model.proofs.Refusals.{length_check, or_else_first, or_else_next}
use Rattle.refusals.proofs.Numbers.{some_number}
use Rattle.calls.proofs.entrance.enter.Goals as goal

pub returns-in_err-length_refusal : goal.returns-in_err-length_refusal
unfolding unfit
returns-in_err-length_refusal c = let p = err_from_is_err_and c.from_residual.result c.from_residual.ensures.1 in
    let e = c.in_err-length_refusal.ensures in
    rw (p.1, p.2) (record { number = e ∙ sym (or_else_first _ _ (λ z. some_number _ (e ∙ z))); ready = search rules })

pub unwrap-requires : goal.unwrap-requires
unwrap-requires c = let whole = (length_check _).passed (sym c.in_ok-length_refusal.ensures) in
    search (rules, whole)

pub returns : goal.returns
unfolding unfit
returns c = let same : c.unwrap.result.now ≡ c.args.rec.now = search rules in
    let judged = rw same at c.soundness_refusal.ensures in
    record { number = judged.number ∙ sym (or_else_next _ _ (sym c.in_ok-length_refusal.ensures)); ready = judged.ready }
