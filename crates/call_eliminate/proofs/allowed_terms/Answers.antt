-- The first check that finds something.
-- Assumes nothing.
use mathlib.Core.Path.{sym, ◌∙◌}
use Rattle.std.proofs.lemmas.Result.{err_from_is_err_and}
use Rattle.model.specs.Machine.{refusal}
use Rattle.model.proofs.Refusals.{or_else_first, or_else_next}
use Rattle.refusals.proofs.Numbers.{some_number}
use Rattle.call_eliminate.proofs.allowed_terms.Goals as goal

pub returns-in_err-weights-clause-number : goal.returns-in_err-weights-clause-number
unfolding refusal
returns-in_err-weights-clause-number c = λ st. let p = err_from_is_err_and c.from_residual.result c.from_residual.ensures.1 in
    rw (p.1, p.2) (c.in_err-weights.ensures.number ∙ sym (or_else_first _ _ (λ e. some_number _ (c.in_err-weights.ensures.number ∙ e))))

pub returns-in_err-tolerance-clause-number : goal.returns-in_err-tolerance-clause-number
unfolding refusal
returns-in_err-tolerance-clause-number c = λ st. let p = err_from_is_err_and c.from_residual-in_err-tolerance.result c.from_residual-in_err-tolerance.ensures.1 in
    rw (p.1, p.2) (c.in_err-tolerance.ensures.number ∙ sym (or_else_next _ _ (sym c.in_ok-weights.ensures.number)))

pub returns-clause-number : goal.returns-clause-number
unfolding refusal
returns-clause-number c = λ st. c.in_ok-tolerance.ensures.number ∙ sym (or_else_next _ _ (sym c.in_ok-weights.ensures.number))
