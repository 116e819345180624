-- The first check that finds something.
-- Assumes nothing.
use mathlib.Core.Path.{sym, ◌∙◌}
use Rattle.std.proofs.lemmas.Result.{err_from_is_err_and}
use Rattle.model.proofs.Record.{within_limits_iff}
use Rattle.model.proofs.Refusals.{limits_check, or_else_first, or_else_next}
use Rattle.refusals.proofs.Numbers.{some_number}
use Rattle.call_mine.proofs.lent_refusal.Goals as goal

pub returns-in_err-length_refusal : goal.returns-in_err-length_refusal
returns-in_err-length_refusal c = let p = err_from_is_err_and c.from_residual.result c.from_residual.ensures.1 in
    rw (p.1, p.2) (c.in_err-length_refusal.ensures ∙ sym (or_else_first _ _ (λ z. some_number _ (c.in_err-length_refusal.ensures ∙ z))))

pub returns-in_err-limits_refusal : goal.returns-in_err-limits_refusal
returns-in_err-limits_refusal c = let p = err_from_is_err_and c.from_residual-in_err-limits_refusal.result c.from_residual-in_err-limits_refusal.ensures.1 in
    rw (p.1, p.2) (c.in_err-limits_refusal.ensures ∙ sym (or_else_first _ _ (λ z. some_number _ (c.in_err-limits_refusal.ensures ∙ z))) ∙ sym (or_else_next _ _ (sym c.in_ok-length_refusal.ensures)))

pub crew_refusal-requires : goal.crew_refusal-requires
crew_refusal-requires c = let k = (within_limits_iff _ _).0 ((limits_check _ _).passed (sym c.in_ok-limits_refusal.ensures)) in
    record { n_bound = k.1; m_bound = k.3 }

pub returns : goal.returns
returns c = c.crew_refusal.ensures ∙ sym (or_else_next _ _ (sym c.in_ok-limits_refusal.ensures)) ∙ sym (or_else_next _ _ (sym c.in_ok-length_refusal.ensures))
