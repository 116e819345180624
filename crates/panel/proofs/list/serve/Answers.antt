-- Three ways: the list can't be read; mining refuses; or condition 3.
-- Assumes nothing.
use mathlib.Core.Path.{sym, ◌∙◌}
use Rattle.std.proofs.lemmas.Result.{err_from_is_err_and}
use Rattle.panel.proofs.Serving.{served_unreadable, served_refused, served_mined}
use Rattle.panel.proofs.list.serve.Goals as goal

pub returns-then-not-can_read : goal.returns-then-not-can_read
returns-then-not-can_read c = served_unreadable _ _ _ _ _ _ (sym c.can_read.ensures ∙ c.if-not-can_read.true)

pub returns-in_err-candidates : goal.returns-in_err-candidates
returns-in_err-candidates c = let p = err_from_is_err_and c.from_residual.result c.from_residual.ensures.1 in
    rw (p.1, p.2) (served_refused _ _ _ _ _ _ (sym c.can_read.ensures ∙ c.if-not-can_read.false) _ _ c.in_err-candidates.ensures.rec_after)

pub serve_calls-requires : goal.serve_calls-requires
serve_calls-requires c = sym c.can_read.ensures ∙ c.if-not-can_read.false

pub returns : goal.returns
returns c = served_mined _ _ _ _ _ _ (sym c.can_read.ensures ∙ c.if-not-can_read.false) _ _ c.in_ok-candidates.ensures.rec_after _ _ (c.serve_calls.ensures.rec_after, c.serve_calls.ensures.out_after)
