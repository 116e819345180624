-- A way for each kind.
-- Assumes nothing.
use mathlib.Core.Path.{sym}
use native.Mathlib.Omega.{arith}
use Rattle.panel.proofs.Serving.{call_strike, call_restore, call_eliminate, call_review}
use Rattle.panel.proofs.list.read_call.Goals as goal

pub returns-in-0 : goal.returns-in-0
returns-in-0 c = sym (call_strike _ _ c.in-0.is)

pub returns-in-1 : goal.returns-in-1
returns-in-1 c = sym (call_restore _ _ (λ e. let z : ⊥ = omega arith in z) c.in-1.is)

pub returns-in-2 : goal.returns-in-2
returns-in-2 c = sym (call_eliminate _ _ (λ e. let z : ⊥ = omega arith in z) (λ e. let z : ⊥ = omega arith in z) c.in-2.is)

pub returns-in_default : goal.returns-in_default
returns-in_default c = sym (call_review _ _ (λ e. let z : ⊥ = omega arith in z) (λ e. let z : ⊥ = omega arith in z) (λ e. let z : ⊥ = omega arith in z))
