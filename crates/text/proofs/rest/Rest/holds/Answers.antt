-- From the place on, the text starts with the bytes.
-- Assumes nothing.
use mathlib.Core.Path.{sym, ◌∙◌}
use native.Mathlib.Omega.{arith}
use Rattle.sets.proofs.Truth.{not-So, leb_iff}
use Rattle.text.proofs.Bytes.{holds_short, holds_starts}
use Rattle.text.proofs.rest.Rest.holds.Goals as goal

pub returns-then-self : goal.returns-then-self
returns-then-self c = holds_starts _ _ _ _ c.if-self.true c.starts_with.ensures.bound c.starts_with.ensures.value

pub returns-else-self : goal.returns-else-self
returns-else-self c = not-So _ (λ s. let k = (leb_iff _ _).0 s in omega arith) ∙ sym (holds_short _ _ _ (omega arith))
