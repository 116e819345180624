-- Each set below k is asked.
-- Assumes nothing.
use native.Mathlib.Omega.{arith}
use Rattle.hierarchy.proofs.lower.lower_of.Goals as goal

pub gathered-requires-clause-callable : goal.gathered-requires-clause-callable
gathered-requires-clause-callable c = λ i l. omega arith

pub returns : goal.returns
returns c = c.gathered.ensures _ (λ i t l q. rw c.load-s.ensures at q)
