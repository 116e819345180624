-- The row is rewritten, and the table altered where its juniors were.
-- Assumes nothing.
use native.Mathlib.Omega.{arith}
use Rattle.rows.proofs.Rewriting.{linked_upper}
use Rattle.rows.proofs.link.relink_upper.Goals as goal

pub returns : goal.returns
returns c = λ old st s p t to q l. let q' = c.rewrite_upper.ensures old st s p t to q in
    (q', linked_upper old st s p t _ t _ _ _ _ _ _ _ q q' c.load-old.ensures c.load-new.ensures c.relink.ensures (omega arith) l)
