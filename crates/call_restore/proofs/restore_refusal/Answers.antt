-- Each check by its own test.
-- Assumes nothing.
use Rattle.call_restore.proofs.Restoring.{restore_6, restore_7, restore_0}
use Rattle.call_restore.proofs.restore_refusal.Goals as goal

pub returns-then-rec-k : goal.returns-then-rec-k
returns-then-rec-k c = λ index seniors ready. restore_6 _ index seniors ready _ c.if-rec-k.true

pub returns-then-contains : goal.returns-then-contains
returns-then-contains c = λ index seniors ready. restore_7 _ index seniors ready _ c.if-rec-k.false _ _ c.load.ensures c.contains.ensures c.if-contains.true

pub returns : goal.returns
returns c = λ index seniors ready. restore_0 _ index seniors ready _ c.if-rec-k.false _ _ c.load.ensures c.contains.ensures c.if-contains.false
