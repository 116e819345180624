-- The lowest item is given, and the others are left: so fewer are.
-- Assumes nothing.
use borrow.Author.Rules.{rules}
use Rattle.sets.proofs.Taken.{fewer_left}
use Rattle.sets.proofs.items.ItemsIterator.next.Goals as goal

pub returns-in_err-item-clause-steps : goal.returns-in_err-item-clause-steps
returns-in_err-item-clause-steps g c = let z = c.in_err-item.ensures.told in rw c.from_residual.ensures (z, z)

pub returns-clause-steps : goal.returns-clause-steps
returns-clause-steps g c = (c.in_ok-item.ensures.told, c.remove-self.ensures)

pub returns-clause-goes : goal.returns-clause-goes
returns-clause-goes g c = let few = fewer_left _ _ _ _ c.in_ok-item.ensures.told c.remove-self.ensures in search rules
