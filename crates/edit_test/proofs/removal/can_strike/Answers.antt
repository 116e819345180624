-- The holders that were looked for are those of the direct permissions.
-- Assumes nothing.
use Rattle.model.specs.State.{roles_of}
use Rattle.edit_test.proofs.Removing.{permissions_told}
use Rattle.edit_test.proofs.removal.can_strike.Goals as goal

pub returns : goal.returns
returns c = let small = c.requires.k_bound in record {
  value = λ st lim e ix stands.
      c.removable.ensures st lim e (c.fill_holders.ensures.indexed (roles_of st) ix)
      (rw (permissions_told st _ lim e _ _ small c.load.ensures) at (c.fill_holders.ensures.holders_for st lim e)) stands;
  indexed = c.fill_holders.ensures.indexed;
}
