-- An item of the difference is not in the set that was taken out.
-- Assumes nothing.
use Rattle.sets.proofs.Truth.{eqb_iff}
use Rattle.sets.proofs.Order.{∖-iff, disjoint_iff}
use Rattle.test_sets.proofs.apart.Goals as goal

pub returns : goal.returns
returns c = rw (c.is_empty.ensures, c.intersection.ensures, c.difference.ensures)
    ((eqb_iff _ 0).1 ((disjoint_iff _ _).1 (λ i x y. ((∖-iff _ _ i).0 x).1 y)))
