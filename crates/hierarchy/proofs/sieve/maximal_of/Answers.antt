-- The maximal roles of s are those found, and the maximal ones of the rest.
-- Assumes nothing.
use Rattle.hierarchy.proofs.Sieving.{sieved_start, sieved_more, sieved_all, fewer_both}
use Rattle.hierarchy.proofs.sieve.maximal_of.Goals as goal

pub loop-k-init : goal.loop-k-init
loop-k-init c = sieved_start _ _ _ c.empty-found.ensures

pub loop-k-smaller : goal.loop-k-smaller
loop-k-smaller c = rw (c.remove-rest.ensures, c.difference.ensures) (fewer_both _ _ _ c.in-Some.ensures.told.there)

pub loop-k-preserved : goal.loop-k-preserved
loop-k-preserved c = sieved_more _ _ _ _ _ _ _ _ _ c.loop-k.invariant c.in-Some.ensures.told c.insert-found.ensures c.load.ensures
    c.difference.ensures c.remove-rest.ensures

pub returns : goal.returns
returns c = sieved_all _ _ _ _ c.loop-k.invariant c.in_default.ensures.told
