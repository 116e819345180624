-- What is in a slot from now on is there.
-- Assumes nothing.
use Rattle.model.proofs.Growing.{place_new}
use Rattle.mining.proofs.Seeing.{seen_more}
use Rattle.mining.proofs.candidates.Candidates.admit.Goals as goal

pub invariant_of-self : goal.invariant_of-self
invariant_of-self c = let inv = c.self.invariant in
    record {
      few = inv.few;
      words = inv.words;
      rest = inv.rest;
      grows = inv.grows;
      seen = seen_more inv.seen _ (rw (c.self.view_is, c.in_ok-place.ensures) (place_new _ _)) c.remember.ensures;
    }
