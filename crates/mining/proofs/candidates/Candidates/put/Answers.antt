-- There are 128 sets, or one more is put in.
-- Assumes nothing.
use Rattle.mining.proofs.Placing.{place_inside, new_full, new_sets, new_gathered}
use Rattle.mining.proofs.candidates.Candidates.put.Goals as goal

pub returns-then-self-eq-LIMIT : goal.returns-then-self-eq-LIMIT
returns-then-self-eq-LIMIT c = new_full _ _ c.self.view_is c.requires c.if-self-eq-LIMIT.true

pub insert-requires-clause-at_le_n : goal.insert-requires-clause-at_le_n
insert-requires-clause-at_le_n c = place_inside _ _ c.self.view_is c.requires

pub invariant_of-self : goal.invariant_of-self
invariant_of-self c = new_gathered _ _ c.self.view_is c.requires c.insert.ensures c.self.invariant c.if-self-eq-LIMIT.false

pub returns : goal.returns
returns c = new_sets _ _ c.self.view_is c.requires c.insert.ensures
