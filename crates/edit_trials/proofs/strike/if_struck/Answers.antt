-- The links of k are those that the table and the record hold, and the counts are corrected by what it has and what its neighbours take over.
-- Assumes nothing.
use Rattle.edit_trials.proofs.Leaving.{struck_within, struck_exact}
use Rattle.edit_trials.proofs.strike.if_struck.Goals as goal

pub corrected-requires : goal.corrected-requires
corrected-requires c = let ready = c.requires.ready in
    let within = struck_within _ _ _ _ ready _ c.requires.so _ _ (c.read-links.ensures _ _ ready) _ _ _ _ _ c.requires.exact c.load-members.ensures c.load-permissions.ensures c.role_counts-had.ensures.result_value c.taken-given.ensures.result_value in
    record { few = within.0; few_2 = c.taken-given.ensures.few; within = within.1 }

pub returns : goal.returns
returns c = let ready = c.requires.ready in
    let around = c.read-links.ensures _ _ ready in
    record {
      counts = struck_exact _ _ _ _ ready _ c.requires.so _ _ around _ _ _ _ _ c.requires.exact c.load-members.ensures c.load-permissions.ensures c.role_counts-had.ensures.result_value
          c.taken-given.ensures.result_value _ c.corrected.ensures;
      neighbours = around;
    }
