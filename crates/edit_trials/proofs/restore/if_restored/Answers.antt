-- The neighbours of k are those of the building in which it stands, and the counts are corrected by what it brings and takes.
-- Assumes nothing.
use Rattle.edit_trials.proofs.Moving.{tried_neighbours, tried_within, tried_gained, tried_exact}
use Rattle.edit_trials.proofs.restore.if_restored.Goals as goal

pub corrected-requires : goal.corrected-requires
corrected-requires c = let given = c.requires.restorable in
    let around = tried_neighbours _ _ _ _ given _ _ c.load.ensures c.insert-standing.ensures _ _ c.among-links.ensures in
    let within = tried_within _ _ _ _ given _ _ around _ _ c.requires.exact c.lost-given.ensures in
    record { few = within.0; few_2 = c.gained-brought.ensures.few; within = within.1 }

pub returns : goal.returns
returns c = let given = c.requires.restorable in
    let around = tried_neighbours _ _ _ _ given _ _ c.load.ensures c.insert-standing.ensures _ _ c.among-links.ensures in
    let brought = tried_gained _ _ _ _ given _ _ c.load.ensures c.insert-standing.ensures _ _ around _ c.gained-brought.ensures.result_value in
    record {
      counts = tried_exact _ _ _ _ given _ _ around _ _ c.requires.exact c.lost-given.ensures _ _ brought c.corrected.ensures;
      neighbours = around;
    }
