-- The links of k are those of the building in which it stands again.
-- Assumes nothing.
use Rattle.edit_rows.proofs.Changing.{put_found}
use Rattle.edit_rows.proofs.change.put_back.Goals as goal

pub returns : goal.returns
returns c = λ st ready lk absent. c.put_back_at.ensures st ready lk absent
    (put_found st ready.limits _ _ ready.afresh ready.indexed _ c.requires.k_bound _ _ c.load.ensures c.insert-standing.ensures lk _ _ c.among-links.ensures)
