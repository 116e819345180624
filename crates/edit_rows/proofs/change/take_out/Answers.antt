-- The links of k are those that the table and the record hold.
-- Assumes nothing.
use Rattle.edit_rows.proofs.change.take_out.Goals as goal

pub returns : goal.returns
returns c = λ st ready stands. c.take_out_at.ensures st ready stands (c.read-links.ensures st _ ready)
