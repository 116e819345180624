-- The entry of the row is that of the new building, by the seniors that the table holds.
-- Assumes nothing.
use Prim.Native.Nat.{◌^◌, ◌<◌}
use Rattle.sets.specs.Held.{set_of}
use Rattle.sets.proofs.Written.{words}
use Rattle.sets.proofs.Held.{held128}
use Rattle.rows.proofs.Rewriting.{lower_rewritten}
use Rattle.rows.proofs.lower.rewrite_lower.Goals as goal
use Rattle.rows.proofs.lower.rewrite_lower.Goals.{After-load-above}

small : (c : After-load-above) → set_of c.load-above.result < 2 ^ 128
small c = search (words, held128)

pub returns : goal.returns
returns c = λ old st p t to l q. lower_rewritten old st p t _ _ _ to _ _ _ _ _ c.requires.j_bound c.load-above.ensures (small (goal.at.returns c).After-load-above) c.members_of-members.ensures
    c.store.ensures l q
