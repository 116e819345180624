-- The entry is that of the building, by the seniors that the table holds.
-- Assumes nothing.
use mathlib.Core.Path.{sym, ◌∙◌}
use Prim.Native.Nat.{◌^◌, ◌<◌}
use Rattle.sets.proofs.Truth.{eqb_iff}
use Rattle.sets.proofs.Written.{words}
use Rattle.sets.specs.Held.{set_of}
use Rattle.sets.proofs.Held.{held128, equal_sets}
use Rattle.rows.proofs.Rewriting.{lower_computed}
use Rattle.rows_check.proofs.lower.lower_matches.Goals as goal
use Rattle.rows_check.proofs.lower.lower_matches.Goals.{After-load-above}

small : (c : After-load-above) → set_of c.load-above.result < 2 ^ 128
small c = search (words, held128)

pub returns : goal.returns
returns c = λ st to linked held.
    let e = lower_computed st _ _ _ to _ _ _ _ c.requires.j_bound c.load-above.ensures (small (goal.at.returns c).After-load-above) c.members_of-members.ensures linked held in (
      λ t. sym c.load.ensures ∙ (eqb_iff _ _).0 (sym (c.eq.ensures ∙ equal_sets c.load.result c.members_of-members.result (search words) (search words)) ∙ t) ∙ e,
      λ u. (c.eq.ensures ∙ equal_sets c.load.result c.members_of-members.result (search words) (search words)) ∙ (eqb_iff _ _).1 (c.load.ensures ∙ u ∙ sym e),
    )
