-- A meet that is x, in its slot, or empty.
-- Assumes nothing.
use mathlib.Core.Path.{sym, ◌∙◌}
use mathlib.Core.Logic.{◌⊎◌}
use borrow.Author.Tests.{eqb-true}
use Rattle.sets.proofs.Written.{words}
use Rattle.sets.proofs.Held.{equal_sets}
use Rattle.mining.proofs.Seeing.{known_empty, known_there}
use Rattle.mining.proofs.seen.is_known.Goals as goal
use Rattle.mining.proofs.seen.is_known.Goals.{then-eq, else-eq}

pub returns-then-eq-2 : goal.returns-then-eq-2
returns-then-eq-2 c = rw c.if-eq-2.true
    (elim c.if-eq.branch [
      | then-eq w ↦ ◌⊎◌.inl (eqb-true _ _ (sym (c.eq.ensures ∙ equal_sets c.args.y c.args.x (search words) (search words)) ∙ w.if-eq.true))
      | else-eq w ↦ known_there _ _ c.args.y _ _ c.told-seen w.slot_of.ensures (sym w.eq-else-eq.ensures ∙ sym w.value-is ∙ c.if-eq-2.true)
    ])

pub returns-else-eq-2 : goal.returns-else-eq-2
returns-else-eq-2 c = known_empty _ _ _ _ c.is_empty.ensures
