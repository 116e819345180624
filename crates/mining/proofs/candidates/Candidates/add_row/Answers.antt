-- An empty row and one that is there add nothing.
-- Assumes nothing.
use mathlib.Core.Path.{sym, ◌∙◌}
use mathlib.Core.Logic.{◌≢◌}
use borrow.Author.Tests.{eqb-true, eqb-false}
use Rattle.sets.specs.Held.{set_of}
use Rattle.model.proofs.Candidates.{add_empty, add_listed}
use Rattle.model.proofs.Growing.{place_new, place_growing}
use Rattle.mining.proofs.Placing.{found_listed}
use Rattle.mining.proofs.Meeting.{add_placed, row_full}
use Rattle.mining.proofs.candidates.Candidates.add_row.Goals as goal
use Rattle.mining.proofs.candidates.Candidates.add_row.Goals.{Else-is_empty}

nonempty : (c : Else-is_empty) → set_of c.args.r ≢ 0
nonempty c = eqb-false _ _ (sym c.is_empty.ensures ∙ c.if-is_empty.false)

pub returns-then-is_empty : goal.returns-then-is_empty
returns-then-is_empty c = rw (eqb-true _ _ (sym c.is_empty.ensures ∙ c.if-is_empty.true)) (sym (add_empty _))

pub returns-in_default : goal.returns-in_default
returns-in_default c = sym (add_listed c.requires (found_listed _ _ (rw c.in_default.is at c.find.ensures.place)))

pub returns-in_err-put : goal.returns-in_err-put
returns-in_err-put c = rw c.from_residual.ensures (row_full _ _ (nonempty (goal.at.returns-in_err-put c).Else-is_empty) c.in_err-put.ensures)

pub add_meets-requires-clause-grows : goal.add_meets-requires-clause-grows
add_meets-requires-clause-grows c = rw c.in_ok-put.ensures (place_growing _ _ c.requires.grows)

pub add_meets-requires-clause-there : goal.add_meets-requires-clause-there
add_meets-requires-clause-there c = rw c.in_ok-put.ensures (place_new _ _)

pub returns : goal.returns
returns c = rw (add_placed _ _ c.requires.grows (nonempty (goal.at.returns c).Else-is_empty)) at (rw c.in_ok-put.ensures at c.add_meets.ensures)
