-- The line of a role that stands, and nothing else.
-- Assumes nothing.
use Rattle.sets.proofs.Telling.{as_told}
use mathlib.Core.Path.{◌∙◌, ap}
use Rattle.sets.specs.Sets.{has}
use Rattle.text_roles.proofs.Puts.{standing_put, absent_put}
use Rattle.text_roles.proofs.lines.put_standing.Goals as goal

pub returns-else-contains : goal.returns-else-contains
returns-else-contains c =
    let made = absent_put _ _ _ _
    (as_told (c.contains.ensures ∙ ap (λ s. has s c.args.k) c.load.ensures) c.if-contains.false) in
    record { value = made.0; out_after = made.1 }

pub returns-then-contains : goal.returns-then-contains
returns-then-contains c =
    let made = standing_put _ _ _ _ _ _ (as_told (c.contains.ensures ∙ ap (λ s. has s c.args.k) c.load.ensures) c.if-contains.true)
    (c.put_line.ensures.value, c.put_line.ensures.out_after) in
    record { value = made.0; out_after = made.1 }
