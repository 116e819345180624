-- An item of a set is a bit of one word; past the width there is none.
-- Assumes nothing.
use borrow.Author.Rules.{rules}
use mathlib.Core.Path.{sym, ◌∙◌}
use Rattle.columns.proofs.Gathering.{inside, has-set_at, column_past}
use Rattle.columns.proofs.one.column.Goals as goal

pub returns-then-j : goal.returns-then-j
returns-then-j g c = c.empty.ensures ∙ column_past _ _ _ _ (λ i. (c.type_inv.table i).fits) (rw c.place_of-p.ensures.word_value at c.if-j.true)

pub gathered-requires-clause-callable : goal.gathered-requires-clause-callable
gathered-requires-clause-callable g c = λ i l. (inside _ i _ _ _ l c.if-j.false c.requires.n_in_bounds, search rules)

pub returns : goal.returns
returns g c = let p = c.place_of-p.ensures in
    c.gathered.ensures _
    (λ i t l q. rw (p.word_value, p.bit_value) at q ∙ sym (has-set_at _ _ _ _ (λ i. (c.type_inv.table i).fits) (rw p.word_value at c.if-j.false)))
