-- Each call of the closure answers how its row stands to x.
-- Assumes nothing.
use borrow.Author.Rules.{rules}
use Rattle.std.specs.Ordering.{nat_cmp}
use Rattle.std.proofs.lemmas.Fn.{always_returns_same}
use Rattle.sets.specs.Held.{set_of}
use Rattle.sets.specs.Words.{value}
use Rattle.tables.proofs.Searching.{searched}
use Rattle.tables.proofs.growing.search.Goals as goal

pub returns : goal.returns
returns c = let found = c.binary_search_by.ensures in
    searched _ _ c.requires.growing _ found.bound (found.position (λ ws. nat_cmp (value ws) (set_of c.args.x)) (always_returns_same _ _ _ (λ a r f called. search rules)))
