-- The test of each user is that of all.
-- Assumes nothing.
use borrow.Author.Rules.{rules}
use Rattle.sets.specs.Held.{set_of}
use Rattle.sets.proofs.Members.{item_below}
use Rattle.edit_test.specs.Covering.{user_covered, grants_covered}
use Rattle.edit_test.proofs.Walking.{all_items}
use Rattle.edit_test.proofs.walk.grants_covered.Goals as goal

pub returns : goal.returns
unfolding grants_covered
returns c = λ ρ a b. rw (c.difference-others.ensures, c.load.ensures) at
    (all_items _ _ ρ.users (set_of c.args.users) b (user_covered ρ (set_of c.difference-others.result) (set_of c.args.permissions))
    (λ x t q h k. let l = item_below ρ.users (set_of c.args.users) x b h in (search rules, search rules))
    c.items.result c.all.new.self _ c.items.ensures c.all.ensures.ran)
