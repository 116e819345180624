-- The test of each role that is reached is that of all.
-- Assumes nothing.
use borrow.Author.Rules.{rules}
use Prim.Native.Nat.{◌*◌}
use Rattle.sets.specs.Held.{set_of}
use Rattle.sets.specs.Sets.{has}
use Rattle.model.specs.Lists.{set_at}
use Rattle.access.proofs.Search.{any_items}
use Rattle.access.proofs.rights.some_has.Goals as goal

pub returns : goal.returns
returns c =
    any_items _ _ (set_of c.args.roles) (λ j. has (set_at 4 c.args.permissions.now (4 * j)) c.args.p)
    (λ x t q h k. (search rules, search rules))
    c.items.result c.any.new.self _ c.items.ensures c.any.ensures.ran
