-- The test of each permission that is asked for is that of all.
-- Assumes nothing.
use borrow.Author.Rules.{rules}
use mathlib.Core.Path.{◌∙◌}
use Rattle.sets.specs.Held.{set_of}
use Rattle.model.specs.Coverage.{covered}
use Rattle.edit_test.proofs.Covering.{asked_small, asked_all, held_covered}
use Rattle.edit_test.proofs.Walking.{all_items}
use Rattle.edit_test.proofs.walk.user_covered.Goals as goal

pub returns : goal.returns
returns c = λ ρ a lu. let row = c.load-2.ensures in
    let asked = c.intersection-asked.ensures in
    all_items _ _ ρ.permissions _ (asked_small _ _ _ (set_of c.args.roles) _ ρ a lu _ _ row asked) (covered ρ (set_of c.args.roles) c.args.u)
    (λ x t q h k. (search rules, held_covered _ _ _ _ _ ρ a lu _ _ row asked _ _ _ _ c.load.ensures c.intersection-own.ensures h (search rules)))
    c.items.result c.all.new.self _ c.items.ensures c.all.ensures.ran
    ∙ asked_all _ _ _ _ _ ρ a lu _ _ row asked
