-- No roles, the row itself, or nothing left of the row without the sets of the maximal roles.
-- Assumes nothing.
use borrow.Author.Rules.{rules}
use mathlib.Core.Path.{sym, ◌∙◌, ap}
use Prim.Native.Nat.{ℕ}
use lib.Dec.{eqb}
use Rattle.sets.proofs.Truth.{So-not, eqb_iff}
use Rattle.model.specs.Indexes.{maximal}
use Rattle.model.specs.State.{roles_of}
use Rattle.indexes.proofs.Sources.{numbered}
use Rattle.records.proofs.Covering.{user_roles_lt, empty_test, whole_test, user_test}
use Rattle.sets.proofs.Held.{equal_sets}
use Rattle.sets.proofs.Written.{words}
use Rattle.records.proofs.cover.user_covered.Goals as goal

pub returns-then-is_empty : goal.returns-then-is_empty
returns-then-is_empty c = λ st crew n c' u src low lu own roles.
    c.is_empty-then-is_empty.ensures ∙ empty_test st crew n _ c' src u _ _ lu own roles ((eqb_iff _ _).0 (sym c.is_empty.ensures ∙ c.if-is_empty.true))

pub highest_item-requires : goal.highest_item-requires
highest_item-requires c = (search rules, (search rules, λ e. So-not c.if-is_empty.false (c.is_empty.ensures ∙ (eqb_iff _ _).1 e)))

pub returns-then-eq : goal.returns-then-eq
returns-then-eq c = λ st crew n c' u src low lu own roles.
    whole_test st crew n _ c' src u _ _ _ _ own roles c.highest_item.ensures.there c.load.ensures ((eqb_iff _ _).0 (sym (c.eq.ensures ∙ equal_sets c.load.result c.args.row (search words) (search words)) ∙ c.if-eq.true))

pub returns : goal.returns
returns c = λ st crew n c' u src low lu own roles.
    let js = c.maximal_of.ensures (roles_of st) (numbered st src.limits) low (rw roles (user_roles_lt st crew n _ c' src u)) in
    c.is_empty-2.ensures ∙ ap (λ (x : ℕ). eqb x 0) c.less.ensures
    ∙ user_test st crew n _ c' src u _ _ lu own (js ∙ ap (maximal (roles_of st)) roles)
