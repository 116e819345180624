-- The role that equals the row, and all below it.
-- Assumes nothing.
use mathlib.Core.Path.{◌≡◌, sym, ◌∙◌}
use mathlib.Core.Logic.{◌⊎◌}
use native.Mathlib.Omega.{arith}
use Rattle.sets.specs.Held.{set_of}
use Rattle.sets.proofs.Truth.{equal_or}
use Rattle.indexes.proofs.Sources.{own_none, own_missing, own_role, own_found}
use Rattle.indexes.proofs.Owning.{own_more}
use Rattle.indexes.proofs.own.own_roles.Goals as goal

pub returns-in_default : goal.returns-in_default
returns-in_default c = let row = c.args.row in
    let l = rw (c.in_default.is, c.as_rows.ensures.value, c.as_rows.ensures.count) at c.search.ensures in
    λ st crew n src lu own h.
    let z : set_of row ≡ 0 =
    equal_or (set_of row) 0 (λ e. e) (λ d. absurd (own_missing st crew n _ _ src _ _ lu own d c.in_default.field-0 l)) in
    (own_more st _ _ _ _ h (◌⊎◌.inl (sym own ∙ z)), c.empty-roles.ensures ∙ sym (own_none st crew n _ _ src _ _ lu own z))

pub learn-own-requires : goal.learn-own-requires
learn-own-requires c = let l = rw (c.in-Ok.is, c.as_rows.ensures.value, c.as_rows.ensures.count) at c.search.ensures in
    record { e_bound = omega arith; u_bound = c.requires.2 }

pub overflow_mul-e : goal.overflow_mul-e
overflow_mul-e c = let l = rw (c.in-Ok.is, c.as_rows.ensures.value, c.as_rows.ensures.count) at c.search.ensures in
    omega arith

pub load-requires : goal.load-requires
load-requires c = let l = rw (c.in-Ok.is, c.as_rows.ensures.value, c.as_rows.ensures.count) at c.search.ensures in
    omega arith

pub returns : goal.returns
returns c = let l = rw (c.in-Ok.is, c.as_rows.ensures.value, c.as_rows.ensures.count) at c.search.ensures in
    λ st crew n src lu own h.
    let role = own_role st crew n _ _ src _ _ lu own _ l.0 l.1 in
    let k = c.learn-own.ensures st crew n _ _ src l.0 lu role h in (
      own_more st _ _ _ _ k.0 (◌⊎◌.inr (_, k.1, role)),
      own_found st crew n _ _ src _ _ lu own _ l.0 l.1 _ (k.0.entries _ k.1).1 _ _ c.load.ensures c.insert-roles.ensures,
    )
