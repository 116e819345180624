-- What the walk over users and permissions tells of one grant and of one user; and that it decides what is strikable.
-- Assumes nothing.
use mathlib.Core.Path.{◌≡◌, refl, ◌∙◌, ap}
use mathlib.Core.Bool.{Bool, true, false, So, not}
use mathlib.Core.Logic.{◌↔◌}
use mathlib.Core.List.{List}
use Prim.Native.Nat.{ℕ, ◌+◌, ◌*◌, ◌^◌, ◌<◌}
use lib.Dec.{eqb}
use lib.ListN.{get_or}
use Rattle.sets.specs.Truth.{◌implies◌, isnt}
use Rattle.sets.specs.Sets.{has, ◌∩◌, ◌∖◌, single}
use Rattle.sets.proofs.Truth.{same_test, So-not, isnt_iff, implies_iff, eqb_iff}
use Rattle.sets.proofs.Members.{has-zero, empty_of}
use Rattle.sets.proofs.Order.{∩-iff, ∩-lt, ∩-comm}
use Rattle.model.specs.Lists.{set_at}
use Rattle.model.specs.Hierarchy.{Roles, candidate_count, direct_members, direct_permissions}
use Rattle.model.specs.Coverage.{grant, covered, strikable}
use Rattle.model.specs.Record.{crew_start}
use Rattle.model.specs.Indexes.{roles_of_user, roles_of_permission}
use Rattle.model.proofs.Reading.{Ordered, member_iff, permission_iff}
use Rattle.model.proofs.Spared.{strikable_direct}
use Rattle.model.proofs.Shortcuts.{covered_index}
use Rattle.indexes.specs.declared.index.Index.{Index}
use Rattle.edit_test.specs.Covering.{each, user_covered, grants_covered, Asked}
use Rattle.edit_test.proofs.Walking.{each_iff}

-- ---- one grant

-- a grant is bare where no role of s holds both
pub bare_test : (ρ : Roles) (s u p own held : ℕ) → own ≡ roles_of_user ρ u ∩ s → held ≡ roles_of_permission ρ p → eqb (own ∩ held) 0 ≡ isnt (covered ρ s u p)
bare_test ρ s u p own held eo eh =
    same_test (eqb (own ∩ held) 0) (isnt (covered ρ s u p))
    (λ z. (isnt_iff (covered ρ s u p)).1 (λ h. let w = (covered_index ρ s u p).0 h in So-not (has-zero w.0) (rw ((eqb_iff (own ∩ held) 0).0 z) at (inside.1 w.0 w.1))))
    (λ h. (eqb_iff (own ∩ held) 0).1 (empty_of (own ∩ held) (λ k t. (isnt_iff (covered ρ s u p)).0 h ((covered_index ρ s u p).1 (k, inside.0 k t)))))
  where
    inside : ((k : ℕ) → So (has (own ∩ held) k) → So (has (roles_of_user ρ u ∩ roles_of_permission ρ p ∩ s) k))
        × ((k : ℕ) → So (has (roles_of_user ρ u ∩ roles_of_permission ρ p ∩ s) k) → So (has (own ∩ held) k))
    inside = (
      λ k t.
          let a = (∩-iff own held k).0 t in
          let b = (∩-iff (roles_of_user ρ u) s k).0 (rw eo at a.0) in
          (∩-iff (roles_of_user ρ u ∩ roles_of_permission ρ p) s k).1 ((∩-iff (roles_of_user ρ u) (roles_of_permission ρ p) k).1 (b.0, rw eh at a.1), b.1),
      λ k t.
          let a = (∩-iff (roles_of_user ρ u ∩ roles_of_permission ρ p) s k).0 t in
          let b = (∩-iff (roles_of_user ρ u) (roles_of_permission ρ p) k).0 a.0 in
          (∩-iff own held k).1 (rw eo ((∩-iff (roles_of_user ρ u) s k).1 (b.0, a.1)), rw eh b.1),
    )

-- the test of the code, and of the contract
pub not_isnt : (t : Bool) → not t ≡ isnt t
unfolding isnt
not_isnt true = refl
not_isnt false = refl

isnt_twice : (t : Bool) → isnt (isnt t) ≡ t
unfolding isnt
isnt_twice true = refl
isnt_twice false = refl

-- ---- one user. `asked` are the permissions of ps that u has, `own` are the roles of s that u has

module _ (ws : List ℕ) (index : Index) (ps s u : ℕ) (ρ : Roles) (a : Asked ρ ws index ps) (lu : u < ρ.users) where
  module _ (row asked : ℕ) (er : row ≡ set_at 4 ws (crew_start + 4 * u)) (ea : asked ≡ ps ∩ row) where
    granted : row ≡ get_or ρ.granted u 0
    granted = er ∙ a.crew_rows u lu

    pub asked_small : asked < 2 ^ ρ.permissions
    asked_small = rw (ea ∙ ∩-comm ps row) (∩-lt ρ.permissions row ps a.permissions_below)

    pub asked_all : each ρ.permissions asked (λ p. covered ρ s u p) ≡ user_covered ρ s ps u
    unfolding user_covered grant
    asked_all =
        same_test (each ρ.permissions asked (λ p. covered ρ s u p)) (user_covered ρ s ps u)
        (λ h. (each_iff ρ.permissions ps (λ p. grant ρ u p implies covered ρ s u p)).1
        (λ p l t.
        (implies_iff (grant ρ u p) (covered ρ s u p)).1
        (λ g. (each_iff ρ.permissions asked (λ p. covered ρ s u p)).0 h p l (rw ea ((∩-iff ps row p).1 (t, rw granted g))))))
        (λ h. (each_iff ρ.permissions asked (λ p. covered ρ s u p)).1
        (λ p l t.
        let b = (∩-iff ps row p).0 (rw ea at t) in
        (implies_iff (grant ρ u p) (covered ρ s u p)).0 ((each_iff ρ.permissions ps (λ p. grant ρ u p implies covered ρ s u p)).0 h p l b.0) (rw granted at b.1)))

    -- one of u's roles holds a permission that is asked for where the grant is covered
    pub held_covered : (all own p : ℕ) (t : Bool) → all ≡ set_at 2 index.roles (2 * u) → own ≡ all ∩ s → So (has asked p)
        → t ≡ isnt (eqb (own ∩ set_at 2 index.holders (2 * p)) 0) → t ≡ covered ρ s u p
    held_covered all own p t el eo h et =
        let there = ((∩-iff ps row p).0 (rw ea at h)).0 in
        let held = set_at 2 index.holders (2 * p) in
        let own-roles : all ≡ roles_of_user ρ u = el ∙ a.user_roles u lu in
        let holding : held ≡ roles_of_permission ρ p = a.permission_roles p there in
        et ∙ ap isnt (bare_test ρ s u p own held (eo ∙ ap (λ (x : ℕ). x ∩ s) own-roles) holding) ∙ isnt_twice (covered ρ s u p)

-- ---- what it decides

pub grants_covered_iff : (ρ : Roles) (s us ps : ℕ)
    → So (grants_covered ρ s us ps)
    ↔ ((u p : ℕ) → u < ρ.users → p < ρ.permissions → So (has us u) → So (has ps p) → So (grant ρ u p) → So (covered ρ s u p))
unfolding grants_covered user_covered
grants_covered_iff ρ s us ps = (
  λ h u p lu lp tu tp g.
      (implies_iff (grant ρ u p) (covered ρ s u p)).0
      ((each_iff ρ.permissions ps (λ p. grant ρ u p implies covered ρ s u p)).0 ((each_iff ρ.users us (user_covered ρ s ps)).0 h u lu tu) p lp tp) g,
  λ f.
      (each_iff ρ.users us (user_covered ρ s ps)).1
      (λ u lu tu.
      (each_iff ρ.permissions ps (λ p. grant ρ u p implies covered ρ s u p)).1
      (λ p lp tp. (implies_iff (grant ρ u p) (covered ρ s u p)).1 (f u p lu lp tu tp))),
)

-- a standing role is strikable exactly where the walk over its direct members and direct permissions, with itself left out, meets no bare grant
pub covered-strikable : (ρ : Roles) (R k : ℕ) → Ordered ρ R → k < candidate_count ρ → So (has R k)
    → grants_covered ρ (R ∖ single k) (direct_members ρ R k) (direct_permissions ρ R k) ≡ strikable ρ R k
covered-strikable ρ R k o lk stands =
    let us = direct_members ρ R k in
    let ps = direct_permissions ρ R k in
    same_test (grants_covered ρ (R ∖ single k) us ps) (strikable ρ R k)
    (λ h.
    (strikable_direct ρ R o k).1
    (stands, λ u p mu mp g. (grants_covered_iff ρ (R ∖ single k) us ps).0 h u p ((member_iff ρ R k u).0 mu).0 ((permission_iff ρ R k p).0 mp).0 mu mp g))
    (λ h. (grants_covered_iff ρ (R ∖ single k) us ps).1 (λ u p lu lp mu mp g. ((strikable_direct ρ R o k).0 h).1 u p mu mp g))
