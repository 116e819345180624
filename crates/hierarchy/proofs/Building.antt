-- A role's row, told by tables: the laws that the functions of rows.rt cite.
-- Assumes nothing.
use mathlib.Core.Path.{◌≡◌, sym, ◌∙◌, ap}
use mathlib.Core.Bool.{Bool, true, false, So, not}
use mathlib.Core.Logic.{◌↔◌}
use mathlib.Core.List.{List}
use Prim.Native.Nat.{ℕ, ◌*◌, ◌^◌, ◌<◌}
use native.Mathlib.Nat.{lt_of_lt_of_le}
use borrow.Author.Tests.{not-true, not-false}
use Rattle.sets.specs.Sets.{has, ◌∩◌}
use Rattle.sets.proofs.Truth.{So-not}
use Rattle.sets.proofs.Members.{same_set, item_below}
use Rattle.sets.proofs.Order.{collect_iff, ∩-lt}
use Rattle.model.specs.Lists.{set_at}
use Rattle.model.specs.Hierarchy.{Roles, candidate_count, permission_set, authorised_users, immediate_juniors, direct_permissions, direct_members}
use Rattle.model.specs.Indexes.{lower, maximal}
use Rattle.model.proofs.Reading.{Ordered, user_iff, junior_iff, permission_iff}
use Rattle.model.proofs.Building.{stands_below}
use Rattle.model.proofs.Shortcuts.{juniors_maximal, permission_immediate, member_immediate}
use Rattle.tables.specs.Tables.{HoldsSets}
use Rattle.hierarchy.specs.Tables.{Numbered, Narrow, less_all, immediate_seniors}
use Rattle.hierarchy.proofs.Sieving.{less_all_iff}

pub ordered : (ρ : Roles) (R : ℕ) → Numbered ρ → R < 2 ^ candidate_count ρ → Ordered ρ R
ordered ρ R n b = record { lower = n.lower; below = b }

-- what a test for standing tells
pub absent : (t : Bool) (R k : ℕ) → t ≡ has R k → not t ≡ true → So (has R k) → ⊥
absent t R k e h = So-not (sym e ∙ not-true t h)

pub stands : (t : Bool) (R k : ℕ) → t ≡ has R k → not t ≡ false → So (has R k)
stands t R k e h = sym e ∙ not-false t h

-- ---- juniors

pub juniors_found : (ρ : Roles) (R k x s r : ℕ) (index : List ℕ) → Numbered ρ → HoldsSets 2 (candidate_count ρ) (lower ρ) index → R < 2 ^ candidate_count ρ → So (has R k)
    → x ≡ set_at 2 index (2 * k) → s ≡ x ∩ R → (s < 2 ^ candidate_count ρ → r ≡ maximal ρ s) → r ≡ immediate_juniors ρ R k
juniors_found ρ R k x s r index n h b t ex es m =
    let o = ordered ρ R n b in
    let e : s ≡ lower ρ k ∩ R = es ∙ ap (λ (y : ℕ). y ∩ R) (ex ∙ h k (stands_below ρ R o k t)) in
    m (rw e (∩-lt (candidate_count ρ) (lower ρ k) R b)) ∙ ap (maximal ρ) e ∙ sym (juniors_maximal ρ R k o t)

-- ---- permissions

pub permissions_found : (ρ : Roles) (R k x js : ℕ) (table : List ℕ) → Numbered ρ → Narrow ρ → HoldsSets 4 (candidate_count ρ) (permission_set ρ) table
    → R < 2 ^ candidate_count ρ → So (has R k) → x ≡ set_at 4 table (4 * k) → js ≡ immediate_juniors ρ R k
    → less_all 4 table x js ≡ direct_permissions ρ R k
permissions_found ρ R k x js table n w h b t ex ej =
    let o = ordered ρ R n b in
    let lk = stands_below ρ R o k t in
    let own : x ≡ permission_set ρ k = ex ∙ h k lk in
    same_set (less_all 4 table x js) (direct_permissions ρ R k)
    (λ p y.
    let a = (less_all_iff 4 table x js p).0 y in
    let hp : So (has (permission_set ρ k) p) = rw own at a.1 in
    let lp = item_below ρ.permissions (permission_set ρ k) p (w.inside k lk) hp in
    (permission_immediate ρ R o k p lp t).1 (
      hp,
      λ j q z.
          let lj = ((junior_iff ρ R k j).0 q).0 in
          a.2 j (lt_of_lt_of_le lj n.few) (rw ej q) (rw (h j lj) z),
    ))
    (λ p y.
    let lp = ((permission_iff ρ R k p).0 y).0 in
    let a = (permission_immediate ρ R o k p lp t).0 y in
    (less_all_iff 4 table x js p).1 (
      lt_of_lt_of_le lp w.few_permissions,
      rw own a.0,
      λ j l q z.
          let qj : So (has (immediate_juniors ρ R k) j) = rw ej at q in
          a.1 j qj (rw (h j ((junior_iff ρ R k j).0 qj).0) at z),
    ))

-- ---- members

pub members_found : (ρ : Roles) (R k x is : ℕ) (users : List ℕ) → Numbered ρ → Narrow ρ → HoldsSets 2 (candidate_count ρ) (authorised_users ρ) users
    → R < 2 ^ candidate_count ρ → So (has R k) → x ≡ set_at 2 users (2 * k) → is ≡ immediate_seniors ρ R k
    → less_all 2 users x is ≡ direct_members ρ R k
members_found ρ R k x is users n w h b t ex ei =
    let o = ordered ρ R n b in
    let lk = stands_below ρ R o k t in
    let own : x ≡ authorised_users ρ k = ex ∙ h k lk in
    let senior_iff : (i : ℕ) → So (has is i) ↔ ((i < candidate_count ρ) × So (has (immediate_juniors ρ R i) k)) =
    λ i. rw ei (collect_iff (candidate_count ρ) (λ i. has (immediate_juniors ρ R i) k) i) in
    same_set (less_all 2 users x is) (direct_members ρ R k)
    (λ u y.
    let a = (less_all_iff 2 users x is u).0 y in
    (member_immediate ρ R o k u t).1
    (rw own at a.1, λ i l q z. a.2 i (lt_of_lt_of_le l n.few) ((senior_iff i).1 (l, q)) (rw (h i l) z)))
    (λ u y.
    let a = (member_immediate ρ R o k u t).0 y in
    (less_all_iff 2 users x is u).1 (
      lt_of_lt_of_le ((user_iff ρ k u).0 a.0).0 w.few_users,
      rw own a.0,
      λ i l q z.
          let d = (senior_iff i).0 q in a.1 i d.0 d.1 (rw (h i d.0) at z),
    ))
