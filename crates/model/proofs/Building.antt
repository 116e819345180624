-- The building of a standing set: no chain returns to its start, no link could be replaced by a chain, every senior and junior are joined
-- by a chain, and authorised means covered.
-- Assumes nothing.
use mathlib.Core.Path.{◌≡◌, refl, sym}
use mathlib.Core.Bool.{Bool, So}
use mathlib.Core.Logic.{◌↔◌, ◌≢◌, ◌⊎◌, ⊎_elim}
use Prim.Native.Nat.{ℕ, zero, suc, ◌+◌, ◌-◌, ◌<◌}
use native.Mathlib.Nat.{lt_irrefl}
use native.Mathlib.Omega.{arith}
use lib.ListN.{get_or}
use Rattle.sets.specs.Truth.{◌and◌}
use Rattle.sets.specs.Sets.{has}
use Rattle.sets.proofs.Truth.{and_iff, find}
use Rattle.sets.proofs.Members.{item_below, empty_of}
use Rattle.sets.proofs.Order.{subset_iff, subset_trans, proper_subset_lem, proper_trans}
use Rattle.model.specs.Hierarchy.{Roles, candidate_count, permission_set, authorised_users, senior, immediately_senior, immediate_juniors, direct_permissions, direct_members, building}
use Rattle.model.specs.Chains.{link, Chain, links_but, Reaches, may, HasMember, HasPermission}
use Rattle.model.specs.Chains.Chain.{one, more}
use Rattle.model.specs.Coverage.{grant, covered, all_covered}
use Rattle.model.proofs.Direct.{direct_absent, Side, last_direct}
use Rattle.model.proofs.Reading.{Ordered, user_iff, covers_iff, covered_iff, all_covered_iff, senior_iff, immediate_iff, junior_iff, permission_iff, member_iff}
use Rattle.model.proofs.Chains.{RoleRowsBelow, links_but_iff, chain_append, may_iff}

-- "Roles outside R have zero rows"
module _ (ρ : Roles) (R k : ℕ) (absent : So (has R k) → ⊥) where
  pub absent_juniors : immediate_juniors ρ R k ≡ 0
  absent_juniors =
      empty_of (immediate_juniors ρ R k) (λ j t. absent ((senior_iff ρ R k j).0 ((immediate_iff ρ R k j).0 ((junior_iff ρ R k j).0 t).1).0).0)

  pub absent_permissions : direct_permissions ρ R k ≡ 0
  unfolding direct_permissions
  absent_permissions = direct_absent ρ.permissions (candidate_count ρ) R (λ j k. senior ρ R k j) (permission_set ρ) k absent

  pub absent_members : direct_members ρ R k ≡ 0
  unfolding direct_members
  absent_members = direct_absent ρ.users (candidate_count ρ) R (senior ρ R) (authorised_users ρ) k absent

module _ (ρ : Roles) (R : ℕ) (o : Ordered ρ R) where
  pub stands_below : (k : ℕ) → So (has R k) → k < candidate_count ρ
  stands_below k h = item_below (candidate_count ρ) R k o.below h

  -- ---- senior is an order in which a junior has a lower number

  pub senior_trans : (k i j : ℕ) → So (senior ρ R k i) → So (senior ρ R i j) → So (senior ρ R k j)
  senior_trans k i j p q =
      let a = (senior_iff ρ R k i).0 p in
      let b = (senior_iff ρ R i j).0 q in
      (senior_iff ρ R k j).1 (a.0, b.1, proper_trans (permission_set ρ j) (permission_set ρ i) (permission_set ρ k) b.2 a.2)

  pub senior_lower : (k j : ℕ) → So (senior ρ R k j) → j < k
  senior_lower k j h = let a = (senior_iff ρ R k j).0 h in o.lower j k (stands_below j a.1) (stands_below k a.0) a.2

  pub senior_differs : (k j : ℕ) → So (senior ρ R k j) → k ≢ j
  senior_differs k j h e = lt_irrefl j (rw e at (senior_lower k j h))

  pub senior_stands : (k j : ℕ) → So (senior ρ R k j) → So (has R k) × So (has R j)
  senior_stands k j h = let a = (senior_iff ρ R k j).0 h in (a.0, a.1)

  -- what a junior holds its senior holds, and whom a senior serves its junior serves
  pub senior_permission : (k j p : ℕ) → So (senior ρ R k j) → So (has (permission_set ρ j) p) → So (has (permission_set ρ k) p)
  senior_permission k j p h t =
      (subset_iff (permission_set ρ j) (permission_set ρ k)).0 (proper_subset_lem (permission_set ρ j) (permission_set ρ k) ((senior_iff ρ R k j).0 h).2) p t

  pub senior_user : (k j u : ℕ) → So (senior ρ R k j) → So (has (authorised_users ρ k) u) → So (has (authorised_users ρ j) u)
  senior_user k j u h t =
      let a = (user_iff ρ k u).0 t in
      (user_iff ρ j u).1 (
        a.0,
        subset_trans (permission_set ρ j) (permission_set ρ k) (get_or ρ.possible u 0)
            (proper_subset_lem (permission_set ρ j) (permission_set ρ k) ((senior_iff ρ R k j).0 h).2) a.1,
      )

  -- the two sides of the building: juniors take permissions from a role, seniors take members
  pub juniors_side : Side (candidate_count ρ) R (λ j k. senior ρ R k j) (permission_set ρ)
  juniors_side =
      record {
        below = stands_below;
        stands = λ j k h. let a = senior_stands k j h in (a.1, a.0);
        trans = λ i j k p q. senior_trans k j i q p;
        holds = λ j k p. senior_permission k j p;
        height = λ k. k;
        falls = λ j k. senior_lower k j;
      }

  pub seniors_side : Side (candidate_count ρ) R (senior ρ R) (authorised_users ρ)
  seniors_side =
      record {
        below = stands_below;
        stands = senior_stands;
        trans = senior_trans;
        holds = senior_user;
        height = λ k. candidate_count ρ - k;
        falls = λ i k h. let l = senior_lower i k h in let b = stands_below i (senior_stands i k h).0 in omega arith;
      }

  -- ---- links and chains

  pub link_iff : (k j : ℕ) → So (link (building ρ R) k j) ↔ So (immediately_senior ρ R k j)
  unfolding link building
  link_iff k j =
      (λ h. ((junior_iff ρ R k j).0 h).1, λ h. (junior_iff ρ R k j).1 (stands_below j (senior_stands k j ((immediate_iff ρ R k j).0 h).0).1, h))

  pub link_senior : (k j : ℕ) → So (link (building ρ R) k j) → So (senior ρ R k j)
  link_senior k j h = ((immediate_iff ρ R k j).0 ((link_iff k j).0 h)).0

  -- over any part of the links
  pub chain_senior : (joined : ℕ → ℕ → Bool) → ((k j : ℕ) → So (joined k j) → So (link (building ρ R) k j))
      → {k j : ℕ} → Chain joined k j → So (senior ρ R k j)
  chain_senior joined sub (one {k} {j} h) = link_senior k j (sub k j h)
  chain_senior joined sub (more {k} {i} {j} h d) = senior_trans k i j (link_senior k i (sub k i h)) (chain_senior joined sub d)

  -- "no chain of links returns to its start"
  pub no_return : (k : ℕ) → Chain (link (building ρ R)) k k → ⊥
  no_return k d = lt_irrefl k (senior_lower k k (chain_senior (link (building ρ R)) (λ _ _ h. h) d))

  -- "no link could be replaced by a chain"
  pub no_replacement : (x y : ℕ) → So (link (building ρ R) x y) → Chain (links_but (link (building ρ R)) x y) x y → ⊥
  no_replacement x y l d = go x y refl refl d
    where
      sub : (k j : ℕ) → So (links_but (link (building ρ R)) x y k j) → So (link (building ρ R) k j)
      sub k j h = ((links_but_iff (link (building ρ R)) x y k j).0 h).0

      go : (k j : ℕ) → k ≡ x → j ≡ y → Chain (links_but (link (building ρ R)) x y) k j → ⊥
      go k j ek ej (one h) = ((links_but_iff (link (building ρ R)) x y k j).0 h).1 (ek, ej)
      go k j ek ej (more {i = i} h d) =
          let a : So (senior ρ R x i) = rw ek at (link_senior k i (sub k i h)) in
          let b : So (senior ρ R i y) = rw ej at (chain_senior (links_but (link (building ρ R)) x y) sub d) in
          ((immediate_iff ρ R x y).0 ((link_iff x y).0 l)).1 i (stands_below i (senior_stands x i a).1) a b

  -- any senior and junior are joined by a chain
  joined_by : (f k j : ℕ) → k < f + j → So (senior ρ R k j) → Chain (link (building ρ R)) k j
  joined_by zero k j l h = absurd (lt_irrefl k (omega (arith, senior_lower k j h)))
  joined_by (suc f) k j l h =
      ⊎_elim
      (λ w.
      let a = (and_iff (senior ρ R k w.0) (senior ρ R w.0 j)).0 w.2 in
      let lk = senior_lower k w.0 a.0 in
      let lj = senior_lower w.0 j a.1 in
      chain_append (link (building ρ R)) (joined_by f k w.0 (omega arith) a.0) (joined_by f w.0 j (omega arith) a.1))
      (λ f. one ((link_iff k j).1 ((immediate_iff ρ R k j).1 (h, λ i li p q. f i li ((and_iff (senior ρ R k i) (senior ρ R i j)).1 (p, q))))))
      (find (candidate_count ρ) (λ i. senior ρ R k i and senior ρ R i j))

  pub senior_chain : (k j : ℕ) → So (senior ρ R k j) → Chain (link (building ρ R)) k j
  senior_chain k j h = joined_by (suc k) k j (omega arith) h

  pub senior_reaches : (k j : ℕ) → (k ≡ j) ⊎ So (senior ρ R k j) → Reaches (link (building ρ R)) k j
  senior_reaches k j h = ⊎_elim (λ e. ◌⊎◌.inl e) (λ s. ◌⊎◌.inr (senior_chain k j s)) h

  pub reaches_by : (i k j : ℕ) → (i ≡ k) ⊎ So (senior ρ R i k) → (k ≡ j) ⊎ So (senior ρ R k j) → Reaches (link (building ρ R)) i j
  reaches_by i k j p q =
      ⊎_elim (λ (e : i ≡ k). senior_reaches i j (rw e q))
      (λ s. ◌⊎◌.inr (senior_chain i j (⊎_elim (λ (e : k ≡ j). rw e at s) (λ t. senior_trans i k j s t) q))) p

  -- ---- authorised

  pub building_below : RoleRowsBelow (candidate_count ρ) (building ρ R)
  unfolding building
  building_below =
      record {
        ends = λ k j h. stands_below j (senior_stands k j (link_senior k j h)).1;
        holders = λ k u h. stands_below k ((member_iff ρ R k u).0 h).1;
      }

  -- a role at or above k has u as direct member, and one at or below k has p direct
  pub topmost : (k u : ℕ) → So (has R k) → So (has (authorised_users ρ k) u)
      → (i : ℕ) × So (has (direct_members ρ R i) u) × ((i ≡ k) ⊎ So (senior ρ R i k))
  unfolding direct_members
  topmost k u h t = last_direct ρ.users (candidate_count ρ) R (senior ρ R) (authorised_users ρ) seniors_side k u ((user_iff ρ k u).0 t).0 h t

  pub bottommost : (k p : ℕ) → p < ρ.permissions → So (has R k) → So (has (permission_set ρ k) p)
      → (j : ℕ) × So (has (direct_permissions ρ R j) p) × ((j ≡ k) ⊎ So (senior ρ R k j))
  unfolding direct_permissions
  bottommost = last_direct ρ.permissions (candidate_count ρ) R (λ j k. senior ρ R k j) (permission_set ρ) juniors_side

  -- what a chain joins is senior and junior
  reaches_senior : (k j : ℕ) → Reaches (link (building ρ R)) k j → (k ≡ j) ⊎ So (senior ρ R k j)
  reaches_senior k j r = ⊎_elim (λ e. ◌⊎◌.inl e) (λ d. ◌⊎◌.inr (chain_senior (link (building ρ R)) (λ _ _ h. h) d)) r

  -- the direct members of k and of the roles above it are A(k)
  pub members_iff : (k u : ℕ) → So (has R k) → HasMember (building ρ R) k u ↔ So (has (authorised_users ρ k) u)
  unfolding building
  members_iff k u h = (
    λ m.
        let a = ((member_iff ρ R m.role u).0 m.direct).2 in
        ⊎_elim (λ (e : m.role ≡ k). rw e at a) (λ s. senior_user m.role k u s a) (reaches_senior m.role k m.above),
    λ t. let i = topmost k u h t in record { role = i.0; above = senior_reaches i.0 k i.2; direct = i.1 },
  )

  -- the direct permissions of k and of the roles below it are S(k)
  pub holds_iff : (k p : ℕ) → So (has R k) → HasPermission (building ρ R) k p ↔ ((p < ρ.permissions) × So (has (permission_set ρ k) p))
  unfolding building
  holds_iff k p h = (
    λ d.
        let a = (permission_iff ρ R d.role p).0 d.direct in
        (a.0, ⊎_elim (λ (e : k ≡ d.role). rw e a.2) (λ s. senior_permission k d.role p s a.2) (reaches_senior k d.role d.below)),
    λ t.
        let j = bottommost k p t.0 h t.1 in
        record { role = j.0; below = senior_reaches k j.0 (⊎_elim (λ e. ◌⊎◌.inl (sym e)) (λ s. ◌⊎◌.inr s) j.2); direct = j.1 },
  )

  -- a direct member of a role is authorised for all that the role holds: "authorised exactly when" some standing role covers the grant
  pub may_covered : (u p : ℕ) → p < ρ.permissions → So (may (candidate_count ρ) (building ρ R) u p) ↔ So (covered ρ R u p)
  unfolding building
  may_covered u p lp = (
    λ h.
        let a = (may_iff (candidate_count ρ) (building ρ R) building_below u p).0 h in
        let m = (member_iff ρ R a.role u).0 a.member in
        let d = (permission_iff ρ R a.end p).0 a.direct in
        let t : So (has (permission_set ρ a.role) p) =
        ⊎_elim (λ (e : a.role ≡ a.end). rw e d.2)
        (λ ch. senior_permission a.role a.end p (chain_senior (link (building ρ R)) (λ _ _ h. h) ch) d.2) a.reaches in
        (covered_iff ρ R u p).1 (a.role, stands_below a.role m.1, m.1, (covers_iff ρ a.role u p).1 (m.2, t)),
    λ h.
        let w = (covered_iff ρ R u p).0 h in
        let cv = (covers_iff ρ w.0 u p).0 w.3 in
        let i = topmost w.0 u w.2 cv.0 in
        let j = bottommost w.0 p lp w.2 cv.1 in
        let down : (w.0 ≡ j.0) ⊎ So (senior ρ R w.0 j.0) = ⊎_elim (λ e. ◌⊎◌.inl (sym e)) (λ s. ◌⊎◌.inr s) j.2 in
        let r : Reaches (link (building ρ R)) i.0 j.0 = reaches_by i.0 w.0 j.0 i.2 down in
        (may_iff (candidate_count ρ) (building ρ R) building_below u p).1
        (record { role = i.0; end = j.0; member = i.1; reaches = r; direct = j.1 }),
  )

  -- where each grant is covered, everyone is authorised for what the crew list grants, and for nothing outside the possible row
  pub granted_may : So (all_covered ρ R) → (u p : ℕ) → u < ρ.users → p < ρ.permissions
      → So (grant ρ u p) → So (may (candidate_count ρ) (building ρ R) u p)
  granted_may all u p lu lp g = (may_covered u p lp).1 ((all_covered_iff ρ R).0 all u p lu lp g)

  pub may_possible : (u p : ℕ) → p < ρ.permissions → So (may (candidate_count ρ) (building ρ R) u p) → So (has (get_or ρ.possible u 0) p)
  may_possible u p lp h =
      let w = (covered_iff ρ R u p).0 ((may_covered u p lp).0 h) in
      let cv = (covers_iff ρ w.0 u p).0 w.3 in
      (subset_iff (permission_set ρ w.0) (get_or ρ.possible u 0)).0 ((user_iff ρ w.0 u).0 cv.0).1 p cv.1
