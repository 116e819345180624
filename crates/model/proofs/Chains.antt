-- Chains and reach over any relation on indices, circles included: what is computed agrees with the paper's words.
-- Assumes nothing.
use mathlib.Core.Path.{◌≡◌, refl, sym, ap}
use mathlib.Core.Bool.{Bool, So}
use mathlib.Core.Logic.{◌↔◌, ◌⊎◌, ⊎_elim}
use Prim.Native.Nat.{ℕ, zero, suc, ◌<◌, ◌≤◌, ◌^◌}
use native.Mathlib.Nat.{le_trans, not-suc-le_self}
use native.Mathlib.Omega.{arith}
use lib.Count.{ones, ones-le}
use Rattle.sets.specs.Truth.{◌and◌, any}
use Rattle.sets.specs.Sets.{has, collect}
use Rattle.sets.proofs.Truth.{and_iff, any_iff, equal_or, reflect}
use Rattle.sets.proofs.Members.{item_below}
use Rattle.sets.proofs.Order.{∪-iff, ∪-lt, collect_iff, collect_lt, subset_iff, proper_iff}
use Rattle.sets.proofs.Counts.{ones_proper}
use Rattle.model.specs.Hierarchy.{RoleRows}
use Rattle.model.specs.Chains.{link, Chain, links_but, Reaches, onward, follow, reached, direct_roles, roles_reached, may, Authorised}
use Rattle.model.specs.Chains.Chain.{one, more}

-- the links but one: every other link is among them, and that one is not
pub links_but_iff : (joined : ℕ → ℕ → Bool) (x y k j : ℕ) → So (links_but joined x y k j) ↔ (So (joined k j) × ¬ ((k ≡ x) × (j ≡ y)))
unfolding links_but
links_but_iff joined x y k j = (
  λ h. let a : So (joined k j) × ¬ ((k ≡ x) × (j ≡ y)) = simp reflect at h in a,
  λ f. simp reflect f,
)

module _ (joined : ℕ → ℕ → Bool) where
  pub chain_append : {k i j : ℕ} → Chain joined k i → Chain joined i j → Chain joined k j
  chain_append (one h) d = more h d
  chain_append (more h c) d = more h (chain_append c d)

  pub reaches_chain : {k i j : ℕ} → Reaches joined k i → Chain joined i j → Chain joined k j
  reaches_chain {k} {i} {j} r d = ⊎_elim (λ (e : k ≡ i). rw e d) (λ c. chain_append c d) r

  pub reaches_more : {k i j : ℕ} → Reaches joined k i → So (joined i j) → Reaches joined k j
  reaches_more r h = ◌⊎◌.inr (reaches_chain r (one h))

  -- a set that holds the junior of each of its roles' links holds all that its roles reach
  pub closed_chain : (t : ℕ) → ((k j : ℕ) → So (has t k) → So (joined k j) → So (has t j)) → {k j : ℕ} → Chain joined k j → So (has t k) → So (has t j)
  closed_chain t up (one {k} {j} h) s = up k j s h
  closed_chain t up (more {k} {i} {j} h c) s = closed_chain t up c (up k i s h)

  module _ (c : ℕ) (ends : (k j : ℕ) → So (joined k j) → j < c) where
    pub onward_iff : (s j : ℕ) → s < 2 ^ c → So (has (onward joined c s) j) ↔ (So (has s j) ⊎ ((k : ℕ) × So (has s k) × So (joined k j)))
    unfolding onward
    onward_iff s j b =
        let test : ℕ → Bool = λ j. any c (λ k. has s k and joined k j) in (
          λ h.
              ⊎_elim (λ p. ◌⊎◌.inl p)
              (λ p.
              let w = (any_iff c (λ k. has s k and joined k j)).0 ((collect_iff c test j).0 p).1 in
              let d = (and_iff (has s w.0) (joined w.0 j)).0 w.2 in
              ◌⊎◌.inr (w.0, d.0, d.1)) ((∪-iff s (collect c test) j).0 h),
          λ h.
              (∪-iff s (collect c test) j).1
              (⊎_elim (λ p. ◌⊎◌.inl p)
              (λ w.
              ◌⊎◌.inr
              ((collect_iff c test j).1
              (ends w.0 j w.2, (any_iff c (λ k. has s k and joined k j)).1 (w.0, item_below c s w.0 b w.1, (and_iff (has s w.0) (joined w.0 j)).1 (w.1, w.2))))) h),
        )

    pub onward_lt : (s : ℕ) → s < 2 ^ c → onward joined c s < 2 ^ c
    unfolding onward
    onward_lt s b = ∪-lt c s (collect c (λ j. any c (λ k. has s k and joined k j))) b (collect_lt c (λ j. any c (λ k. has s k and joined k j)))

    module _ (s : ℕ) (b : s < 2 ^ c) where
      pub follow_lt : (f : ℕ) → follow joined c f s < 2 ^ c
      unfolding follow
      follow_lt zero = b
      follow_lt (suc f) = onward_lt (follow joined c f s) (follow_lt f)

      -- nothing is in that a role of s does not reach
      pub follow_from : (f j : ℕ) → So (has (follow joined c f s) j) → (k : ℕ) × So (has s k) × Reaches joined k j
      unfolding follow
      follow_from zero j h = (j, h, ◌⊎◌.inl refl)
      follow_from (suc f) j h =
          ⊎_elim (λ p. follow_from f j p)
          (λ w. let r = follow_from f w.0 w.1 in (r.0, r.1, reaches_more r.2 w.2))
          ((onward_iff (follow joined c f s) j (follow_lt f)).0 h)

      pub follow_holds : (f j : ℕ) → So (has s j) → So (has (follow joined c f s) j)
      unfolding follow
      follow_holds zero j h = h
      follow_holds (suc f) j h = (onward_iff (follow joined c f s) j (follow_lt f)).1 (◌⊎◌.inl (follow_holds f j h))

      wider : (f : ℕ) → f ≤ ones (follow joined c f s) → (onward joined c (follow joined c f s) ≡ follow joined c f s) ⊎ (f < ones (follow joined c (suc f) s))
      unfolding follow
      wider f l =
          let t = follow joined c f s in
          equal_or (onward joined c t) t (λ e. ◌⊎◌.inl e)
          (λ d.
          ◌⊎◌.inr
          (omega (
            arith,
            l,
            ones_proper t (onward joined c t)
                ((proper_iff t (onward joined c t)).1
                ((subset_iff t (onward joined c t)).1 (λ i p. (onward_iff t i (follow_lt f)).1 (◌⊎◌.inl p)), λ e. d (sym e))),
          )))

      -- a step adds nothing, or one role at least: after c steps there is nothing left to add
      grows : (f : ℕ) → (onward joined c (follow joined c f s) ≡ follow joined c f s) ⊎ (f < ones (follow joined c (suc f) s))
      unfolding follow
      grows zero = wider zero (omega arith)
      grows (suc f) = ⊎_elim (λ e. ◌⊎◌.inl (ap (onward joined c) e)) (λ l. wider (suc f) l) (grows f)

      saturated : onward joined c (follow joined c c s) ≡ follow joined c c s
      unfolding follow
      saturated = ⊎_elim (λ e. e) (λ l. absurd (not-suc-le_self c (le_trans l (ones-le c (follow joined c (suc c) s) (follow_lt (suc c)))))) (grows c)

      -- reach, computed and in the paper's words
      pub reached_iff : (j : ℕ) → So (has (reached joined c s) j) ↔ ((k : ℕ) × So (has s k) × Reaches joined k j)
      unfolding reached
      reached_iff j =
          let t = follow joined c c s in
          let up : (k j : ℕ) → So (has t k) → So (joined k j) → So (has t j) =
          λ k j p h. rw saturated at ((onward_iff t j (follow_lt c)).1 (◌⊎◌.inr (k, p, h))) in (
            follow_from c j,
            λ w.
                ⊎_elim (λ (e : w.0 ≡ j). rw e at (follow_holds c w.0 w.1)) (λ d. closed_chain t up d (follow_holds c w.0 w.1)) w.2,
          )

-- rows of c roles: links lead to these, and only these have members
pub record RoleRowsBelow (c : ℕ) (b : RoleRows) : Type 0 where
  pub ends : (k j : ℕ) → So (link b k j) → j < c
  pub holders : (k u : ℕ) → So (has (b.members k) u) → k < c

pub direct_roles_iff : (c : ℕ) (b : RoleRows) (u k : ℕ) → So (has (direct_roles c b u) k) ↔ ((k < c) × So (has (b.members k) u))
unfolding direct_roles
direct_roles_iff c b u k = collect_iff c (λ k. has (b.members k) u) k

pub direct_roles_lt : (c : ℕ) (b : RoleRows) (u : ℕ) → direct_roles c b u < 2 ^ c
unfolding direct_roles
direct_roles_lt c b u = collect_lt c (λ k. has (b.members k) u)

pub reached_lt : (c : ℕ) (b : RoleRows) → RoleRowsBelow c b → (s : ℕ) → s < 2 ^ c → reached (link b) c s < 2 ^ c
unfolding reached
reached_lt c b below s h = follow_lt (link b) c below.ends s h c

-- may as it is computed is what the paper says of it
pub may_iff : (c : ℕ) (b : RoleRows) → RoleRowsBelow c b → (u p : ℕ) → So (may c b u p) ↔ Authorised b u p
unfolding may roles_reached
may_iff c b below u p =
    let s = direct_roles c b u in
    let all_of = reached_iff (link b) c below.ends s (direct_roles_lt c b u) in (
      λ h.
          let w = (any_iff c (λ j. has (reached (link b) c s) j and has (b.permissions j) p)).0 h in
          let d = (and_iff (has (reached (link b) c s) w.0) (has (b.permissions w.0) p)).0 w.2 in
          let r = (all_of w.0).0 d.0 in
          record { role = r.0; end = w.0; member = ((direct_roles_iff c b u r.0).0 r.1).1; reaches = r.2; direct = d.1 },
      λ a.
          let lk : a.role < c = below.holders a.role u a.member in
          let r = (all_of a.end).1 (a.role, (direct_roles_iff c b u a.role).1 (lk, a.member), a.reaches) in
          let lj = item_below c (reached (link b) c s) a.end (reached_lt c b below s (direct_roles_lt c b u)) r in
          (any_iff c (λ j. has (reached (link b) c s) j and has (b.permissions j) p)).1
          (a.end, lj, (and_iff (has (reached (link b) c s) a.end) (has (b.permissions a.end) p)).1 (r, a.direct)),
    )
