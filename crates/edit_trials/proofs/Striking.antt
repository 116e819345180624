-- What the neighbours of a role take over from it when it is struck: what was direct with it, and is with none of their other neighbours.
-- Assumes nothing.
use mathlib.Core.Path.{◌≡◌, refl, sym, ◌∙◌, subst}
use mathlib.Core.Bool.{Bool, So}
use mathlib.Core.Logic.{◌↔◌, ◌≢◌, ◌⊎◌, ⊎_elim}
use Prim.Native.Nat.{ℕ, ◌<◌}
use Rattle.sets.specs.Sets.{has, ◌∩◌, ◌∖◌, single}
use Rattle.sets.proofs.Truth.{equal_or}
use Rattle.sets.proofs.Order.{∩-iff, ∖-iff, single_iff, collect_iff}
use Rattle.model.specs.Chains.{Chain, one, more, link}
use Rattle.model.specs.Hierarchy.{Roles, candidate_count, permission_set, authorised_users, senior, immediately_senior, immediate_juniors, direct_permissions, direct_members, building}
use Rattle.model.specs.Indexes.{lower}
use Rattle.model.proofs.Reading.{Ordered, senior_iff, immediate_iff, junior_iff, permission_iff, member_iff}
use Rattle.model.proofs.Building.{stands_below, senior_trans, senior_stands, senior_permission, senior_user, link_iff, link_senior, chain_senior, senior_chain, senior_differs}
use Rattle.model.proofs.Changes.{stands_other, senior_other}
use Rattle.model.proofs.Shortcuts.{lower_iff}
use Rattle.hierarchy.specs.Tables.{immediate_seniors}

-- One side of the hierarchy of the standing set S. A role keeps direct those items of its set f that no role has to which it loses: permissions are
-- lost to juniors, users to seniors, and the nearest of these are its immediate ones.
pub record LosingSide (ρ : Roles) (S k n : ℕ) (f : ℕ → ℕ) (loses : ℕ → ℕ → ℕ → Bool) (direct near : ℕ → ℕ → ℕ) : Type 0 where
  pub told : (R i p : ℕ) → So (has (direct R i) p)
      ↔ ((p < n) × So (has R i) × So (has (f i) p) × ((j : ℕ) → j < candidate_count ρ → So (loses R i j) → So (has (f j) p) → ⊥))
  pub other : (i j : ℕ) → So (loses (S ∖ single k) i j) ↔ (So (loses S i j) × (i ≢ k) × (j ≢ k))
  pub stands : (i j : ℕ) → So (loses S i j) → So (has S i) × So (has S j)
  pub trans : (i j l : ℕ) → So (loses S i j) → So (loses S j l) → So (loses S i l)
  pub differs : (i j : ℕ) → So (loses S i j) → i ≢ j
  pub keeps : (i j p : ℕ) → So (loses S i j) → So (has (f j) p) → So (has (f i) p)
  pub nearest : (i x : ℕ) → So (has (near S i) x) → So (loses S i x)
  pub first : (i j : ℕ) → So (loses S i j) → (x : ℕ) × So (has (near S i) x) × ((x ≡ j) ⊎ So (loses S x j))

-- a role that loses to k takes over what is direct with k, and is with none of its other nearest
module _ (ρ : Roles) (S k n : ℕ) (f : ℕ → ℕ) (loses : ℕ → ℕ → ℕ → Bool) (direct near : ℕ → ℕ → ℕ) (side : LosingSide ρ S k n f loses direct near) (o : Ordered ρ S)
    (here : So (has S k)) (i : ℕ) (s : So (loses S i k)) where
  taken : (p : ℕ) → So (has (direct (S ∖ single k) i ∩ f k) p)
      ↔ (So (has (direct S k) p) × ((x : ℕ) → So (has (near S i ∖ single k) x) → So (has (f x) p) → ⊥))
  taken p =
      let d = side.differs i k s in (
        λ t.
            let m = (∩-iff (direct (S ∖ single k) i) (f k) p).0 t in
            let a = (side.told (S ∖ single k) i p).0 m.0 in (
              (side.told S k p).1
                  (a.0, here, m.1, λ j l y q. a.3 j l ((side.other i j).1 (side.trans i k j s y, d, λ e. side.differs k j y (sym e))) q),
              λ x y q.
                  let b = (∖-iff (near S i) (single k) x).0 y in
                  let z = side.nearest i x b.0 in
                  a.3 x (stands_below ρ S o x (side.stands i x z).1) ((side.other i x).1 (z, d, λ e. b.1 ((single_iff k x).1 (sym e)))) q,
            ),
        λ g.
            let b = (side.told S k p).0 g.0 in
            (∩-iff (direct (S ∖ single k) i) (f k) p).1 (
              (side.told (S ∖ single k) i p).1 (
                b.0,
                (stands_other ρ S o k i).1 ((side.stands i k s).0, d),
                side.keeps i k p s b.2,
                λ j l y q.
                    let a = (side.other i j).0 y in
                    let w = side.first i j a.0 in
                    equal_or w.0 k
                    (λ (e : w.0 ≡ k).
                    ⊎_elim (λ (h : w.0 ≡ j). a.2 (sym h ∙ e)) (λ z. b.3 j l (subst (λ (v : ℕ). So (loses S v j)) e z) q) w.2)
                    (λ e.
                    g.1 w.0 ((∖-iff (near S i) (single k) w.0).1 (w.1, λ z. e (sym ((single_iff k w.0).0 z))))
                    (⊎_elim (λ (h : w.0 ≡ j). subst (λ (v : ℕ). So (has (f v) p)) (sym h) q) (λ z. side.keeps w.0 j p z q) w.2)),
              ),
              b.2,
            ),
      )

-- S is the standing set with k
module _ (ρ : Roles) (S : ℕ) (o : Ordered ρ S) where
  -- a chain of links down starts with an immediate junior, and ends with an immediate senior
  first : {i j : ℕ} → Chain (link (building ρ S)) i j → (x : ℕ) × So (immediately_senior ρ S i x) × ((x ≡ j) ⊎ So (senior ρ S x j))
  first (one {k} {j} h) = (j, (link_iff ρ S o k j).0 h, ◌⊎◌.inl refl)
  first (more {k} {i} {j} h d) = (i, (link_iff ρ S o k i).0 h, ◌⊎◌.inr (chain_senior ρ S o (link (building ρ S)) (λ _ _ t. t) d))

  last : {i j : ℕ} → Chain (link (building ρ S)) i j → (x : ℕ) × So (immediately_senior ρ S x j) × ((i ≡ x) ⊎ So (senior ρ S i x))
  last (one {k} {j} h) = (k, (link_iff ρ S o k j).0 h, ◌⊎◌.inl refl)
  last (more {k} {i} {j} h d) =
      let r = last d in
      let s = link_senior ρ S o k i h in (
        r.0,
        r.1,
        ◌⊎◌.inr (⊎_elim (λ (e : i ≡ r.0). subst (λ (z : ℕ). So (senior ρ S k z)) e s) (λ t. senior_trans ρ S o k i r.0 s t) r.2),
      )

  module _ (k : ℕ) (here : So (has S k)) where
    junior_in : (i x : ℕ) → So (immediately_senior ρ S i x) → So (has (immediate_juniors ρ S i) x)
    junior_in i x h = (junior_iff ρ S i x).1 (stands_below ρ S o x (senior_stands ρ S o i x ((immediate_iff ρ S i x).0 h).0).1, h)

    -- the other immediate juniors of i
    junior_of : (i x : ℕ) → So (has (immediate_juniors ρ S i ∖ single k) x) ↔ (So (immediately_senior ρ S i x) × (x ≢ k))
    junior_of i x = (
      λ t.
          let a = (∖-iff (immediate_juniors ρ S i) (single k) x).0 t in
          (((junior_iff ρ S i x).0 a.0).1, λ e. a.1 ((single_iff k x).1 (sym e))),
      λ g. (∖-iff (immediate_juniors ρ S i) (single k) x).1 (junior_in i x g.0, λ t. g.1 (sym ((single_iff k x).0 t))),
    )

    -- the two sides
    upper_side : LosingSide ρ S k ρ.permissions (permission_set ρ) (senior ρ) (direct_permissions ρ) (immediate_juniors ρ)
    upper_side =
        record {
          told = permission_iff ρ;
          other = senior_other ρ S o k;
          stands = senior_stands ρ S o;
          trans = senior_trans ρ S o;
          differs = senior_differs ρ S o;
          keeps = senior_permission ρ S o;
          nearest = λ i x t. ((immediate_iff ρ S i x).0 ((junior_iff ρ S i x).0 t).1).0;
          first = λ i j h. let w = first (senior_chain ρ S o i j h) in (w.0, junior_in i w.0 w.1, w.2);
        }

    lower_side : LosingSide ρ S k ρ.users (authorised_users ρ) (λ R i j. senior ρ R j i) (direct_members ρ) (immediate_seniors ρ)
    lower_side =
        record {
          told = member_iff ρ;
          other = λ i j. (
            λ h. let a = (senior_other ρ S o k j i).0 h in (a.0, a.2, a.1),
            λ a. (senior_other ρ S o k j i).1 (a.0, a.2, a.1),
          );
          stands = λ i j h. let a = senior_stands ρ S o j i h in (a.1, a.0);
          trans = λ i j l x y. senior_trans ρ S o l j i y x;
          differs = λ i j h e. senior_differs ρ S o j i h (sym e);
          keeps = λ i j u h. senior_user ρ S o j i u h;
          nearest = λ j x t. ((immediate_iff ρ S x j).0 ((junior_iff ρ S x j).0 ((collect_iff (candidate_count ρ) (λ i. has (immediate_juniors ρ S i) j) x).0 t).1).1).0;
          first = λ j i h.
              let w = last (senior_chain ρ S o i j h) in
              let l = stands_below ρ S o w.0 (senior_stands ρ S o w.0 j ((immediate_iff ρ S w.0 j).0 w.1).0).0 in
              (w.0, (collect_iff (candidate_count ρ) (λ i. has (immediate_juniors ρ S i) j) w.0).1 (l, junior_in w.0 j w.1), ⊎_elim (λ e. ◌⊎◌.inl (sym e)) (λ z. ◌⊎◌.inr z) w.2);
        }

    -- an immediate senior takes over direct permissions of k, and links to its juniors
    module _ (i : ℕ) (h : So (immediately_senior ρ S i k)) where
      s : So (senior ρ S i k)
      s = ((immediate_iff ρ S i k).0 h).0

      d : i ≢ k
      d = senior_differs ρ S o i k s

      pub permission_taken : (p : ℕ)
          → So (has (direct_permissions ρ (S ∖ single k) i ∩ permission_set ρ k) p)
          ↔ (So (has (direct_permissions ρ S k) p) × ((x : ℕ) → So (has (immediate_juniors ρ S i ∖ single k) x) → So (has (permission_set ρ x) p) → ⊥))
      permission_taken = taken ρ S k ρ.permissions (permission_set ρ) (senior ρ) (direct_permissions ρ) (immediate_juniors ρ) upper_side o here i s

      pub link_taken : (j : ℕ)
          → So (has (immediate_juniors ρ (S ∖ single k) i ∩ immediate_juniors ρ S k) j)
          ↔ (So (has (immediate_juniors ρ S k) j) × ((x : ℕ) → So (has (immediate_juniors ρ S i ∖ single k) x) → So (has (lower ρ x) j) → ⊥))
      link_taken j = (
        λ t.
            let m = (∩-iff (immediate_juniors ρ (S ∖ single k) i) (immediate_juniors ρ S k) j).0 t in
            let a = (immediate_iff ρ (S ∖ single k) i j).0 ((junior_iff ρ (S ∖ single k) i j).0 m.0).1 in
            let out = (senior_other ρ S o k i j).0 a.0 in (
              m.1,
              λ x y q.
                  let b = (junior_of i x).0 y in
                  let z = ((immediate_iff ρ S i x).0 b.0).0 in
                  let st = (senior_stands ρ S o i x z).1 in
                  a.1 x (stands_below ρ S o x st) ((senior_other ρ S o k i x).1 (z, d, b.1))
                  ((senior_other ρ S o k x j).1 ((senior_iff ρ S x j).1 (st, (senior_stands ρ S o i j out.0).1, ((lower_iff ρ x j).0 q).1), b.1, out.2)),
            ),
        λ f.
            let own = (junior_iff ρ S k j).0 f.0 in
            let b = (immediate_iff ρ S k j).0 own.1 in
            (∩-iff (immediate_juniors ρ (S ∖ single k) i) (immediate_juniors ρ S k) j).1 (
              (junior_iff ρ (S ∖ single k) i j).1 (
                own.0,
                (immediate_iff ρ (S ∖ single k) i j).1 (
                  (senior_other ρ S o k i j).1 (senior_trans ρ S o i k j s b.0, d, λ e. senior_differs ρ S o k j b.0 (sym e)),
                  λ m l y z.
                      let a = (senior_other ρ S o k i m).0 y in
                      let q = ((senior_other ρ S o k m j).0 z).0 in
                      let w = first (senior_chain ρ S o i m a.0) in
                      equal_or w.0 k
                      (λ (e : w.0 ≡ k).
                      ⊎_elim (λ (g : w.0 ≡ m). a.2 (sym g ∙ e)) (λ v. b.1 m l (subst (λ (x : ℕ). So (senior ρ S x m)) e v) q) w.2)
                      (λ e.
                      let under = ⊎_elim (λ (g : w.0 ≡ m). subst (λ (x : ℕ). So (senior ρ S x j)) (sym g) q) (λ v. senior_trans ρ S o w.0 m j v q) w.2 in
                      f.1 w.0 ((junior_of i w.0).1 (w.1, e)) ((lower_iff ρ w.0 j).1 (own.0, ((senior_iff ρ S w.0 j).0 under).2))),
                ),
              ),
              f.0,
            ),
      )

    -- an immediate junior takes over direct members of k
    pub member_taken : (j : ℕ) → So (immediately_senior ρ S k j) → (u : ℕ)
        → So (has (direct_members ρ (S ∖ single k) j ∩ authorised_users ρ k) u)
        ↔ (So (has (direct_members ρ S k) u) × ((x : ℕ) → So (has (immediate_seniors ρ S j ∖ single k) x) → So (has (authorised_users ρ x) u) → ⊥))
    member_taken j h =
        taken ρ S k ρ.users (authorised_users ρ) (λ R i j. senior ρ R j i) (direct_members ρ) (immediate_seniors ρ) lower_side o here j ((immediate_iff ρ S k j).0 h).0
