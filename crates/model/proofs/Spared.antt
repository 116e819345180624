-- What stays covered where the roles of a set are struck at once. One role is the set of it alone.
-- Assumes nothing.
use mathlib.Core.Path.{◌≡◌, refl, sym}
use mathlib.Core.Bool.{So}
use mathlib.Core.Logic.{◌↔◌, ◌⊎◌, ⊎_elim}
use Prim.Native.Nat.{ℕ, ◌<◌}
use Rattle.sets.specs.Sets.{has, ◌∪◌, ◌∖◌, single, subset}
use Rattle.sets.proofs.Truth.{by_test, So-not, and_iff}
use Rattle.sets.proofs.Members.{same_set}
use Rattle.sets.proofs.Order.{subset_iff, ∖-iff, ∪-iff, single_iff}
use Rattle.model.specs.Hierarchy.{Roles, permission_set, authorised_users, senior, direct_permissions, direct_members}
use Rattle.model.specs.Coverage.{grant, covered, all_covered, spared, strikable}
use Rattle.model.proofs.Reading.{Ordered, user_iff, covers_iff, covered_iff, all_covered_iff, spared_iff, permission_iff, member_iff}
use Rattle.model.proofs.Building.{stands_below, senior_trans, senior_permission, senior_user, topmost, bottommost}

-- ---- sets taken away one after the other

pub without_within : (s t : ℕ) → So (subset (s ∖ t) s)
without_within s t = (subset_iff (s ∖ t) s).1 (λ i x. ((∖-iff s t i).0 x).0)

pub single_within : (s k : ℕ) → So (has s k) → So (subset (single k) s)
single_within s k h = (subset_iff (single k) s).1 (λ i x. let e : k ≡ i = (single_iff k i).0 x in rw e at h)

-- fewer taken away leave more
pub without_fewer : (R s t : ℕ) → So (subset t s) → So (subset (R ∖ s) (R ∖ t))
without_fewer R s t h = (subset_iff (R ∖ s) (R ∖ t)).1 (λ i x. let a = (∖-iff R s i).0 x in (∖-iff R t i).1 (a.0, λ y. a.1 ((subset_iff t s).0 h i y)))

pub without_more : (R T s : ℕ) → So (subset R T) → So (subset (R ∖ s) (T ∖ s))
without_more R T s h = (subset_iff (R ∖ s) (T ∖ s)).1 (λ i x. let a = (∖-iff R s i).0 x in (∖-iff T s i).1 ((subset_iff R T).0 h i a.0, a.1))

pub without_both : (R s t : ℕ) → R ∖ (s ∪ t) ≡ R ∖ s ∖ t
without_both R s t =
    same_set (R ∖ (s ∪ t)) (R ∖ s ∖ t)
    (λ i h.
    let a = (∖-iff R (s ∪ t) i).0 h in
    (∖-iff (R ∖ s) t i).1 ((∖-iff R s i).1 (a.0, λ x. a.1 ((∪-iff s t i).1 (◌⊎◌.inl x))), λ x. a.1 ((∪-iff s t i).1 (◌⊎◌.inr x))))
    (λ i h.
    let a = (∖-iff (R ∖ s) t i).0 h in
    let b = (∖-iff R s i).0 a.0 in
    (∖-iff R (s ∪ t) i).1 (b.0, λ x. ⊎_elim b.1 a.1 ((∪-iff s t i).0 x)))

pub without_part : (R s t : ℕ) → So (subset t s) → R ∖ t ∖ (s ∖ t) ≡ R ∖ s
without_part R s t h =
    same_set (R ∖ t ∖ (s ∖ t)) (R ∖ s)
    (λ i x.
    let a = (∖-iff (R ∖ t) (s ∖ t) i).0 x in
    let b = (∖-iff R t i).0 a.0 in
    (∖-iff R s i).1 (b.0, λ y. a.1 ((∖-iff s t i).1 (y, b.1))))
    (λ i x.
    let a = (∖-iff R s i).0 x in
    (∖-iff (R ∖ t) (s ∖ t) i).1 ((∖-iff R t i).1 (a.0, λ y. a.1 ((subset_iff t s).0 h i y)), λ y. a.1 ((∖-iff s t i).0 y).0))

module _ (ρ : Roles) where
  -- more roles cover more
  pub covered_more : (s t u p : ℕ) → So (subset s t) → So (covered ρ s u p) → So (covered ρ t u p)
  covered_more s t u p h c = let w = (covered_iff ρ s u p).0 c in (covered_iff ρ t u p).1 (w.0, w.1, (subset_iff s t).0 h w.0 w.2, w.3)

  pub restored_covered : (R s : ℕ) → So (all_covered ρ R) → So (all_covered ρ (R ∪ s))
  restored_covered R s all =
      (all_covered_iff ρ (R ∪ s)).1
      (λ u p lu lp g.
      covered_more R (R ∪ s) u p ((subset_iff R (R ∪ s)).1 (λ i t. (∪-iff R s i).1 (◌⊎◌.inl t))) ((all_covered_iff ρ R).0 all u p lu lp g))

  -- "what is covered stays covered"
  pub spared_covered : (R s : ℕ) → So (spared ρ R s) → So (all_covered ρ R) → So (all_covered ρ (R ∖ s))
  spared_covered R s x all =
      (all_covered_iff ρ (R ∖ s)).1
      (λ u p lu lp g.
      let w = (covered_iff ρ R u p).0 ((all_covered_iff ρ R).0 all u p lu lp g) in
      by_test (has s w.0) (λ h. (spared_iff ρ R s).0 x u p lu lp g ((covered_iff ρ s u p).1 (w.0, w.1, h, w.3)))
      (λ h. (covered_iff ρ (R ∖ s) u p).1 (w.0, w.1, (∖-iff R s w.0).1 (w.2, So-not h), w.3)))

  -- a set that is spared among fewer standing roles is spared among more, and so is each part of it
  pub spared_more : (R T s : ℕ) → So (subset R T) → So (spared ρ R s) → So (spared ρ T s)
  spared_more R T s h x =
      (spared_iff ρ T s).1 (λ u p lu lp g c. covered_more (R ∖ s) (T ∖ s) u p (without_more R T s h) ((spared_iff ρ R s).0 x u p lu lp g c))

  pub spared_fewer : (R s t : ℕ) → So (subset t s) → So (spared ρ R s) → So (spared ρ R t)
  spared_fewer R s t h x =
      (spared_iff ρ R t).1
      (λ u p lu lp g c.
      covered_more (R ∖ s) (R ∖ t) u p (without_fewer R s t h) ((spared_iff ρ R s).0 x u p lu lp g (covered_more t s u p h c)))

  -- first a part and then the rest, and the other way round
  pub spared_rest : (R s t : ℕ) → So (subset t s) → So (spared ρ R s) → So (spared ρ (R ∖ t) (s ∖ t))
  spared_rest R s t h x =
      (spared_iff ρ (R ∖ t) (s ∖ t)).1
      (λ u p lu lp g c.
      rw (without_part R s t h) ((spared_iff ρ R s).0 x u p lu lp g (covered_more (s ∖ t) s u p (without_within s t) c)))

  pub spared_join : (R s t : ℕ) → So (spared ρ R s) → So (spared ρ (R ∖ s) t) → So (spared ρ R (s ∪ t))
  spared_join R s t x y =
      (spared_iff ρ R (s ∪ t)).1
      (λ u p lu lp g c.
      let later : So (covered ρ t u p) → So (covered ρ (R ∖ (s ∪ t)) u p) = λ d. rw (without_both R s t) ((spared_iff ρ (R ∖ s) t).0 y u p lu lp g d) in
      let w = (covered_iff ρ (s ∪ t) u p).0 c in
      ⊎_elim
      (λ h.
      let v = (covered_iff ρ (R ∖ s) u p).0 ((spared_iff ρ R s).0 x u p lu lp g ((covered_iff ρ s u p).1 (w.0, w.1, h, w.3))) in
      by_test (has t v.0) (λ z. later ((covered_iff ρ t u p).1 (v.0, v.1, z, v.3)))
      (λ z. rw (without_both R s t) ((covered_iff ρ (R ∖ s ∖ t) u p).1 (v.0, v.1, (∖-iff (R ∖ s) t v.0).1 (v.2, So-not z), v.3))))
      (λ h. later ((covered_iff ρ t u p).1 (w.0, w.1, h, w.3)))
      ((∪-iff s t w.0).0 w.2))

  -- ---- one role

  pub strikable_spared : (R k : ℕ) → So (strikable ρ R k) ↔ (So (has R k) × So (spared ρ R (single k)))
  unfolding strikable
  strikable_spared R k = and_iff (has R k) (spared ρ R (single k))

  -- none becomes strikable again by strikes
  pub strikable_more : (R T k : ℕ) → So (subset R T) → So (strikable ρ R k) → So (strikable ρ T k)
  strikable_more R T k h x =
      let a = (strikable_spared R k).0 x in
      (strikable_spared T k).1 ((subset_iff R T).0 h k a.0, spared_more R T (single k) h a.1)

  pub struck_covered : (R k : ℕ) → So (strikable ρ R k) → So (all_covered ρ R) → So (all_covered ρ (R ∖ single k))
  struck_covered R k x = spared_covered R (single k) ((strikable_spared R k).0 x).1

  -- each role of a set of standing roles that is spared is strikable by itself
  pub spared_strikable : (R s k : ℕ) → So (subset s R) → So (has s k) → So (spared ρ R s) → So (strikable ρ R k)
  spared_strikable R s k h l x =
      (strikable_spared R k).1 ((subset_iff s R).0 h k l, spared_fewer R s (single k) (single_within s k l) x)

  -- ---- the test, over what the roles have themselves

  module _ (R : ℕ) (o : Ordered ρ R) where
    -- j is i or junior to it
    abbrev Under : ℕ → ℕ → Type 0
    Under i j = (j ≡ i) ⊎ So (senior ρ R i j)

    holds : (i j p : ℕ) → Under i j → So (has (permission_set ρ j) p) → So (has (permission_set ρ i) p)
    holds i j p h q = ⊎_elim (λ (e : j ≡ i). rw e at q) (λ z. senior_permission ρ R o i j p z q) h

    serves : (i j u : ℕ) → Under i j → So (has (authorised_users ρ i) u) → So (has (authorised_users ρ j) u)
    serves i j u h a = ⊎_elim (λ (e : j ≡ i). rw e a) (λ z. senior_user ρ R o i j u z a) h

    -- of a set of standing roles only this can be left bare: what a direct member of one of them has by a direct permission of the same or of a junior
    -- in the set. All else is covered by a role that stays
    pub spared_direct : (s : ℕ) → So (subset s R)
        → So (spared ρ R s)
        ↔ ((i j u p : ℕ) → So (has s i) → So (has s j) → Under i j → So (has (direct_members ρ R i) u)
        → So (has (direct_permissions ρ R j) p) → So (grant ρ u p) → So (covered ρ (R ∖ s) u p))
    spared_direct s within = (
      λ x i j u p si sj under mu mp g.
          let a = (member_iff ρ R i u).0 mu in
          let b = (permission_iff ρ R j p).0 mp in
          (spared_iff ρ R s).0 x u p a.0 b.0 g ((covered_iff ρ s u p).1 (i, stands_below ρ R o i a.1, si, (covers_iff ρ i u p).1 (a.2, holds i j p under b.2))),
      λ f.
          (spared_iff ρ R s).1
          (λ u p lu lp g c.
          let w = (covered_iff ρ s u p).0 c in
          let k = w.0 in
          let here = (subset_iff s R).0 within k w.2 in
          let cv = (covers_iff ρ k u p).0 w.3 in
          let top = topmost ρ R o k u here cv.0 in
          let bottom = bottommost ρ R o k p lp here cv.1 in
          let i = top.0 in
          let j = bottom.0 in
          let a = (member_iff ρ R i u).0 top.1 in
          let b = (permission_iff ρ R j p).0 bottom.1 in
          by_test (has s i)
          (λ si.
          by_test (has s j) (λ sj. f i j u p si sj (down i k j top.2 bottom.2) top.1 bottom.1 g)
          (λ out. stays j u p b.1 (So-not out) (serves k j u bottom.2 cv.0) b.2))
          (λ out. stays i u p a.1 (So-not out) a.2 (holds i k p (⊎_elim (λ e. ◌⊎◌.inl (sym e)) (λ z. ◌⊎◌.inr z) top.2) cv.1))),
    )
      where
        stays : (i u p : ℕ) → So (has R i) → (So (has s i) → ⊥) → So (has (authorised_users ρ i) u) → So (has (permission_set ρ i) p) → So (covered ρ (R ∖ s) u p)
        stays i u p h out a q = (covered_iff ρ (R ∖ s) u p).1 (i, stands_below ρ R o i h, (∖-iff R s i).1 (h, out), (covers_iff ρ i u p).1 (a, q))

        down : (i k j : ℕ) → (i ≡ k) ⊎ So (senior ρ R i k) → Under k j → Under i j
        down i k j a b =
            ⊎_elim (λ (e : i ≡ k). rw e b) (λ s. ◌⊎◌.inr (⊎_elim (λ (e : j ≡ k). rw e s) (λ t. senior_trans ρ R o i k j s t) b)) a

    -- so it is enough to ask all permissions of direct members, or all users of direct permissions
    pub spared_members : (s : ℕ) → So (subset s R)
        → So (spared ρ R s)
        ↔ ((k u p : ℕ) → p < ρ.permissions → So (has s k) → So (has (direct_members ρ R k) u) → So (has (permission_set ρ k) p) → So (grant ρ u p)
        → So (covered ρ (R ∖ s) u p))
    spared_members s within = (
      λ x k u p lp h mu q g.
          let a = (member_iff ρ R k u).0 mu in
          (spared_iff ρ R s).0 x u p a.0 lp g ((covered_iff ρ s u p).1 (k, stands_below ρ R o k a.1, h, (covers_iff ρ k u p).1 (a.2, q))),
      λ f.
          (spared_direct s within).1
          (λ i j u p si sj under mu mp g.
          let b = (permission_iff ρ R j p).0 mp in
          f i u p b.0 si mu (holds i j p under b.2) g),
    )

    pub spared_permissions : (s : ℕ) → So (subset s R)
        → So (spared ρ R s)
        ↔ ((k u p : ℕ) → So (has s k) → So (has (authorised_users ρ k) u) → So (has (direct_permissions ρ R k) p) → So (grant ρ u p)
        → So (covered ρ (R ∖ s) u p))
    spared_permissions s within = (
      λ x k u p h t mp g.
          let b = (permission_iff ρ R k p).0 mp in
          (spared_iff ρ R s).0 x u p ((user_iff ρ k u).0 t).0 b.0 g
          ((covered_iff ρ s u p).1 (k, stands_below ρ R o k b.1, h, (covers_iff ρ k u p).1 (t, b.2))),
      λ f.
          (spared_direct s within).1
          (λ i j u p si sj under mu mp g.
          let a = (member_iff ρ R i u).0 mu in
          f j u p sj (serves i j u under a.2) mp g),
    )

    -- one role: only its direct members' direct permissions can be left bare
    pub strikable_direct : (k : ℕ)
        → So (strikable ρ R k)
        ↔ (So (has R k)
        × ((u p : ℕ) → So (has (direct_members ρ R k) u) → So (has (direct_permissions ρ R k) p) → So (grant ρ u p) → So (covered ρ (R ∖ single k) u p)))
    strikable_direct k = (
      λ x.
          let a = (strikable_spared R k).0 x in
          let own = (single_iff k k).1 refl in
          (a.0, λ u p mu mp g. (spared_direct (single k) (single_within R k a.0)).0 a.1 k k u p own own (◌⊎◌.inl refl) mu mp g),
      λ f.
          (strikable_spared R k).1 (
            f.0,
            (spared_direct (single k) (single_within R k f.0)).1
                (λ i j u p si sj _ mu mp g.
                let ei : k ≡ i = (single_iff k i).0 si in
                let ej : k ≡ j = (single_iff k j).0 sj in
                f.1 u p (rw ei mu) (rw ej mp) g),
          ),
    )
