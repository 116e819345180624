-- Each definition of the building and of coverage, as the statement that it computes.
-- Assumes nothing.
use mathlib.Core.Path.{◌≡◌, refl, sym}
use mathlib.Core.Bool.{Bool, false, So}
use mathlib.Core.Logic.{◌↔◌, ◌≢◌, ⊎_elim}
use Prim.Native.Nat.{ℕ, ◌<◌, ◌^◌}
use lib.ListN.{get_or}
use Rattle.sets.specs.Sets.{has, ◌∖◌, single, subset, proper_subset}
use Rattle.sets.specs.Truth.{◌and◌, isnt, any}
use Rattle.sets.proofs.Truth.{by_test, So-not, and_iff, isnt_iff, any_iff, find, reflect}
use Rattle.sets.proofs.Order.{collect_iff, single_iff, ∖-iff}
use Rattle.model.specs.Hierarchy.{Roles, candidate_count, permission_set, authorised_users, senior, immediately_senior, immediate_juniors, direct_permissions, direct_members}
use Rattle.model.proofs.Direct.{direct_iff}
use Rattle.model.specs.Coverage.{grant, covers, covered, all_covered, spared, strikable, strikables}

-- what the theory of the hierarchy rests on: a proper subset has a lower number, and the standing roles are candidates
pub record Ordered (ρ : Roles) (R : ℕ) : Type 0 where
  pub lower : (j k : ℕ) → j < candidate_count ρ → k < candidate_count ρ → So (proper_subset (permission_set ρ j) (permission_set ρ k)) → j < k
  pub below : R < 2 ^ candidate_count ρ

module _ (ρ : Roles) where
  -- A(k)
  pub user_iff : (k u : ℕ) → So (has (authorised_users ρ k) u) ↔ ((u < ρ.users) × So (subset (permission_set ρ k) (get_or ρ.possible u 0)))
  unfolding authorised_users
  user_iff k u = collect_iff ρ.users (λ u. subset (permission_set ρ k) (get_or ρ.possible u 0)) u

  pub covers_iff : (k u p : ℕ) → So (covers ρ k u p) ↔ (So (has (authorised_users ρ k) u) × So (has (permission_set ρ k) p))
  unfolding covers
  covers_iff k u p = and_iff (has (authorised_users ρ k) u) (has (permission_set ρ k) p)

  pub covered_iff : (s u p : ℕ) → So (covered ρ s u p) ↔ ((k : ℕ) × (k < candidate_count ρ) × So (has s k) × So (covers ρ k u p))
  unfolding covered
  covered_iff s u p = (
    λ h. let w : (k : ℕ) × (k < candidate_count ρ) × (So (has s k) × So (covers ρ k u p)) = simp reflect at h in (w.0, w.1, w.2.0, w.2.1),
    λ w. simp reflect (w.0, w.1, (w.2, w.3)),
  )

  -- "each crew grant is covered"
  pub all_covered_iff : (R : ℕ)
      → So (all_covered ρ R) ↔ ((u p : ℕ) → u < ρ.users → p < ρ.permissions → So (grant ρ u p) → So (covered ρ R u p))
  unfolding all_covered
  all_covered_iff R = (
    λ h u p lu lp.
        let f : (u : ℕ) → u < ρ.users → (p : ℕ) → p < ρ.permissions → So (grant ρ u p) → So (covered ρ R u p) = simp reflect at h in f u lu p lp,
    λ f. simp reflect (λ u lu p lp. f u p lu lp),
  )

  pub spared_iff : (R s : ℕ)
      → So (spared ρ R s) ↔ ((u p : ℕ) → u < ρ.users → p < ρ.permissions → So (grant ρ u p) → So (covered ρ s u p) → So (covered ρ (R ∖ s) u p))
  unfolding spared
  spared_iff R s = (
    λ h u p lu lp g c.
        let f : (u : ℕ) → u < ρ.users → (p : ℕ) → p < ρ.permissions → So (grant ρ u p) × So (covered ρ s u p) → So (covered ρ (R ∖ s) u p) = simp reflect at h in
        f u lu p lp (g, c),
    λ f. simp reflect (λ u lu p lp x. f u p lu lp x.0 x.1),
  )

  -- strikable, in the paper's own words: "k stands and each grant covered by k is covered by another standing role"
  pub strikable_iff : (R k : ℕ) → k < candidate_count ρ
      → So (strikable ρ R k)
      ↔ (So (has R k)
      × ((u p : ℕ) → u < ρ.users → p < ρ.permissions → So (grant ρ u p) → So (covers ρ k u p)
      → (j : ℕ) × (j < candidate_count ρ) × So (has R j) × (j ≢ k) × So (covers ρ j u p)))
  unfolding strikable
  strikable_iff R k lk = (
    λ h.
        let b = (and_iff (has R k) (spared ρ R (single k))).0 h in (
          b.0,
          λ u p lu lp g cv.
              let w = (covered_iff (R ∖ single k) u p).0 ((spared_iff R (single k)).0 b.1 u p lu lp g ((covered_iff (single k) u p).1 (k, lk, (single_iff k k).1 refl, cv))) in
              let d = (∖-iff R (single k) w.0).0 w.2 in
              (w.0, w.1, d.0, λ e. d.1 ((single_iff k w.0).1 (sym e)), w.3),
        ),
    λ f.
        (and_iff (has R k) (spared ρ R (single k))).1 (
          f.0,
          (spared_iff R (single k)).1
              (λ u p lu lp g cs.
              let v = (covered_iff (single k) u p).0 cs in
              let e : k ≡ v.0 = (single_iff k v.0).0 v.2 in
              let w = f.1 u p lu lp g (rw e v.3) in
              (covered_iff (R ∖ single k) u p).1 (w.0, w.1, (∖-iff R (single k) w.0).1 (w.2, λ s. w.3 (sym ((single_iff k w.0).0 s))), w.4)),
        ),
  )

  -- a standing role that is not strikable covers a grant that no other standing role covers
  pub bare_of : (R k : ℕ) → k < candidate_count ρ → So (has R k) → strikable ρ R k ≡ false
      → (u : ℕ) × (p : ℕ) × So (covers ρ k u p) × ((j : ℕ) → j < candidate_count ρ → So (has R j) → j ≢ k → So (covers ρ j u p) → ⊥)
  bare_of R k lk h f =
      let rest = R ∖ single k in
      let bare : ℕ → ℕ → Bool = λ u p. covers ρ k u p and isnt (covered ρ rest u p) in
      ⊎_elim
      (λ w.
      let u = w.0 in
      let v = (any_iff ρ.permissions (bare u)).0 w.2 in
      let p = v.0 in
      let b = (and_iff (covers ρ k u p) (isnt (covered ρ rest u p))).0 v.2 in (
        u,
        p,
        b.0,
        λ j lj hj d cv.
            (isnt_iff (covered ρ rest u p)).0 b.1 ((covered_iff rest u p).1 (j, lj, (∖-iff R (single k) j).1 (hj, λ e. d (sym ((single_iff k j).0 e))), cv)),
      ))
      (λ none.
      absurd
      (So-not f
      ((strikable_iff R k lk).1 (
        h,
        λ u p lu lp g cv.
            by_test (covered ρ rest u p)
            (λ c.
            let w = (covered_iff rest u p).0 c in
            let d = (∖-iff R (single k) w.0).0 w.2 in
            (w.0, w.1, d.0, λ e. d.1 ((single_iff k w.0).1 (sym e)), w.3))
            (λ n. absurd (none u lu ((any_iff ρ.permissions (bare u)).1 (p, lp, (and_iff (covers ρ k u p) (isnt (covered ρ rest u p))).1 (cv, (isnt_iff (covered ρ rest u p)).1 (So-not n)))))),
      ))))
      (find ρ.users (λ u. any ρ.permissions (bare u)))

  pub strikable_stands : (R k : ℕ) → So (strikable ρ R k) → So (has R k)
  unfolding strikable
  strikable_stands R k h = ((and_iff (has R k) (spared ρ R (single k))).0 h).0

  pub strikables_iff : (R k : ℕ) → So (has (strikables ρ R) k) ↔ ((k < candidate_count ρ) × So (strikable ρ R k))
  unfolding strikables
  strikables_iff R k = collect_iff (candidate_count ρ) (λ k. strikable ρ R k) k

  -- senior and immediately senior
  module _ (R : ℕ) where
    pub senior_iff : (k j : ℕ) → So (senior ρ R k j) ↔ (So (has R k) × So (has R j) × So (proper_subset (permission_set ρ j) (permission_set ρ k)))
    unfolding senior
    senior_iff k j = (
      λ h.
          let x : (So (has R k) × So (has R j)) × So (proper_subset (permission_set ρ j) (permission_set ρ k)) = simp reflect at h in (x.0.0, x.0.1, x.1),
      λ f. simp reflect ((f.0, f.1), f.2),
    )

    pub immediate_iff : (k j : ℕ)
        → So (immediately_senior ρ R k j)
        ↔ (So (senior ρ R k j) × ((i : ℕ) → i < candidate_count ρ → So (senior ρ R k i) → So (senior ρ R i j) → ⊥))
    unfolding immediately_senior
    immediate_iff k j = (
      λ h.
          let x : So (senior ρ R k j) × ((i : ℕ) → i < candidate_count ρ → So (senior ρ R k i) × So (senior ρ R i j) → ⊥) = simp reflect at h in
          (x.0, λ i l p q. x.1 i l (p, q)),
      λ f. simp reflect (f.0, λ i l x. f.1 i l x.0 x.1),
    )

    pub junior_iff : (k j : ℕ) → So (has (immediate_juniors ρ R k) j) ↔ ((j < candidate_count ρ) × So (immediately_senior ρ R k j))
    unfolding immediate_juniors
    junior_iff k j = collect_iff (candidate_count ρ) (λ j. immediately_senior ρ R k j) j

    -- "S(k) less the sets of all its juniors"
    pub permission_iff : (k p : ℕ)
        → So (has (direct_permissions ρ R k) p)
        ↔ ((p < ρ.permissions) × So (has R k) × So (has (permission_set ρ k) p)
        × ((j : ℕ) → j < candidate_count ρ → So (senior ρ R k j) → So (has (permission_set ρ j) p) → ⊥))
    unfolding direct_permissions
    permission_iff k p = direct_iff ρ.permissions (candidate_count ρ) R (λ j k. senior ρ R k j) (permission_set ρ) k p

    -- "A(k) less A of all its seniors"
    pub member_iff : (k u : ℕ)
        → So (has (direct_members ρ R k) u)
        ↔ ((u < ρ.users) × So (has R k) × So (has (authorised_users ρ k) u)
        × ((i : ℕ) → i < candidate_count ρ → So (senior ρ R i k) → So (has (authorised_users ρ i) u) → ⊥))
    unfolding direct_members
    member_iff k u = direct_iff ρ.users (candidate_count ρ) R (senior ρ R) (authorised_users ρ) k u
