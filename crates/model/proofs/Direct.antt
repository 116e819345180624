-- What a role has itself, permissions and members alike. `takes j k` says that j takes away from k: its juniors take permissions from it, its seniors
-- take members.
-- Assumes nothing.
use mathlib.Core.Path.{◌≡◌, refl, sym, ◌∙◌, ap}
use mathlib.Core.Bool.{Bool, So}
use mathlib.Core.Logic.{◌↔◌, ◌≢◌, ◌⊎◌, ⊎_elim}
use Prim.Native.Nat.{ℕ, zero, suc, ◌+◌, ◌<◌, ◌^◌}
use native.Mathlib.Nat.{lt_irrefl}
use native.Mathlib.Omega.{arith}
use lib.Count.{ones}
use Rattle.sets.specs.Truth.{◌and◌}
use Rattle.sets.specs.Sets.{has, ◌∩◌, ◌∖◌, single}
use Rattle.sets.proofs.Truth.{by_test, So-not, and_iff, find, equal_or, reflect}
use Rattle.sets.proofs.Members.{same_set, has-zero, empty_of}
use Rattle.sets.proofs.Order.{∩-iff, ∖-iff, single_iff, collect_iff, collect_lt}
use Rattle.sets.proofs.Counts.{ones-∖}
use Rattle.model.specs.Hierarchy.{direct_of}

module _ (n c R : ℕ) (takes : ℕ → ℕ → Bool) (own : ℕ → ℕ) where
  pub direct_iff : (k i : ℕ)
      → So (has (direct_of n c R takes own k) i)
      ↔ ((i < n) × So (has R k) × So (has (own k) i) × ((j : ℕ) → j < c → So (takes j k) → So (has (own j) i) → ⊥))
  unfolding direct_of
  direct_iff k i = (
    λ h.
        let x : (So (has R k) × So (has (own k) i)) × ((j : ℕ) → j < c → So (takes j k) × So (has (own j) i) → ⊥) =
        simp reflect at ((collect_iff n _ i).0 h).1 in
        (((collect_iff n _ i).0 h).0, x.0.0, x.0.1, λ j l s t. x.1 j l (s, t)),
    λ f. (collect_iff n _ i).1 (f.0, simp reflect ((f.1, f.2), λ j l x. f.3 j l x.0 x.1)),
  )

  pub direct_lt : (k : ℕ) → direct_of n c R takes own k < 2 ^ n
  unfolding direct_of
  direct_lt k = collect_lt n _

  -- "Roles outside R have zero rows"
  pub direct_absent : (k : ℕ) → (So (has R k) → ⊥) → direct_of n c R takes own k ≡ 0
  direct_absent k absent = empty_of (direct_of n c R takes own k) (λ i t. absent ((direct_iff k i).0 t).1)

-- ---- one side of a building

-- those that take away stand; what they have the role has too; and a role from which nothing is taken comes at last
pub record Side (c R : ℕ) (takes : ℕ → ℕ → Bool) (own : ℕ → ℕ) : Type 0 where
  pub below : (k : ℕ) → So (has R k) → k < c
  pub stands : (j k : ℕ) → So (takes j k) → So (has R j) × So (has R k)
  pub trans : (i j k : ℕ) → So (takes i j) → So (takes j k) → So (takes i k)
  pub holds : (j k i : ℕ) → So (takes j k) → So (has (own j) i) → So (has (own k) i)
  pub height : ℕ → ℕ
  pub falls : (j k : ℕ) → So (takes j k) → height j < height k

-- j takes away from k, with none between them
abbrev pub NextTo : ℕ → (ℕ → ℕ → Bool) → ℕ → ℕ → Type 0
NextTo c takes j k = So (takes j k) × ((i : ℕ) → i < c → So (takes j i) → So (takes i k) → ⊥)

module _ (n c R : ℕ) (takes : ℕ → ℕ → Bool) (own : ℕ → ℕ) (side : Side c R takes own) where
  taker_below : (j k : ℕ) → So (takes j k) → j < c
  taker_below j k h = side.below j (side.stands j k h).0

  pub takes_differs : (j k : ℕ) → So (takes j k) → j ≢ k
  takes_differs j k h e = lt_irrefl (side.height k) (let l = side.falls j k h in let x : side.height j ≡ side.height k = ap side.height e in omega arith)

  -- the same or one that takes away, and then one that does
  from_at : (i j k : ℕ) → (i ≡ j) ⊎ So (takes i j) → So (takes j k) → So (takes i k)
  from_at i j k h s = ⊎_elim (λ (e : i ≡ j). rw e s) (λ t. side.trans i j k t s) h

  then_at : (i j k : ℕ) → So (takes i j) → (j ≡ k) ⊎ So (takes j k) → So (takes i k)
  then_at i j k s h = ⊎_elim (λ (e : j ≡ k). rw e at s) (λ t. side.trans i j k s t) h

  has_at : (j k i : ℕ) → (j ≡ k) ⊎ So (takes j k) → So (has (own j) i) → So (has (own k) i)
  has_at j k i h t = ⊎_elim (λ (e : j ≡ k). rw e at t) (λ s. side.holds j k i s t) h

  -- whoever has an item, the last that takes it has it itself
  pub last_direct : (k i : ℕ) → i < n → So (has R k) → So (has (own k) i)
      → (j : ℕ) × So (has (direct_of n c R takes own j) i) × ((j ≡ k) ⊎ So (takes j k))
  last_direct k i l h t = go (suc (side.height k)) k (omega arith) h t
    where
      go : (f k : ℕ) → side.height k < f → So (has R k) → So (has (own k) i)
          → (j : ℕ) × So (has (direct_of n c R takes own j) i) × ((j ≡ k) ⊎ So (takes j k))
      go zero k b h t = let z : ⊥ = omega arith in absurd z
      go (suc f) k b h t =
          ⊎_elim
          (λ w.
          let a = (and_iff (takes w.0 k) (has (own w.0) i)).0 w.2 in
          let r = go f w.0 (let x = side.falls w.0 k a.0 in omega arith) (side.stands w.0 k a.0).0 a.1 in
          (r.0, r.1, ◌⊎◌.inr (from_at r.0 w.0 k r.2 a.0)))
          (λ none. (
            k,
            (direct_iff n c R takes own k i).1 (l, h, t, λ j lj s q. none j lj ((and_iff (takes j k) (has (own j) i)).1 (s, q))),
            ◌⊎◌.inl refl,
          ))
          (find c (λ j. takes j k and has (own j) i))

  -- among those that take away from k, one is next to it on the way from j
  pub next_taker : (j k : ℕ) → So (takes j k) → (t : ℕ) × NextTo c takes t k × ((j ≡ t) ⊎ So (takes j t))
  next_taker j k h = go (suc (side.height k)) j (omega arith) h
    where
      go : (f j : ℕ) → side.height k < f + side.height j → So (takes j k) → (t : ℕ) × NextTo c takes t k × ((j ≡ t) ⊎ So (takes j t))
      go zero j b h = let x = side.falls j k h in let z : ⊥ = omega arith in absurd z
      go (suc f) j b h =
          ⊎_elim
          (λ w.
          let a = (and_iff (takes j w.0) (takes w.0 k)).0 w.2 in
          let r = go f w.0 (let x = side.falls j w.0 a.0 in omega arith) a.1 in
          (r.0, r.1, ◌⊎◌.inr (then_at j w.0 r.0 a.0 r.2)))
          (λ none. (j, (h, λ i l p q. none i l ((and_iff (takes j i) (takes i k)).1 (p, q))), ◌⊎◌.inl refl))
          (find c (λ i. takes j i and takes i k))

  -- what a role has itself is told by those next to it alone
  pub direct_next : (k i : ℕ) → i < n → So (has R k)
      → So (has (direct_of n c R takes own k) i) ↔ (So (has (own k) i) × ((j : ℕ) → NextTo c takes j k → So (has (own j) i) → ⊥))
  direct_next k i l h = (
    λ t. let a = (direct_iff n c R takes own k i).0 t in (a.2, λ j x q. a.3 j (taker_below j k x.0) x.0 q),
    λ f.
        (direct_iff n c R takes own k i).1
        (l, h, f.0, λ j _ x q. let w = next_taker j k x in f.1 w.0 w.1 (has_at j w.0 i w.2 q)),
  )

  -- ---- without the roles of a set s

  module _ (s : ℕ) (left : ℕ → ℕ → Bool)
      (left-iff : (j k : ℕ) → So (left j k) ↔ (So (takes j k) × (So (has s j) → ⊥) × (So (has s k) → ⊥))) where
    -- what is direct stays so
    stays_direct : (k i : ℕ) → (So (has s k) → ⊥) → So (has (direct_of n c R takes own k) i) → So (has (direct_of n c (R ∖ s) left own k) i)
    stays_direct k i d t =
        let a = (direct_iff n c R takes own k i).0 t in
        (direct_iff n c (R ∖ s) left own k i).1 (a.0, (∖-iff R s k).1 (a.1, d), a.2, λ j l x q. a.3 j l ((left-iff j k).0 x).0 q)

    -- what becomes direct was taken away by a role of s, and by none that is left
    was_direct : (k i : ℕ) → So (has (direct_of n c (R ∖ s) left own k) i)
        → ((j : ℕ) → So (has s j) → So (takes j k) → So (has (own j) i) → ⊥) → So (has (direct_of n c R takes own k) i)
    was_direct k i t taken =
        let a = (direct_iff n c (R ∖ s) left own k i).0 t in
        let here = (∖-iff R s k).0 a.1 in
        (direct_iff n c R takes own k i).1 (
          a.0,
          here.0,
          a.2,
          λ j l x q. by_test (has s j) (λ y. taken j y x q) (λ y. a.3 j l ((left-iff j k).1 (x, So-not y, here.1)) q),
        )

    -- a role that has none of s next to it keeps what it has itself
    pub direct_same : (k : ℕ) → (So (has s k) → ⊥) → ((t : ℕ) → So (has s t) → NextTo c takes t k → ⊥)
        → direct_of n c (R ∖ s) left own k ≡ direct_of n c R takes own k
    direct_same k d apart =
        same_set (direct_of n c (R ∖ s) left own k) (direct_of n c R takes own k)
        (λ i t.
        was_direct k i t
        (λ j y x q.
        let w = next_taker j k x in
        let tk = w.1.0 in
        ((direct_iff n c (R ∖ s) left own k i).0 t).3 w.0 (taker_below w.0 k tk) ((left-iff w.0 k).1 (tk, (λ z. apart w.0 z w.1), d)) (has_at j w.0 i w.2 q)))
        (λ i t. stays_direct k i d t)

    -- where the roles of s have nothing themselves, all others keep what they have
    pub direct_kept : ((t : ℕ) → So (has s t) → direct_of n c R takes own t ≡ 0) → (k : ℕ) → (So (has s k) → ⊥)
        → direct_of n c (R ∖ s) left own k ≡ direct_of n c R takes own k
    direct_kept nothing k d =
        same_set (direct_of n c (R ∖ s) left own k) (direct_of n c R takes own k)
        (λ i t.
        let a = (direct_iff n c (R ∖ s) left own k i).0 t in
        was_direct k i t
        (λ j y x q.
        let w = last_direct j i a.0 (side.stands j k x).0 q in
        let out : So (has s w.0) → ⊥ = λ z. So-not (has-zero i) (rw (nothing w.0 z) at w.1) in
        let tk = from_at w.0 j k w.2 x in
        a.3 w.0 (taker_below w.0 k tk) ((left-iff w.0 k).1 (tk, out, d)) ((direct_iff n c R takes own w.0 i).0 w.1).2))
        (λ i t. stays_direct k i d t)

  -- ---- without one role t, and with it again

  module _ (t : ℕ) (left : ℕ → ℕ → Bool)
      (left-iff : (j k : ℕ) → So (left j k) ↔ (So (takes j k) × (So (has (single t) j) → ⊥) × (So (has (single t) k) → ⊥))) where
    other : (j : ℕ) → j ≢ t → So (has (single t) j) → ⊥
    other j d x = d (sym ((single_iff t j).0 x))

    module _ (k : ℕ) (h : So (takes t k)) where
      abbrev old : ℕ
      old = direct_of n c (R ∖ single t) left own k

      kept : So (has (single t) k) → ⊥
      kept x = takes_differs t k h ((single_iff t k).0 x)

      -- where t comes back, k has itself what it had less what t has
      pub direct_restored : direct_of n c R takes own k ≡ direct_of n c (R ∖ single t) left own k ∖ own t
      direct_restored =
          same_set (direct_of n c R takes own k) (old ∖ own t)
          (λ i x.
          (∖-iff old (own t) i).1
          (stays_direct (single t) left left-iff k i kept x, λ q. ((direct_iff n c R takes own k i).0 x).3 t (taker_below t k h) h q))
          (λ i x.
          let a = (∖-iff old (own t) i).0 x in
          was_direct (single t) left left-iff k i a.0 (λ j y _ q. let e : t ≡ j = (single_iff t j).0 y in a.1 (rw e q)))

      pub direct_counted : ones (direct_of n c R takes own k) + ones (direct_of n c (R ∖ single t) left own k ∩ own t)
          ≡ ones (direct_of n c (R ∖ single t) left own k)
      direct_counted = ap (λ (x : ℕ). ones x + ones (old ∩ own t)) direct_restored ∙ ones-∖ old (own t)

    -- where t goes, a role next to it takes over what was direct with t and is with no other that is next to it
    pub direct_taken : (k : ℕ) → NextTo c takes t k → (i : ℕ)
        → So (has (direct_of n c (R ∖ single t) left own k ∩ own t) i)
        ↔ (So (has (direct_of n c R takes own t) i) × ((x : ℕ) → NextTo c takes x k → x ≢ t → So (has (own x) i) → ⊥))
    direct_taken k next i =
        let h = next.0 in
        let old = direct_of n c (R ∖ single t) left own k in
        let out : So (has (single t) k) → ⊥ = kept k h in (
          λ y.
              let m = (∩-iff old (own t) i).0 y in
              let a = (direct_iff n c (R ∖ single t) left own k i).0 m.0 in
              let taken : (j : ℕ) → So (takes j k) → j ≢ t → So (has (own j) i) → ⊥ =
              λ j z d q. a.3 j (taker_below j k z) ((left-iff j k).1 (z, other j d, out)) q in (
                (direct_iff n c R takes own t i).1
                    (a.0, (side.stands t k h).0, m.1, λ j _ z q. taken j (side.trans j t k z h) (takes_differs j t z) q),
                λ x z d q. taken x z.0 d q,
              ),
          λ f.
              let b = (direct_iff n c R takes own t i).0 f.0 in
              (∩-iff old (own t) i).1 (
                (direct_iff n c (R ∖ single t) left own k i).1 (
                  b.0,
                  (∖-iff R (single t) k).1 ((side.stands t k h).1, out),
                  side.holds t k i h b.2,
                  λ j l z q.
                      let a = (left-iff j k).0 z in
                      let w = next_taker j k a.0 in
                      equal_or w.0 t
                      (λ (e : w.0 ≡ t).
                      ⊎_elim (λ (g : j ≡ w.0). a.1 ((single_iff t j).1 (sym (g ∙ e)))) (λ v. b.3 j l (rw e at v) q) w.2)
                      (λ d. f.1 w.0 w.1 d (has_at j w.0 i w.2 q)),
                ),
                b.2,
              ),
        )
