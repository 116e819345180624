-- The order of a pass: the roles of a worklist, each once, larger key first and ties by lower number.
-- Assumes nothing.
use mathlib.Core.Path.{◌≡◌, refl, sym, ◌∙◌, ap}
use mathlib.Core.Bool.{Bool, So}
use mathlib.Core.Logic.{◌↔◌, ◌≢◌, ◌⊎◌, ⊎_elim}
use mathlib.Core.List.{List, [], ◌∷◌}
use Prim.Native.Nat.{ℕ, zero, suc, ◌<◌, ◌≤◌, ◌^◌, min}
use native.Mathlib.Nat.{lt_irrefl, le_step, lt-suc_self, not-suc-le-zero, suc_inj, le_refl, lt_trans, min-le_left, min-le_right, le_trans}
use native.Mathlib.Omega.{arith}
use lib.Dec.{eqb, ltb}
use lib.Count.{ones}
use lib.Arith.{lt_of_le-ne}
use lib.ListN.{length, get_or}
use Rattle.sets.specs.Truth.{◌and◌, any, none}
use Rattle.sets.specs.Sets.{has, ◌∖◌, single}
use Rattle.sets.proofs.Truth.{by_test, So-not, and_iff, or_iff, eqb_iff, ltb_iff, any_of, any_is, none_of, none_is, either, equal_or, below_suc, when-true, when-false}
use Rattle.sets.proofs.Members.{has-zero, item_below, item_of}
use Rattle.sets.proofs.Order.{∖-iff, ∖-lt, single_iff}
use Rattle.sets.proofs.Counts.{ones_without, ones-zero, ones_some}
use Rattle.model.specs.Machine.{least, before, first, foremost}

-- ---- the least of several numbers

pub least-≤ : (n : ℕ) (f : ℕ → ℕ) (b i : ℕ) → i < n → least n f b ≤ f i
unfolding least
least-≤ zero f b i h = absurd (not-suc-le-zero h)
least-≤ (suc n) f b i h =
    below_suc i n h (λ (e : i ≡ n). rw e (min-le_left (f n) (least n f b))) (λ l. le_trans (min-le_right (f n) (least n f b)) (least-≤ n f b i l))

pub least-≤-start : (n : ℕ) (f : ℕ → ℕ) (b : ℕ) → least n f b ≤ b
unfolding least
least-≤-start zero f b = le_refl b
least-≤-start (suc n) f b = le_trans (min-le_right (f n) (least n f b)) (least-≤-start n f b)

-- it is one of them, or b
pub least_is : (n : ℕ) (f : ℕ → ℕ) (b : ℕ) → (least n f b ≡ b) ⊎ ((i : ℕ) × (i < n) × (least n f b ≡ f i))
unfolding least
least_is zero f b = ◌⊎◌.inl refl
least_is (suc n) f b =
    either (f n) (least n f b)
    (λ l. let e : min (f n) (least n f b) ≡ f n = omega arith in ◌⊎◌.inr (n, lt-suc_self n, e))
    (λ l.
    let e : min (f n) (least n f b) ≡ least n f b = omega arith in
    ⊎_elim (λ d. ◌⊎◌.inl (e ∙ d)) (λ w. ◌⊎◌.inr (w.0, le_step w.1, e ∙ w.2)) (least_is n f b))

-- ---- the lowest index that passes a test

pub first_passes : (n : ℕ) (f : ℕ → Bool) → So (any n f) → (first n f < n) × So (f (first n f))
unfolding first
first_passes zero f h = absurd (not-suc-le-zero (any_is zero f h).1)
first_passes (suc n) f h =
    by_test (any n f)
    (λ t. let r = first_passes n f t in let e = when-true (any n f) (first n f) n t in (rw e (le_step r.0), rw e r.1))
    (λ t.
    let e = when-false (any n f) (first n f) n t in
    let w = any_is (suc n) f h in
    (rw e (lt-suc_self n), rw e (below_suc w.0 n w.1 (λ (d : w.0 ≡ n). rw d at w.2) (λ l. absurd (So-not t (any_of n f w.0 l w.2))))))

pub first-lowest : (n : ℕ) (f : ℕ → Bool) (i : ℕ) → i < n → So (f i) → first n f ≤ i
unfolding first
first-lowest zero f i h t = absurd (not-suc-le-zero h)
first-lowest (suc n) f i h t =
    below_suc i n h
    (λ (e : i ≡ n).
    by_test (any n f) (λ a. rw (when-true (any n f) (first n f) n a) (let r = (first_passes n f a).0 in omega arith))
    (λ a. rw (when-false (any n f) (first n f) n a) (omega arith)))
    (λ l. rw (when-true (any n f) (first n f) n (any_of n f i l t)) (first-lowest n f i l t))

-- ---- the order

module _ (key : ℕ → ℕ) where
  pub before_iff : (k j : ℕ) → So (before key k j) ↔ ((key j < key k) ⊎ ((key k ≡ key j) × (k < j)))
  unfolding before
  before_iff k j = (
    λ h.
        ⊎_elim (λ a. ◌⊎◌.inl ((ltb_iff (key j) (key k)).0 a))
        (λ a. let b = (and_iff (eqb (key k) (key j)) (ltb k j)).0 a in ◌⊎◌.inr ((eqb_iff (key k) (key j)).0 b.0, (ltb_iff k j).0 b.1))
        ((or_iff (ltb (key j) (key k)) (eqb (key k) (key j) and ltb k j)).0 h),
    λ d.
        (or_iff (ltb (key j) (key k)) (eqb (key k) (key j) and ltb k j)).1
        (⊎_elim (λ a. ◌⊎◌.inl ((ltb_iff (key j) (key k)).1 a))
        (λ a. ◌⊎◌.inr ((and_iff (eqb (key k) (key j)) (ltb k j)).1 ((eqb_iff (key k) (key j)).1 a.0, (ltb_iff k j).1 a.1))) d),
  )

  pub before_irrefl : (k : ℕ) → So (before key k k) → ⊥
  before_irrefl k h = ⊎_elim (λ a. lt_irrefl (key k) a) (λ a. lt_irrefl k a.1) ((before_iff k k).0 h)

  pub before_trans : (i j k : ℕ) → So (before key i j) → So (before key j k) → So (before key i k)
  before_trans i j k p q =
      (before_iff i k).1
      (⊎_elim
      (λ a. ⊎_elim (λ b. ◌⊎◌.inl (lt_trans b a)) (λ b. ◌⊎◌.inl (let e = b.0 in omega arith)) ((before_iff j k).0 q))
      (λ a. ⊎_elim (λ b. ◌⊎◌.inl (let e = a.0 in omega arith)) (λ b. ◌⊎◌.inr (a.0 ∙ b.0, lt_trans a.1 b.1)) ((before_iff j k).0 q))
      ((before_iff i j).0 p))

  -- of two different roles one goes before the other
  pub before-total {ℓ} : {C : Type ℓ} (i j : ℕ) → i ≢ j → (So (before key i j) → C) → (So (before key j i) → C) → C
  before-total i j d l r =
      either (key j) (key i) (λ a. l ((before_iff i j).1 (◌⊎◌.inl a)))
      (λ a.
      either (key i) (key j) (λ b. r ((before_iff j i).1 (◌⊎◌.inl b)))
      (λ b.
      let e : key i ≡ key j = omega arith in
      either i j (λ x. l ((before_iff i j).1 (◌⊎◌.inr (e, x))))
      (λ x. let y : j < i = lt_of_le-ne x (λ z. d (sym z)) in r ((before_iff j i).1 (◌⊎◌.inr (sym e, y))))))

  -- among the roles of s below n there is one that no other goes before, or there is none
  best : (n s : ℕ)
      → ((k : ℕ) × (k < n) × So (has s k) × ((j : ℕ) → j < n → So (has s j) → So (before key j k) → ⊥)) ⊎ ((j : ℕ) → j < n → So (has s j) → ⊥)
  best zero s = ◌⊎◌.inr (λ j l. absurd (not-suc-le-zero l))
  best (suc n) s =
      by_test (has s n)
      (λ t.
      ⊎_elim
      (λ w.
      by_test (before key n w.0)
      (λ b.
      ◌⊎◌.inl (
        n,
        lt-suc_self n,
        t,
        λ j l h p.
            below_suc j n l (λ (e : j ≡ n). before_irrefl n (rw e at p)) (λ lj. w.3 j lj h (before_trans j n w.0 p b)),
      ))
      (λ b. ◌⊎◌.inl (w.0, le_step w.1, w.2, λ j l h p. below_suc j n l (λ (e : j ≡ n). So-not b (rw e at p)) (λ lj. w.3 j lj h p))))
      (λ f. ◌⊎◌.inl (n, lt-suc_self n, t, λ j l h p. below_suc j n l (λ (e : j ≡ n). before_irrefl n (rw e at p)) (λ lj. f j lj h)))
      (best n s))
      (λ t.
      let out : (j : ℕ) → j < suc n → So (has s j) → (j < n → ⊥) → ⊥ = λ j l h f. below_suc j n l (λ (e : j ≡ n). So-not t (rw e at h)) f in
      ⊎_elim (λ w. ◌⊎◌.inl (w.0, le_step w.1, w.2, λ j l h p. out j l h (λ lj. w.3 j lj h p))) (λ f. ◌⊎◌.inr (λ j l h. out j l h (λ lj. f j lj h)))
      (best n s))

  module _ (c s : ℕ) (b : s < 2 ^ c) where
    -- the foremost role of a set is in it, and no other of the set goes before it
    pub foremost_is : s ≢ 0 → So (has s (foremost c key s)) × ((j : ℕ) → So (has s j) → So (before key j (foremost c key s)) → ⊥)
    unfolding foremost
    foremost_is d =
        let test : ℕ → Bool = λ k. has s k and none c (λ j. has s j and before key j k) in
        let some : So (any c test) =
        ⊎_elim
        (λ w.
        any_of c test w.0 w.1
        ((and_iff (has s w.0) (none c (λ j. has s j and before key j w.0))).1
        (w.2, none_of c (λ j. has s j and before key j w.0) (λ j l x. let y = (and_iff (has s j) (before key j w.0)).0 x in w.3 j l y.0 y.1))))
        (λ f. let i = item_of s d in absurd (f i.0 (item_below c s i.0 b i.1) i.1)) (best c s) in
        let k = first c test in
        let p = (and_iff (has s k) (none c (λ j. has s j and before key j k))).0 (first_passes c test some).1 in
        (p.0, λ j h q. none_is c (λ j. has s j and before key j k) p.1 j (item_below c s j b h) ((and_iff (has s j) (before key j k)).1 (h, q)))

    pub foremost_has : s ≢ 0 → So (has s (foremost c key s))
    foremost_has d = (foremost_is d).0

    -- it is the only such role
    pub foremost_only : (k : ℕ) → So (has s k) → ((j : ℕ) → So (has s j) → So (before key j k) → ⊥) → foremost c key s ≡ k
    foremost_only k h f =
        let d : s ≢ 0 = λ (e : s ≡ 0). So-not (has-zero k) (rw e at h) in
        let r = foremost_is d in
        equal_or (foremost c key s) k (λ e. e) (λ x. before-total (foremost c key s) k x (λ p. absurd (f (foremost c key s) r.0 p)) (λ p. absurd (r.1 k h p)))

-- the roles of a set in the order in which a pass takes them up
unfoldable pub order : ℕ → (ℕ → ℕ) → ℕ → ℕ → List ℕ
order c key zero s = []
order c key (suc left) s = foremost c key s ∷ order c key left (s ∖ single (foremost c key s))

module _ (c : ℕ) (key : ℕ → ℕ) where
  pub order_length : (left s : ℕ) → length (order c key left s) ≡ left
  unfolding order
  order_length zero s = refl
  order_length (suc left) s = ap suc (order_length left (s ∖ single (foremost c key s)))

  nonempty : (left s : ℕ) → ones s ≡ suc left → s ≢ 0
  nonempty left s e d = let z : ones s ≡ 0 = ap ones d ∙ ones-zero in let w : ⊥ = omega arith in w

  -- one fewer is left
  pub left_after : (left s : ℕ) → s < 2 ^ c → ones s ≡ suc left → ones (s ∖ single (foremost c key s)) ≡ left
  left_after left s b e = suc_inj (ones_without s (foremost c key s) (foremost_has key c s b (nonempty left s e)) ∙ e)

  -- it is a rearrangement: every role of the set, each at one place
  pub order_holds : (left s : ℕ) → s < 2 ^ c → ones s ≡ left → (k : ℕ) → So (has s k) → (i : ℕ) × (i < left) × (get_or (order c key left s) i 0 ≡ k)
  unfolding order
  order_holds zero s b e k h = absurd (lt_irrefl 0 (rw e at (ones_some s k h)))
  order_holds (suc left) s b e k h =
      let f = foremost c key s in
      equal_or f k (λ d. (0, omega arith, d))
      (λ d.
      let w = order_holds left (s ∖ single f) (∖-lt c s (single f) b) (left_after left s b e) k ((∖-iff s (single f) k).1 (h, λ t. d ((single_iff f k).0 t))) in
      (suc w.0, omega (arith, w.1), w.2))

  pub order_within : (left s : ℕ) → s < 2 ^ c → ones s ≡ left → (i : ℕ) → i < left → So (has s (get_or (order c key left s) i 0))
  unfolding order
  order_within zero s b e i h = absurd (not-suc-le-zero h)
  order_within (suc left) s b e zero h = foremost_has key c s b (nonempty left s e)
  order_within (suc left) s b e (suc i) h =
      ((∖-iff s (single (foremost c key s)) (get_or (order c key left (s ∖ single (foremost c key s))) i 0)).0
      (order_within left (s ∖ single (foremost c key s)) (∖-lt c s (single (foremost c key s)) b) (left_after left s b e) i (omega arith))).0

  -- it is sorted, so no role comes twice
  pub order_sorted : (left s : ℕ) → s < 2 ^ c → ones s ≡ left → (i j : ℕ) → i < j → j < left
      → So (before key (get_or (order c key left s) i 0) (get_or (order c key left s) j 0))
  unfolding order
  order_sorted zero s b e i j lij lj = absurd (not-suc-le-zero lj)
  order_sorted (suc left) s b e zero zero lij lj = absurd (not-suc-le-zero lij)
  order_sorted (suc left) s b e zero (suc j) lij lj =
      let f = foremost c key s in
      let rest = s ∖ single f in
      let k = get_or (order c key left rest) j 0 in
      let d = (∖-iff s (single f) k).0 (order_within left rest (∖-lt c s (single f) b) (left_after left s b e) j (omega arith)) in
      before-total key f k (λ x. d.1 ((single_iff f k).1 x)) (λ p. p) (λ p. absurd ((foremost_is key c s b (nonempty left s e)).1 k d.0 p))
  order_sorted (suc left) s b e (suc i) zero lij lj = absurd (not-suc-le-zero lij)
  order_sorted (suc left) s b e (suc i) (suc j) lij lj =
      order_sorted left (s ∖ single (foremost c key s)) (∖-lt c s (single (foremost c key s)) b) (left_after left s b e) i j (omega arith) (omega arith)
