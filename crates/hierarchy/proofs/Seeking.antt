-- The immediate seniors of a role k, found from the lowest number up among the standing roles above k.
-- Assumes nothing.
use mathlib.Core.Path.{◌≡◌, sym, ◌∙◌, subst}
use mathlib.Core.Bool.{Bool, false, So}
use mathlib.Core.Logic.{◌⊎◌, ⊎_elim}
use mathlib.Core.List.{List}
use Prim.Native.Nat.{ℕ, ◌*◌, ◌^◌, ◌<◌}
use native.Mathlib.Omega.{arith}
use lib.Dec.{eqb, ltb}
use Rattle.sets.specs.Truth.{◌and◌, when◌then◌else◌}
use Rattle.sets.specs.Sets.{has, ◌∩◌, ◌∪◌, ◌∖◌, single, collect}
use Rattle.sets.proofs.Truth.{by_test, So-not, and_iff, eqb_iff, ltb_iff, when-true, when-false, equal_or}
use Rattle.sets.proofs.Members.{same_set, has-zero, item_of, empty_of}
use Rattle.sets.proofs.Order.{collect_iff, ∩-iff, ∪-iff, ∖-iff, single_iff, proper_trans}
use Rattle.model.specs.Lists.{set_at}
use Rattle.model.specs.Hierarchy.{Roles, candidate_count, permission_set, senior, immediate_juniors}
use Rattle.model.specs.Indexes.{lower}
use Rattle.model.proofs.Reading.{senior_iff, immediate_iff, junior_iff}
use Rattle.model.proofs.Building.{stands_below}
use Rattle.model.proofs.Shortcuts.{lower_iff}
use Rattle.tables.specs.Tables.{HoldsSets}
use Rattle.sets.specs.Extremes.{LowestItem}
use Rattle.hierarchy.specs.Tables.{Numbered, immediate_seniors}
use Rattle.hierarchy.proofs.Building.{ordered}

-- i is an immediate senior of k
abbrev pub Immediate : Roles → ℕ → ℕ → ℕ → Type 0
Immediate ρ R k i = So (has (immediate_juniors ρ R i) k)

-- what is found are immediate seniors; what is left stands; and each standing role above k is found, left, or above one that is found
pub record Sorted (ρ : Roles) (R k found rest : ℕ) : Type 0 where
  pub right : (i : ℕ) → So (has found i) → Immediate ρ R k i
  pub left : (i : ℕ) → So (has rest i) → So (has R i)
  pub every : (i : ℕ) → So (has R i) → So (has (lower ρ i) k)
      → So (has found i) ⊎ (So (has rest i) ⊎ ((f : ℕ) × So (has found f) × So (has (lower ρ i) f)))

-- the same of whatever roles the index is of
abbrev pub Sought : List ℕ → ℕ → ℕ → ℕ → ℕ → Type 0
Sought low R k found rest =
    (ρ : Roles) → Numbered ρ → HoldsSets 2 (candidate_count ρ) (lower ρ) low → R < 2 ^ candidate_count ρ → Sorted ρ R k found rest

-- and of whatever standing set has k in it, and has these roles at k and above
abbrev pub Seeking : List ℕ → ℕ → ℕ → ℕ → ℕ → Type 0
Seeking low k start found rest = (R : ℕ) → start ≡ R ∖ collect 128 (λ i. ltb i k) → So (has R k) → Sought low R k found rest

-- ---- seniors and the index

module _ (ρ : Roles) (n : Numbered ρ) (R : ℕ) (b : R < 2 ^ candidate_count ρ) where
  stands : (i : ℕ) → So (has R i) → i < candidate_count ρ
  stands = stands_below ρ R (ordered ρ R n b)

  below_trans : (i j k : ℕ) → So (has (lower ρ i) j) → So (has (lower ρ j) k) → So (has (lower ρ i) k)
  below_trans i j k x y =
      let p = (lower_iff ρ i j).0 x in
      let q = (lower_iff ρ j k).0 y in
      (lower_iff ρ i k).1 (q.0, proper_trans (permission_set ρ k) (permission_set ρ j) (permission_set ρ i) q.1 p.1)

  above : (i k : ℕ) → So (has R i) → So (has (lower ρ i) k) → k < i
  above i k h x = let p = (lower_iff ρ i k).0 x in n.lower k i p.0 (stands i h) p.1

  senior_of : (i k : ℕ) → So (senior ρ R i k) → So (has R i) × So (has (lower ρ i) k)
  senior_of i k s = let a = (senior_iff ρ R i k).0 s in (a.0, (lower_iff ρ i k).1 (stands k a.1, a.2))

  immediate_of : (i k : ℕ) → Immediate ρ R k i → So (has R i) × So (has (lower ρ i) k)
  immediate_of i k t = senior_of i k ((immediate_iff ρ R i k).0 ((junior_iff ρ R i k).0 t).1).0

  -- no immediate senior lies above a senior
  not_above : (i f k : ℕ) → So (has R k) → Immediate ρ R k i → So (has R f) → So (has (lower ρ f) k) → So (has (lower ρ i) f) → ⊥
  not_above i f k hk t hf x y =
      let a = immediate_of i k t in
      ((immediate_iff ρ R i k).0 ((junior_iff ρ R i k).0 t).1).1 f (stands f hf)
      ((senior_iff ρ R i f).1 (a.0, hf, ((lower_iff ρ i f).0 y).1)) ((senior_iff ρ R f k).1 (hf, hk, ((lower_iff ρ f k).0 x).1))

  module _ (k : ℕ) (hk : So (has R k)) where
    sorted_start : (rest : ℕ) → rest ≡ R ∖ collect 128 (λ i. ltb i k) → Sorted ρ R k 0 rest
    sorted_start rest e =
        record {
          right = λ i t. absurd (So-not (has-zero i) t);
          left = λ i t. ((∖-iff R (collect 128 (λ i. ltb i k)) i).0 (rw e at t)).0;
          every =
              λ i h x.
              ◌⊎◌.inr
              (◌⊎◌.inl
              (rw e
              ((∖-iff R (collect 128 (λ i. ltb i k)) i).1 (
                h,
                λ t.
                    let l : i < k = (ltb_iff i k).0 ((collect_iff 128 (λ i. ltb i k) i).0 t).1 in
                    let g = above i k h x in
                    let z : ⊥ = omega arith in
                    z,
              ))));
        }

    module _ (found rest i : ℕ) (s : Sorted ρ R k found rest) (low : LowestItem 128 rest i) where
      here : So (has R i)
      here = s.left i low.there

      -- above k, and above none that is found
      new : So (has (lower ρ i) k) → lower ρ i ∩ found ≡ 0 → Immediate ρ R k i
      new x e =
          (junior_iff ρ R i k).1 (
            stands k hk,
            (immediate_iff ρ R i k).1 (
              (senior_iff ρ R i k).1 (here, hk, ((lower_iff ρ i k).0 x).1),
              λ j l p q.
                  let a = senior_of i j p in
                  let c = senior_of j k q in
                  ⊎_elim (λ t. none j t a.1)
                  (⊎_elim (λ t. let g = low.least j t in let h = above i j here a.1 in let z : ⊥ = omega arith in z)
                  (λ t. none t.0 t.1 (below_trans i j t.0 a.1 t.2))) (s.every j c.0 c.1),
            ),
          )
        where
          none : (j : ℕ) → So (has found j) → So (has (lower ρ i) j) → ⊥
          none j t y = So-not (has-zero j) (rw e at ((∩-iff (lower ρ i) found j).1 (y, t)))

      pub sorted_put : So (has (lower ρ i) k) → lower ρ i ∩ found ≡ 0 → Sorted ρ R k (found ∪ single i) (rest ∖ single i)
      sorted_put x e =
          record {
            right = λ a t. ⊎_elim (s.right a) (λ y. let d : i ≡ a = (single_iff i a).0 y in rw d at (new x e)) ((∪-iff found (single i) a).0 t);
            left = λ a t. s.left a ((∖-iff rest (single i) a).0 t).0;
            every =
                λ a h y.
                equal_or i a (λ d. ◌⊎◌.inl ((∪-iff found (single i) a).1 (◌⊎◌.inr ((single_iff i a).1 d))))
                (λ d.
                ⊎_elim (λ t. ◌⊎◌.inl ((∪-iff found (single i) a).1 (◌⊎◌.inl t)))
                (⊎_elim (λ t. ◌⊎◌.inr (◌⊎◌.inl ((∖-iff rest (single i) a).1 (t, λ z. d ((single_iff i a).0 z)))))
                (λ t. ◌⊎◌.inr (◌⊎◌.inr (t.0, (∪-iff found (single i) t.0).1 (◌⊎◌.inl t.1), t.2)))) (s.every a h y));
          }

      pub sorted_pass : (So (has (lower ρ i) k) → lower ρ i ∩ found ≡ 0 → ⊥) → Sorted ρ R k found (rest ∖ single i)
      sorted_pass miss =
          record {
            right = s.right;
            left = λ a t. s.left a ((∖-iff rest (single i) a).0 t).0;
            every =
                λ a h y.
                equal_or i a
                (λ (d : i ≡ a).
                let y' = subst (λ (x : ℕ). So (has (lower ρ x) k)) (sym d) y in
                let f = item_of (lower ρ i ∩ found) (miss y') in
                let g = (∩-iff (lower ρ i) found f.0).0 f.1 in
                ◌⊎◌.inr (◌⊎◌.inr (f.0, g.1, subst (λ (x : ℕ). So (has (lower ρ x) f.0)) d g.0)))
                (λ d.
                ⊎_elim ◌⊎◌.inl
                (⊎_elim (λ t. ◌⊎◌.inr (◌⊎◌.inl ((∖-iff rest (single i) a).1 (t, λ z. d ((single_iff i a).0 z))))) (λ t. ◌⊎◌.inr (◌⊎◌.inr t)))
                (s.every a h y));
          }

    sorted_all : (found rest : ℕ) → Sorted ρ R k found rest → rest ≡ 0 → found ≡ immediate_seniors ρ R k
    sorted_all found rest s e =
        let test : ℕ → Bool = λ i. has (immediate_juniors ρ R i) k in
        same_set found (collect (candidate_count ρ) test)
        (λ i t. let m = s.right i t in (collect_iff (candidate_count ρ) test i).1 (stands i (immediate_of i k m).0, m))
        (λ i t.
        let m = ((collect_iff (candidate_count ρ) test i).0 t).1 in
        let a = immediate_of i k m in
        ⊎_elim (λ x. x)
        (⊎_elim (λ x. absurd (So-not (has-zero i) (rw e at x)))
        (λ x. let g = immediate_of x.0 k (s.right x.0 x.1) in absurd (not_above i x.0 k hk m g.0 g.1 x.2)))
        (s.every i a.0 a.1))

  -- a role that does not stand has no seniors
  none_above : (k : ℕ) → has R k ≡ false → immediate_seniors ρ R k ≡ 0
  none_above k h =
      let test : ℕ → Bool = λ i. has (immediate_juniors ρ R i) k in
      empty_of (collect (candidate_count ρ) test)
      (λ i t.
      let m = ((collect_iff (candidate_count ρ) test i).0 t).1 in
      So-not h ((senior_iff ρ R i k).0 ((immediate_iff ρ R i k).0 ((junior_iff ρ R i k).0 m).1).0).1)

-- ---- the code's turns

module _ (low : List ℕ) (R k : ℕ) where
  pub sought_absent : (r : ℕ) → has R k ≡ false → r ≡ 0
      → (ρ : Roles) → Numbered ρ → HoldsSets 2 (candidate_count ρ) (lower ρ) low → R < 2 ^ candidate_count ρ
      → r ≡ immediate_seniors ρ R k
  sought_absent r h e ρ n l b = e ∙ sym (none_above ρ n R b k h)

  module _ (hk : So (has R k)) where
    pub sought_start : (found rest : ℕ) → found ≡ 0 → rest ≡ R ∖ collect 128 (λ i. ltb i k) → Sought low R k found rest
    sought_start found rest ef er ρ n l b = rw ef (sorted_start ρ n R b k hk rest er)

    pub sought_more : (found rest i under found' rest' : ℕ) → Sought low R k found rest → LowestItem 128 rest i → under ≡ set_at 2 low (2 * i)
        → found' ≡ (when has under k and eqb (under ∩ found) 0 then found ∪ single i else found) → rest' ≡ rest ∖ single i → Sought low R k found' rest'
    sought_more found rest i under found' rest' inv least eu ef er ρ n l b =
        let s = inv ρ n l b in
        let d : under ≡ lower ρ i = eu ∙ l i (stands ρ n R b i (s.left i least.there)) in
        let test = has under k and eqb (under ∩ found) 0 in
        let both = and_iff (has under k) (eqb (under ∩ found) 0) in
        by_test test
        (λ t.
        let f : found' ≡ found ∪ single i = ef ∙ when-true test (found ∪ single i) found t in
        let p = both.0 t in
        rw (f, er) (sorted_put ρ n R b k hk found rest i s least (rw d at p.0) (rw d at ((eqb_iff (under ∩ found) 0).0 p.1))))
        (λ t.
        let f : found' ≡ found = ef ∙ when-false test (found ∪ single i) found t in
        rw (f, er)
        (sorted_pass ρ n R b k hk found rest i s least
        (λ x e. So-not t (both.1 (rw d x, (eqb_iff (under ∩ found) 0).1 (rw d e))))))

    pub sought_all : (found rest : ℕ) → Sought low R k found rest → rest ≡ 0
        → (ρ : Roles) → Numbered ρ → HoldsSets 2 (candidate_count ρ) (lower ρ) low → R < 2 ^ candidate_count ρ
        → found ≡ immediate_seniors ρ R k
    sought_all found rest inv e ρ n l b = sorted_all ρ n R b k hk found rest (inv ρ n l b) e
