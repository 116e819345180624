-- A set less the sets of others, taken away one after the other; the maximal roles, found from the highest down.
-- Assumes nothing.
use mathlib.Core.Path.{◌≡◌, sym, ◌∙◌, ap, ap₂}
use mathlib.Core.Bool.{Bool, true, false, So, not}
use mathlib.Core.Logic.{◌↔◌, ◌≢◌, ◌⊎◌, ⊎_elim}
use mathlib.Core.List.{List}
use Prim.Native.Nat.{ℕ, ◌*◌, ◌^◌, ◌<◌}
use native.Mathlib.Omega.{arith}
use lib.Count.{ones}
use lib.Dec.{eqb, ltb}
use borrow.Author.Tests.{not-true, not-false}
use Rattle.sets.specs.Truth.{◌and◌, none, when◌then◌else◌}
use Rattle.sets.specs.Sets.{has, ◌∪◌, ◌∖◌, single}
use Rattle.sets.proofs.Truth.{So-not, and_iff, none_of, none_is, equal_or, eqb_iff, ltb_iff, when-true}
use Rattle.sets.proofs.Members.{has-zero, item_below, same_set, empty_of}
use Rattle.sets.proofs.Order.{collect_iff, ∖-iff, ∖-lt, ∪-iff, single_iff, zero-∪, ∪-zero, subset_iff}
use Rattle.sets.proofs.Counts.{ones_without, ones-subset}
use Rattle.model.specs.Lists.{set_at}
use Rattle.model.specs.Hierarchy.{Roles, candidate_count}
use Rattle.model.specs.Indexes.{lower, maximal}
use Rattle.model.proofs.Shortcuts.{maximal_iff, maximal_highest}
use Rattle.tables.specs.Tables.{HoldsSets}
use Rattle.sets.specs.Extremes.{HighestItem}
use Rattle.hierarchy.specs.Tables.{Numbered, less_all}

pub less_all_iff : (w : ℕ) (ws : List ℕ) (s js p : ℕ)
    → So (has (less_all w ws s js) p)
    ↔ ((p < 64 * w) × So (has s p) × ((j : ℕ) → j < 128 → So (has js j) → So (has (set_at w ws (w * j)) p) → ⊥))
unfolding less_all
less_all_iff w ws s js p =
    let inner : ℕ → ℕ → Bool = λ p j. has js j and has (set_at w ws (w * j)) p in
    let test : ℕ → Bool = λ p. has s p and none 128 (inner p) in (
      λ h.
          let a = (collect_iff (64 * w) test p).0 h in
          let b = (and_iff (has s p) (none 128 (inner p))).0 a.1 in
          (a.0, b.0, λ j l x y. none_is 128 (inner p) b.1 j l ((and_iff (has js j) (has (set_at w ws (w * j)) p)).1 (x, y))),
      λ f.
          (collect_iff (64 * w) test p).1 (
            f.0,
            (and_iff (has s p) (none 128 (inner p))).1
                (f.1, none_of 128 (inner p) (λ j l x. let d = (and_iff (has js j) (has (set_at w ws (w * j)) p)).0 x in f.2 j l d.0 d.1)),
          ),
    )

-- one set is taken away, and its number is done with
pub less_one : (w : ℕ) (ws : List ℕ) (s js j x : ℕ) → j < 128 → So (has js j) → x ≡ set_at w ws (w * j)
    → less_all w ws s js ≡ less_all w ws (s ∖ x) (js ∖ single j)
less_one w ws s js j x lj h e =
    same_set (less_all w ws s js) (less_all w ws (s ∖ x) (js ∖ single j))
    (λ p t.
    let a = (less_all_iff w ws s js p).0 t in
    (less_all_iff w ws (s ∖ x) (js ∖ single j) p).1
    (a.0, (∖-iff s x p).1 (a.1, λ q. a.2 j lj h (rw e at q)), λ i l y z. a.2 i l ((∖-iff js (single j) i).0 y).0 z))
    (λ p t.
    let a = (less_all_iff w ws (s ∖ x) (js ∖ single j) p).0 t in
    let b = (∖-iff s x p).0 a.1 in
    (less_all_iff w ws s js p).1 (
      a.0,
      b.0,
      λ i l y z.
          equal_or j i (λ (d : j ≡ i). b.1 (rw e (rw d z))) (λ d. a.2 i l ((∖-iff js (single j) i).1 (y, λ q. d ((single_iff j i).0 q))) z),
    ))

pub less_none : (w : ℕ) (ws : List ℕ) (s js : ℕ) → s < 2 ^ (64 * w) → js ≡ 0 → s ≡ less_all w ws s js
less_none w ws s js b e =
    same_set s (less_all w ws s js)
    (λ p t. (less_all_iff w ws s js p).1 (item_below (64 * w) s p b t, t, λ j l x y. So-not (has-zero j) (rw e at x)))
    (λ p t. ((less_all_iff w ws s js p).0 t).1)

-- a set without one of its items has fewer
pub fewer : (s j : ℕ) → So (has s j) → ones (s ∖ single j) < ones s
fewer s j h = let x = ones_without s j h in omega arith

-- ---- the maximal roles

pub maximal-none : (ρ : Roles) (s : ℕ) → s ≡ 0 → maximal ρ s ≡ 0
maximal-none ρ s e = empty_of (maximal ρ s) (λ j t. So-not (has-zero j) (rw e at ((maximal_iff ρ s j).0 t).1))

-- the highest is found, and goes with all that lies below it
pub maximal_one : (ρ : Roles) → Numbered ρ → (found rest k : ℕ) → rest < 2 ^ candidate_count ρ → HighestItem 128 rest k
    → found ∪ maximal ρ rest ≡ found ∪ single k ∪ maximal ρ ((rest ∖ lower ρ k) ∖ single k)
maximal_one ρ n found rest k b h =
    ap (λ (x : ℕ). found ∪ x) (maximal_highest ρ n.lower rest k b h.there h.most)
    ∙ same_set (found ∪ (single k ∪ maximal ρ left)) (found ∪ single k ∪ maximal ρ left)
    (λ j t.
    (∪-iff (found ∪ single k) (maximal ρ left) j).1
    (⊎_elim (λ x. ◌⊎◌.inl ((∪-iff found (single k) j).1 (◌⊎◌.inl x)))
    (λ x. ⊎_elim (λ y. ◌⊎◌.inl ((∪-iff found (single k) j).1 (◌⊎◌.inr y))) (λ y. ◌⊎◌.inr y) ((∪-iff (single k) (maximal ρ left) j).0 x))
    ((∪-iff found (single k ∪ maximal ρ left) j).0 t)))
    (λ j t.
    (∪-iff found (single k ∪ maximal ρ left) j).1
    (⊎_elim
    (λ x.
    ⊎_elim (λ y. ◌⊎◌.inl y) (λ y. ◌⊎◌.inr ((∪-iff (single k) (maximal ρ left) j).1 (◌⊎◌.inl y))) ((∪-iff found (single k) j).0 x))
    (λ x. ◌⊎◌.inr ((∪-iff (single k) (maximal ρ left) j).1 (◌⊎◌.inr x))) ((∪-iff (found ∪ single k) (maximal ρ left) j).0 t)))
  where
    left : ℕ
    left = (rest ∖ lower ρ k) ∖ single k

pub fewer_both : (s x k : ℕ) → So (has s k) → ones ((s ∖ x) ∖ single k) < ones s
fewer_both s x k h =
    let a = ones-subset ((s ∖ x) ∖ single k) (s ∖ single k)
    ((subset_iff ((s ∖ x) ∖ single k) (s ∖ single k)).1
    (λ i t. let d = (∖-iff (s ∖ x) (single k) i).0 t in (∖-iff s (single k) i).1 (((∖-iff s x i).0 d.0).0, d.1))) in
    let b = ones_without s k h in
    omega arith

-- what a test for the empty set tells
pub not_empty : (t : Bool) (s : ℕ) → t ≡ eqb s 0 → not t ≡ true → s ≢ 0
not_empty t s e f z = So-not (sym e ∙ not-true t f) ((eqb_iff s 0).1 z)

pub is_empty_lem : (t : Bool) (s : ℕ) → t ≡ eqb s 0 → not t ≡ false → s ≡ 0
is_empty_lem t s e f = (eqb_iff s 0).0 (sym e ∙ not-false t f)

-- what is found of the maximal roles of s, and what is left to look at
abbrev pub Sieved : List ℕ → ℕ → ℕ → ℕ → Type 0
Sieved index s found rest =
    (ρ : Roles) → Numbered ρ → HoldsSets 2 (candidate_count ρ) (lower ρ) index → s < 2 ^ candidate_count ρ
    → (rest < 2 ^ candidate_count ρ) × (maximal ρ s ≡ found ∪ maximal ρ rest)

pub sieved_start : (index : List ℕ) (s found : ℕ) → found ≡ 0 → Sieved index s found s
sieved_start index s found e ρ n h b = (b, sym (ap (λ (x : ℕ). x ∪ maximal ρ s) e ∙ zero-∪ (maximal ρ s)))

pub sieved_more : (index : List ℕ) (s found rest k found' x mid rest' : ℕ) → Sieved index s found rest → HighestItem 128 rest k
    → found' ≡ (when ltb k 128 then found ∪ single k else found) → x ≡ set_at 2 index (2 * k) → mid ≡ rest ∖ x → rest' ≡ mid ∖ single k
    → Sieved index s found' rest'
sieved_more index s found rest k found' x mid rest' inv top ef ex em er ρ n h b =
    let i = inv ρ n h b in
    let lk = item_below (candidate_count ρ) rest k i.0 top.there in
    let f : found' ≡ found ∪ single k = ef ∙ when-true (ltb k 128) (found ∪ single k) found ((ltb_iff k 128).1 top.small) in
    let r : rest' ≡ (rest ∖ lower ρ k) ∖ single k =
    er ∙ ap (λ (y : ℕ). y ∖ single k) (em ∙ ap (λ (y : ℕ). rest ∖ y) (ex ∙ h k lk)) in (
      rw r (∖-lt (candidate_count ρ) (rest ∖ lower ρ k) (single k) (∖-lt (candidate_count ρ) rest (lower ρ k) i.0)),
      i.1 ∙ maximal_one ρ n found rest k i.0 top ∙ sym (ap₂ (λ (y z : ℕ). y ∪ maximal ρ z) f r),
    )

pub sieved_all : (index : List ℕ) (s found rest : ℕ) → Sieved index s found rest → rest ≡ 0
    → (ρ : Roles) → Numbered ρ → HoldsSets 2 (candidate_count ρ) (lower ρ) index → s < 2 ^ candidate_count ρ → found ≡ maximal ρ s
sieved_all index s found rest inv e ρ n h b =
    sym ((inv ρ n h b).1 ∙ ap (λ (x : ℕ). found ∪ x) (maximal-none ρ rest e) ∙ ∪-zero found)
