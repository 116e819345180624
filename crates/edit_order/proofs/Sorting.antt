-- The roles of a worklist by their redundancy, put in one by one.
-- Assumes nothing.
use mathlib.Core.Path.{◌≡◌, refl, sym, ◌∙◌, ap}
use mathlib.Core.Bool.{So}
use mathlib.Core.Logic.{◌↔◌, ◌≢◌, ◌⊎◌, ⊎_elim}
use mathlib.Core.List.{List}
use Prim.Native.Nat.{ℕ, ◌^◌, ◌≤◌, ◌<◌}
use native.Mathlib.Omega.{arith}
use lib.Dec.{ltb}
use lib.ListN.{length, get_or, set, replicate, length-map, length-set, length-replicate, get_or-replicate}
use lib.Seq.{map-set, get_or-set_same, get_or-set_other}
use Rattle.std.proofs.lemmas.List.{get_or-map}
use Rattle.sets.specs.Held.{set_of}
use Rattle.sets.specs.declared.set.Set.{Set}
use Rattle.sets.specs.Truth.{when◌then◌else◌}
use Rattle.sets.specs.Sets.{has, ◌∪◌, ◌∖◌, single}
use Rattle.sets.proofs.Truth.{equal_or, So-not, ltb_iff, when-true}
use Rattle.sets.proofs.Members.{has-zero, item_below}
use Rattle.sets.proofs.Order.{∪-iff, ∖-iff, single_iff}
use Rattle.model.specs.Hierarchy.{candidate_count}
use Rattle.model.specs.Machine.{redundancy}
use Rattle.model.specs.Record.{Limits}
use Rattle.model.specs.State.{State, roles_of}
use Rattle.edit_order.specs.Ranking.{sets_of, Keyed}
use Rattle.edit_work.specs.declared.work.Work.{Work}
use Rattle.edit_work.specs.Work.{Prepared}

-- ---- the sets at the ranks

-- the set at a rank
pub rank_is : (ranks : List (Set 2)) (q : ℕ) (d : Set 2) → q < length ranks → get_or (sets_of ranks) q 0 ≡ set_of (get_or ranks q d)
unfolding sets_of
rank_is ranks q d h = get_or-map set_of ranks q d 0 h

-- a set put in at a rank
pub rank_set : (ranks : List (Set 2)) (q : ℕ) (x : Set 2) → sets_of (set ranks q x) ≡ set (sets_of ranks) q (set_of x)
unfolding sets_of
rank_set ranks q x = map-set set_of ranks q x

pub ranks_length : (ranks : List (Set 2)) → length (sets_of ranks) ≡ length ranks
unfolding sets_of
ranks_length ranks = length-map ranks set_of

-- as the ranks are begun: one for each, with no roles
pub ranks_all : (none : Set 2) → length (sets_of (replicate 129 none)) ≡ 129
ranks_all none = ranks_length (replicate 129 none) ∙ length-replicate 129 none

pub ranks_none : (none : Set 2) → set_of none ≡ 0 → (q : ℕ) → q ≤ 128 → get_or (sets_of (replicate 129 none)) q 0 ≡ 0
ranks_none none e q l =
    let inside : q < 129 = omega arith in
    rank_is (replicate 129 none) q none (rw (length-replicate 129 none) inside) ∙ ap set_of (get_or-replicate 129 q none none inside) ∙ e

-- ---- the roles that are not in `rest` are at their ranks

pub record Sorting (work : Work) (c counted worklist : ℕ) (ranks : List ℕ) (rest : ℕ) : Type 0 where
  pub size : length ranks ≡ 129
  pub within : (k : ℕ) → So (has rest k) → So (has worklist k)
  pub absent : (k q : ℕ) → So (has rest k) → q ≤ c → So (has (get_or ranks q 0) k) → ⊥
  pub done : (st : State) → Limits st → candidate_count (roles_of st) ≡ c → Prepared (roles_of st) work → (k : ℕ) → So (has worklist k) → (So (has rest k) → ⊥)
      → (redundancy (roles_of st) counted k ≤ c) × ((q : ℕ) → q ≤ c → So (has (get_or ranks q 0) k) ↔ (q ≡ redundancy (roles_of st) counted k))

pub sorting_start : (work : Work) (c counted worklist : ℕ) (ranks : List ℕ) → length ranks ≡ 129 → ((q : ℕ) → q ≤ c → get_or ranks q 0 ≡ 0) → Sorting work c counted worklist ranks worklist
sorting_start work c counted worklist ranks size zero =
    record {
      size = size;
      within = λ k t. t;
      absent = λ k q t l h. So-not (has-zero k) (rw (zero q l) at h);
      done = λ st lim n P k t out. absurd (out t);
    }

module _ (work : Work) (c counted worklist : ℕ) (ranks : List ℕ) (rest : ℕ) (inv : Sorting work c counted worklist ranks rest) where
  pub sorting_below : (k : ℕ) → worklist < 2 ^ c → So (has rest k) → k < c
  sorting_below k b there = item_below c worklist k b (inv.within k there)

  -- the next role, k, is put in at its rank
  module _ (k q x y : ℕ) (there : So (has rest k)) (small : k < 128) (few : c ≤ 128)
      (tells : (q ≤ c) × ((st : State) → Limits st → candidate_count (roles_of st) ≡ c → Prepared (roles_of st) work → q ≡ redundancy (roles_of st) counted k))
      (ex : x ≡ get_or ranks q 0) (ey : y ≡ (when ltb k 128 then x ∪ single k else x)) where
    abbrev next : List ℕ
    next = set ranks q y

    put : (j i : ℕ) → So (has (get_or next j 0) i) ↔ (So (has (get_or ranks j 0) i) ⊎ ((j ≡ q) × (i ≡ k)))
    put j i =
        let l = tells.0 in
        let e : y ≡ get_or ranks q 0 ∪ single k = ey ∙ when-true (ltb k 128) (x ∪ single k) x ((ltb_iff k 128).1 small) ∙ ap (λ (z : ℕ). z ∪ single k) ex in
        let same : get_or next q 0 ≡ get_or ranks q 0 ∪ single k = get_or-set_same ranks q y 0 (let s = inv.size in omega arith) ∙ e in
        let other : j ≢ q → get_or next j 0 ≡ get_or ranks j 0 =
        λ d. get_or-set_other ranks q j y 0 d in
        equal_or j q
        (λ (d : j ≡ q). (
          λ t.
              ⊎_elim (λ z. ◌⊎◌.inl (rw d z)) (λ z. ◌⊎◌.inr (d, sym ((single_iff k i).0 z)))
              ((∪-iff (get_or ranks q 0) (single k) i).0 (rw same at (rw d at t))),
          λ t.
              rw d
              (rw same
              ((∪-iff (get_or ranks q 0) (single k) i).1 (⊎_elim (λ z. ◌⊎◌.inl (rw d at z)) (λ z. ◌⊎◌.inr ((single_iff k i).1 (sym z.1))) t))),
        ))
        (λ d. (λ t. ◌⊎◌.inl (rw (other d) at t), λ t. rw (other d) (⊎_elim (λ z. z) (λ z. absurd (d z.0)) t)))

    pub sorting_more : (rest' : ℕ) → rest' ≡ rest ∖ single k → Sorting work c counted worklist next rest'
    sorting_more rest' er =
        let left : (i : ℕ) → So (has rest' i) → So (has rest i) × (i ≢ k) =
        λ i t. let a = (∖-iff rest (single k) i).0 (rw er at t) in (a.0, λ e. a.1 ((single_iff k i).1 (sym e))) in
        record {
          size = length-set ranks q y ∙ inv.size;
          within = λ i t. inv.within i (left i t).0;
          absent = λ i j t l h. ⊎_elim (λ z. inv.absent i j (left i t).0 l z) (λ z. (left i t).1 z.1) ((put j i).0 h);
          done = λ st lim n P i t out.
              equal_or i k
              (λ (d : i ≡ k).
              let e : q ≡ redundancy (roles_of st) counted k =
              tells.1 st lim n P in
              rw d (
                rw (sym e) tells.0,
                λ j l. (
                  λ h. ⊎_elim (λ z. absurd (inv.absent k j there l z)) (λ z. z.0 ∙ e) ((put j k).0 h),
                  λ z. (put j k).1 (◌⊎◌.inr (z ∙ sym e, refl)),
                ),
              ))
              (λ d.
              let o = inv.done st lim n P i t (λ z. out (rw er ((∖-iff rest (single k) i).1 (z, λ w. d (sym ((single_iff k i).0 w)))))) in (
                o.0,
                λ j l. (
                  λ h. (o.1 j l).0 (⊎_elim (λ z. z) (λ z. absurd (d z.1)) ((put j i).0 h)),
                  λ z. (put j i).1 (◌⊎◌.inl ((o.1 j l).1 z)),
                ),
              ));
        }

  pub sorting_all : rest ≡ 0 → (st : State) → Limits st → candidate_count (roles_of st) ≡ c → Prepared (roles_of st) work
      → Keyed c ranks worklist (redundancy (roles_of st) counted)
  sorting_all e st lim n P k t = inv.done st lim n P k t (λ x. So-not (has-zero k) (rw e at x))
