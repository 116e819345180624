-- Review: it is a list of accepted restorations, what holds when it ends, and that it ends by itself.
-- Assumes nothing.
use mathlib.Core.Path.{◌≡◌, refl, sym, ◌∙◌}
use mathlib.Core.Bool.{false, So}
use mathlib.Core.Logic.{◌≢◌, ◌⊎◌}
use Prim.Native.Nat.{ℕ, zero, suc, ◌+◌, ◌*◌, ◌<◌, ◌≤◌, ◌^◌}
use native.Mathlib.Nat.{le_refl, le_trans, not-suc-le-zero, zero-add, suc-mul}
use native.Mathlib.Omega.{arith}
use lib.Dec.{eqb, ltb}
use lib.Count.{ones, ones-le}
use borrow.Author.Tests.{ltb-false}
use Rattle.sets.specs.Truth.{when◌then◌else◌}
use Rattle.sets.specs.Sets.{has, ◌∪◌, single, subset}
use Rattle.sets.proofs.Truth.{by_test, So-not, eqb_iff, ltb_iff, below_suc, when-true, when-false}
use Rattle.sets.proofs.Order.{∪-iff, ∪-lt, single_lt, subset_iff, subset_refl, subset_trans}
use Rattle.sets.proofs.Counts.{ones_with}
use Rattle.model.specs.Hierarchy.{Roles, candidate_count}
use Rattle.model.specs.Quality.{Weights, quality}
use Rattle.model.specs.Machine.{Run, after_stay, after_restore, try_restore, review_to, review_passes, reviewed, begin}

-- S comes from R by n restorations, each accepted
pub data Restores (ρ : Roles) (R : ℕ) : ℕ → ℕ → Type 0 where
  none : Restores ρ R 0 R
  one_more : {n : ℕ} {S : ℕ} (k T : ℕ) → Restores ρ R n S → k < candidate_count ρ → has S k ≡ false → T ≡ S ∪ single k → Restores ρ R (suc n) T

module _ (ρ : Roles) (w : Weights) where
  abbrev after : ℕ → ℕ → ℕ
  after R k = quality ρ w (R ∪ single k)

  -- ---- one candidate: three cases

  pub try_one {ℓ} : {C : Type ℓ} (k : ℕ) (r : Run)
      → (So (has r.standing k) → try_restore ρ w k r ≡ r → C)
      → (has r.standing k ≡ false → after r.standing k < r.reference → try_restore ρ w k r ≡ after_restore k (after r.standing k) r → C)
      → (has r.standing k ≡ false → r.reference ≤ after r.standing k → try_restore ρ w k r ≡ after_stay r → C)
      → C
  unfolding try_restore
  try_one k r stands restores stays =
      let s = has r.standing k in
      let q' = after r.standing k in
      let rest = when ltb q' r.reference then after_restore k q' r else after_stay r in
      by_test s (λ e. stands e (when-true s r rest e))
      (λ e.
      let skip = when-false s r rest e in
      by_test (ltb q' r.reference) (λ b. restores e ((ltb_iff q' r.reference).0 b) (skip ∙ when-true (ltb q' r.reference) (after_restore k q' r) (after_stay r) b))
      (λ b. stays e (ltb-false q' r.reference b) (skip ∙ when-false (ltb q' r.reference) (after_restore k q' r) (after_stay r) b)))

  -- ---- what holds all along, from the standing set R on

  pub record RunFrom (R : ℕ) (r : Run) : Type 0 where
    pub below : r.standing < 2 ^ candidate_count ρ
    pub within : So (subset R r.standing)
    pub quality_now : r.reference ≡ quality ρ w r.standing
    pub counts : r.changed + ones R ≡ ones r.standing
    pub restores : Restores ρ R r.changed r.standing

  pub run_on : (R k : ℕ) (r : Run) → k < candidate_count ρ → RunFrom R r → RunFrom R (try_restore ρ w k r)
  unfolding after_restore after_stay
  run_on R k r lk g =
      try_one k r (λ _ e. rw e g)
      (λ a _ e.
      rw e
      (record {
        below = ∪-lt (candidate_count ρ) r.standing (single k) g.below (single_lt (candidate_count ρ) k lk);
        within = subset_trans R r.standing (r.standing ∪ single k) g.within
            ((subset_iff r.standing (r.standing ∪ single k)).1 (λ i t. (∪-iff r.standing (single k) i).1 (◌⊎◌.inl t)));
        quality_now = refl;
        counts = let o = ones_with r.standing k a in let x = g.counts in omega arith;
        restores = one_more k (r.standing ∪ single k) g.restores lk a refl;
      }))
      (λ _ _ e.
      rw e
      (record {
        below = g.below;
        within = g.within;
        quality_now = g.quality_now;
        counts = g.counts;
        restores = g.restores;
      }))

  pub never_fewer : (k : ℕ) (r : Run) → r.changed ≤ (try_restore ρ w k r).changed
  unfolding after_restore after_stay
  never_fewer k r = try_one k r (λ _ e. rw e (le_refl r.changed)) (λ _ _ e. rw e (omega arith)) (λ _ _ e. rw e (le_refl r.changed))

  pub one_examined : (k : ℕ) (r : Run) → (try_restore ρ w k r).examined ≤ suc r.examined
  unfolding after_restore after_stay
  one_examined k r = try_one k r (λ _ e. rw e (omega arith)) (λ _ _ e. rw e (omega arith)) (λ _ _ e. rw e (omega arith))

  -- ---- the candidates below n, by growing number

  pub to_run : (R n : ℕ) (r : Run) → n ≤ candidate_count ρ → RunFrom R r → RunFrom R (review_to ρ w n r)
  unfolding review_to
  to_run R zero r l g = g
  to_run R (suc n) r l g = run_on R n (review_to ρ w n r) l (to_run R n r (omega arith) g)

  pub to_never_fewer : (n : ℕ) (r : Run) → r.changed ≤ (review_to ρ w n r).changed
  unfolding review_to
  to_never_fewer zero r = le_refl r.changed
  to_never_fewer (suc n) r = le_trans (to_never_fewer n r) (never_fewer n (review_to ρ w n r))

  pub to_examined : (n : ℕ) (r : Run) → (review_to ρ w n r).examined ≤ r.examined + n
  unfolding review_to
  to_examined zero r = omega arith
  to_examined (suc n) r = let h = to_examined n r in let x = one_examined n (review_to ρ w n r) in omega arith

  -- where nothing was restored, the standing set is as it was, and no absent candidate below n would lower q
  pub none_restored : (n : ℕ) (r : Run) → (review_to ρ w n r).changed ≡ r.changed
      → ((review_to ρ w n r).standing ≡ r.standing) × ((review_to ρ w n r).reference ≡ r.reference)
      × ((k : ℕ) → k < n → has r.standing k ≡ false → r.reference ≤ after r.standing k)
  unfolding review_to after_restore after_stay
  none_restored zero r same = (refl, refl, λ k l. absurd (not-suc-le-zero l))
  none_restored (suc n) r same =
      let before = review_to ρ w n r in
      let unchanged : before.changed ≡ r.changed = let x = to_never_fewer n r in let y = never_fewer n before in omega arith in
      let ih = none_restored n r unchanged in
      let here : ((try_restore ρ w n before).standing ≡ before.standing) × ((try_restore ρ w n before).reference ≡ before.reference)
      × (has before.standing n ≡ false → before.reference ≤ after before.standing n) =
      try_one n before (λ s e. rw e (refl, refl, λ a. absurd (So-not a s)))
      (λ _ _ e. let x : suc before.changed ≡ r.changed = rw e at same in let z : ⊥ = omega arith in absurd z) (λ _ l e. rw e (refl, refl, λ _. l)) in (
        here.0 ∙ ih.0,
        here.1 ∙ ih.1,
        λ k l a.
            below_suc k n l (λ (d : k ≡ n). rw d (rw (ih.0, ih.1) at (here.2 (rw ih.0 (rw d at a))))) (λ b. ih.2 k b a),
      )

  -- ---- passes

  -- "no single absent candidate would lower q"
  abbrev pub Closed : Run → Type 0
  Closed r = (k : ℕ) → k < candidate_count ρ → has r.standing k ≡ false → quality ρ w r.standing ≤ after r.standing k

  closed_by_pass : (R : ℕ) (r : Run) → RunFrom R r → (review_to ρ w (candidate_count ρ) r).changed ≡ r.changed → Closed (review_to ρ w (candidate_count ρ) r)
  closed_by_pass R r g same k lk a =
      let n = none_restored (candidate_count ρ) r same in
      rw n.0 (rw g.quality_now at (n.2 k lk (rw n.0 at a)))

  -- c + 1 passes are enough
  pub passes_end : (R fuel : ℕ) (r : Run) → RunFrom R r → candidate_count ρ < fuel + r.changed
      → RunFrom R (review_passes ρ w fuel r) × Closed (review_passes ρ w fuel r)
  unfolding review_passes
  passes_end R zero r g l =
      let x = g.counts in let y = ones-le (candidate_count ρ) r.standing g.below in let z : ⊥ = omega arith in absurd z
  passes_end R (suc fuel) r g l =
      let next = review_to ρ w (candidate_count ρ) r in
      let rest = review_passes ρ w fuel next in
      let g' = to_run R (candidate_count ρ) r (le_refl (candidate_count ρ)) g in
      by_test (eqb next.changed r.changed)
      (λ d. rw (when-true (eqb next.changed r.changed) next rest d) (g', closed_by_pass R r g ((eqb_iff next.changed r.changed).0 d)))
      (λ d.
      let x = to_never_fewer (candidate_count ρ) r in
      let y : next.changed ≢ r.changed = λ z. So-not d ((eqb_iff next.changed r.changed).1 z) in
      rw (when-false (eqb next.changed r.changed) next rest d) (passes_end R fuel next g' (omega arith)))

  -- more fuel changes nothing
  pub passes_fuel : (R fuel : ℕ) (r : Run) → RunFrom R r → candidate_count ρ < fuel + r.changed → review_passes ρ w (suc fuel) r ≡ review_passes ρ w fuel r
  unfolding review_passes
  passes_fuel R zero r g l =
      let x = g.counts in let y = ones-le (candidate_count ρ) r.standing g.below in let z : ⊥ = omega arith in absurd z
  passes_fuel R (suc fuel) r g l =
      let next = review_to ρ w (candidate_count ρ) r in
      let more = review_passes ρ w (suc fuel) next in
      let rest = review_passes ρ w fuel next in
      by_test (eqb next.changed r.changed)
      (λ d. when-true (eqb next.changed r.changed) next more d ∙ sym (when-true (eqb next.changed r.changed) next rest d))
      (λ d.
      let x = to_never_fewer (candidate_count ρ) r in
      let y : next.changed ≢ r.changed = λ z. So-not d ((eqb_iff next.changed r.changed).1 z) in
      when-false (eqb next.changed r.changed) next more d
      ∙ passes_fuel R fuel next (to_run R (candidate_count ρ) r (le_refl (candidate_count ρ)) g) (omega arith)
      ∙ sym (when-false (eqb next.changed r.changed) next rest d))

  pub passes_examined : (fuel : ℕ) (r : Run) → (review_passes ρ w fuel r).examined ≤ r.examined + fuel * candidate_count ρ
  unfolding review_passes
  passes_examined zero r = omega arith
  passes_examined (suc fuel) r =
      let next = review_to ρ w (candidate_count ρ) r in
      let rest = review_passes ρ w fuel next in
      let x = to_examined (candidate_count ρ) r in
      let h = passes_examined fuel next in
      let m = suc-mul fuel (candidate_count ρ) in
      by_test (eqb next.changed r.changed) (λ d. rw (when-true (eqb next.changed r.changed) next rest d) (omega arith))
      (λ d. rw (when-false (eqb next.changed r.changed) next rest d) (omega arith))

  -- ---- the whole review

  module _ (R : ℕ) (b : R < 2 ^ candidate_count ρ) where
    begin_run : RunFrom R (begin ρ w 0 R)
    unfolding begin
    begin_run = record { below = b; within = subset_refl R; quality_now = refl; counts = zero-add (ones R); restores = none }

    ends : RunFrom R (reviewed ρ w R) × Closed (reviewed ρ w R)
    unfolding reviewed begin
    ends = passes_end R (suc (candidate_count ρ)) (begin ρ w 0 R) begin_run (omega arith)

    pub reviewed_run : RunFrom R (reviewed ρ w R)
    reviewed_run = ends.0

    -- the closing property
    pub reviewed_closed : Closed (reviewed ρ w R)
    reviewed_closed = ends.1

    pub reviewed_examined : (reviewed ρ w R).examined ≤ suc (candidate_count ρ) * candidate_count ρ
    unfolding reviewed begin
    reviewed_examined = let h = passes_examined (suc (candidate_count ρ)) (begin ρ w 0 R) in omega arith
