-- Elimination: it is a list of accepted strikes, what holds when it ends, that it ends by itself, and how many roles it takes up.
-- Assumes nothing.
use mathlib.Core.Path.{◌≡◌, refl, sym, ◌∙◌}
use mathlib.Core.Bool.{false, So}
use Prim.Native.Nat.{ℕ, suc, ◌+◌, ◌*◌, ◌<◌, ◌≤◌, ◌^◌}
use native.Mathlib.Nat.{le_refl, zero-add}
use native.Mathlib.Omega.{arith}
use lib.Dec.{ltb}
use lib.Count.{ones, ones-le}
use borrow.Author.Tests.{ltb-false}
use Rattle.sets.specs.Truth.{isnt, when◌then◌else◌}
use Rattle.sets.specs.Sets.{has, ◌∖◌, single, subset}
use Rattle.sets.proofs.Truth.{by_test, So-not, not-So, isnt_iff, ltb_iff, when-true, when-false}
use Rattle.sets.proofs.Order.{∖-iff, ∖-lt, single_iff, subset_refl, subset_trans, collect_lt}
use Rattle.sets.proofs.Counts.{ones_without, ones-subset}
use Rattle.model.specs.Hierarchy.{Roles, candidate_count}
use Rattle.model.specs.Coverage.{strikable, strikables}
use Rattle.model.specs.Quality.{Weights, quality, Tolerance}
use Rattle.model.specs.Machine.{Run, after_drop, after_strike, after_stay, take_up, passes, begin, eliminated}
use Rattle.model.proofs.Reading.{strikables_iff, strikable_stands}
use Rattle.model.proofs.Spared.{without_within, strikable_more}
use Rattle.model.proofs.Passes.{triangle_mono, triangle_is, Rules, passes_end, passes_fuel, passes_examined}

-- S comes from R by n strikes, each accepted
pub data Strikes (ρ : Roles) (R : ℕ) : ℕ → ℕ → Type 0 where
  none : Strikes ρ R 0 R
  one_more : {n : ℕ} {S : ℕ} (k T : ℕ) → Strikes ρ R n S → k < candidate_count ρ → So (strikable ρ S k) → T ≡ S ∖ single k → Strikes ρ R (suc n) T

module _ (ρ : Roles) (w : Weights) (t : Tolerance) where
  -- the quality after striking k
  abbrev after : ℕ → ℕ → ℕ
  after R k = quality ρ w (R ∖ single k)

  -- ---- one role taken up: three cases

  pub take-up {ℓ} : {C : Type ℓ} (k : ℕ) (r : Run)
      → (strikable ρ r.standing k ≡ false → take_up ρ w t k r ≡ after_drop k r → C)
      → (So (strikable ρ r.standing k) → t.denominator * after r.standing k < t.numerator * r.reference
      → take_up ρ w t k r ≡ after_strike k (after r.standing k) r → C)
      → (So (strikable ρ r.standing k) → t.numerator * r.reference ≤ t.denominator * after r.standing k → take_up ρ w t k r ≡ after_stay r → C)
      → C
  unfolding take_up
  take-up k r drops strikes stays =
      let s = strikable ρ r.standing k in
      let q' = after r.standing k in
      let x = t.denominator * q' in
      let y = t.numerator * r.reference in
      let rest = when ltb x y then after_strike k q' r else after_stay r in
      by_test s
      (λ e.
      let skip = when-false (isnt s) (after_drop k r) rest (not-So (isnt s) (λ h. (isnt_iff s).0 h e)) in
      by_test (ltb x y) (λ b. strikes e ((ltb_iff x y).0 b) (skip ∙ when-true (ltb x y) (after_strike k q' r) (after_stay r) b))
      (λ b. stays e (ltb-false x y b) (skip ∙ when-false (ltb x y) (after_strike k q' r) (after_stay r) b)))
      (λ e. drops e (when-true (isnt s) (after_drop k r) rest ((isnt_iff s).1 (So-not e))))

  -- ---- what holds all along, from the standing set R on

  pub record RunFrom (R : ℕ) (r : Run) : Type 0 where
    pub below : r.standing < 2 ^ candidate_count ρ
    pub listable : r.worklist < 2 ^ candidate_count ρ
    pub within : So (subset r.standing R)
    -- every strikable role is on the worklist
    pub listed : (k : ℕ) → k < candidate_count ρ → So (strikable ρ r.standing k) → So (has r.worklist k)
    pub quality_now : r.reference ≡ quality ρ w r.standing
    pub counts : r.changed + ones r.standing ≡ ones R
    pub strikes : Strikes ρ R r.changed r.standing

  pub run_on : (R k : ℕ) (r : Run) → k < candidate_count ρ → RunFrom R r → RunFrom R (take_up ρ w t k r)
  unfolding after_drop after_strike after_stay
  run_on R k r lk g =
      take-up k r
      (λ s e.
      rw e
      (record {
        below = g.below;
        listable = ∖-lt (candidate_count ρ) r.worklist (single k) g.listable;
        within = g.within;
        listed = λ j lj h. (∖-iff r.worklist (single k) j).1 (g.listed j lj h, λ x. let d : k ≡ j = (single_iff k j).0 x in So-not s (rw d h));
        quality_now = g.quality_now;
        counts = g.counts;
        strikes = g.strikes;
      }))
      (λ s _ e.
      rw e
      (record {
        below = ∖-lt (candidate_count ρ) r.standing (single k) g.below;
        listable = ∖-lt (candidate_count ρ) r.worklist (single k) g.listable;
        within = subset_trans (r.standing ∖ single k) r.standing R (without_within r.standing (single k)) g.within;
        listed = λ j lj h.
            (∖-iff r.worklist (single k) j).1 (
              g.listed j lj (strikable_more ρ (r.standing ∖ single k) r.standing j (without_within r.standing (single k)) h),
              ((∖-iff r.standing (single k) j).0 (strikable_stands ρ (r.standing ∖ single k) j h)).1,
            );
        quality_now = refl;
        counts = let o = ones_without r.standing k (strikable_stands ρ r.standing k s) in let x = g.counts in omega arith;
        strikes = one_more k (r.standing ∖ single k) g.strikes lk s refl;
      }))
      (λ s _ e.
      rw e
      (record {
        below = g.below;
        listable = g.listable;
        within = g.within;
        listed = g.listed;
        quality_now = g.quality_now;
        counts = g.counts;
        strikes = g.strikes;
      }))

  -- one role more is taken up; what is struck leaves the worklist
  pub examined_one : (k : ℕ) (r : Run) → (take_up ρ w t k r).examined ≡ suc r.examined
  unfolding after_drop after_strike after_stay
  examined_one k r = take-up k r (λ _ e. rw e refl) (λ _ _ e. rw e refl) (λ _ _ e. rw e refl)

  pub never_fewer : (k : ℕ) (r : Run) → r.changed ≤ (take_up ρ w t k r).changed
  unfolding after_drop after_strike after_stay
  never_fewer k r = take-up k r (λ _ e. rw e (le_refl r.changed)) (λ _ _ e. rw e (omega arith)) (λ _ _ e. rw e (le_refl r.changed))

  pub list_shrinks : (R k : ℕ) (r : Run) → k < candidate_count ρ → RunFrom R r
      → (take_up ρ w t k r).changed + ones (take_up ρ w t k r).worklist ≤ r.changed + ones r.worklist
  unfolding after_drop after_strike after_stay
  list_shrinks R k r lk g =
      take-up k r (λ _ e. rw e (let o = ones-subset (r.worklist ∖ single k) r.worklist (without_within r.worklist (single k)) in omega arith))
      (λ s _ e. rw e (let o = ones_without r.worklist k (g.listed k lk s) in omega arith)) (λ _ _ e. rw e (le_refl (r.changed + ones r.worklist)))

  -- ---- passes

  -- why a role that is strikable where R stands was left: it was not worth its strike
  abbrev NotWorth : ℕ → ℕ → ℕ → Type 0
  NotWorth k R q = So (strikable ρ R k) → t.numerator * q ≤ t.denominator * after R k

  leaves : (k : ℕ) (r : Run) → (take_up ρ w t k r).changed ≡ r.changed
      → ((take_up ρ w t k r).standing ≡ r.standing) × ((take_up ρ w t k r).reference ≡ r.reference) × NotWorth k r.standing r.reference
  unfolding after_drop after_strike after_stay
  leaves k r same =
      take-up k r (λ s e. rw e (refl, refl, λ h. absurd (So-not s h)))
      (λ _ _ e. let x : suc r.changed ≡ r.changed = rw e at same in let z : ⊥ = omega arith in absurd z) (λ _ l e. rw e (refl, refl, λ _. l))

  rules : (R : ℕ) → Rules ρ (take_up ρ w t) (RunFrom R) NotWorth (ones R)
  rules R =
      record {
        keeps = run_on R;
        listable = λ r g. g.listable;
        listed = λ r g. g.listed;
        few = λ r g. let x = g.counts in omega arith;
        examines = examined_one;
        grows = never_fewer;
        shrinks = list_shrinks R;
        leaves = leaves;
      }

  -- ---- the whole elimination

  begin_run : (R : ℕ) → R < 2 ^ candidate_count ρ → RunFrom R (begin ρ w (strikables ρ R) R)
  unfolding begin strikables
  begin_run R b =
      record {
        below = b;
        listable = collect_lt (candidate_count ρ) (λ k. strikable ρ R k);
        within = subset_refl R;
        listed = λ k lk s. (strikables_iff ρ R k).1 (lk, s);
        quality_now = refl;
        counts = zero-add (ones R);
        strikes = none;
      }

  -- "each standing role is not strikable or has b·q' ≥ a·q"
  abbrev pub Closed : Run → Type 0
  Closed r =
      (k : ℕ) → k < candidate_count ρ → So (strikable ρ r.standing k) → t.numerator * quality ρ w r.standing ≤ t.denominator * after r.standing k

  module _ (R : ℕ) (b : R < 2 ^ candidate_count ρ) where
    enough : ones R < suc (candidate_count ρ) + (begin ρ w (strikables ρ R) R).changed
    unfolding begin
    enough = let h = ones-le (candidate_count ρ) R b in omega arith

    ends : RunFrom R (eliminated ρ w t R) × Closed (eliminated ρ w t R)
    unfolding eliminated
    ends =
        let e = passes_end ρ (take_up ρ w t) (RunFrom R) NotWorth (ones R) (rules R) (suc (candidate_count ρ)) (begin ρ w (strikables ρ R) R) (begin_run R b) enough in
        (e.0, λ k lk s. rw e.0.quality_now at (e.1 k lk s s))

    pub eliminated_run : RunFrom R (eliminated ρ w t R)
    eliminated_run = ends.0

    -- the closing property
    pub eliminated_closed : Closed (eliminated ρ w t R)
    eliminated_closed = ends.1

    -- the fuel is never why it ends: more of it changes nothing
    pub eliminated_fuel : passes ρ (take_up ρ w t) (suc (suc (candidate_count ρ))) (begin ρ w (strikables ρ R) R) ≡ eliminated ρ w t R
    unfolding eliminated
    eliminated_fuel =
        passes_fuel ρ (take_up ρ w t) (RunFrom R) NotWorth (ones R) (rules R) (suc (candidate_count ρ)) (begin ρ w (strikables ρ R) R) (begin_run R b) enough

    -- "at most c(c + 1)/2"
    pub eliminated_examined : 2 * (eliminated ρ w t R).examined ≤ candidate_count ρ * (candidate_count ρ + 1)
    unfolding eliminated begin
    eliminated_examined =
        let c = candidate_count ρ in
        let g = begin_run R b in
        let l = ones-le c (strikables ρ R) g.listable in
        let h = passes_examined ρ (take_up ρ w t) (RunFrom R) NotWorth (ones R) (rules R) (suc c) (begin ρ w (strikables ρ R) R) g in
        let m = triangle_mono (ones (strikables ρ R)) c l in
        rw (sym (triangle_is c)) (omega arith)
