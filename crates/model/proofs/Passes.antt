-- The passes of an elimination, over any function that takes one role up: what a pass does to the counts, what holds when passes end, that they end by
-- themselves, and how many roles they take up.
-- Assumes nothing.
use mathlib.Core.Path.{◌≡◌, refl, sym, ◌∙◌, ap}
use mathlib.Core.Bool.{So}
use mathlib.Core.Logic.{◌≢◌}
use Prim.Native.Nat.{ℕ, zero, suc, ◌+◌, ◌*◌, ◌<◌, ◌≤◌, ◌^◌, zero-le}
use native.Mathlib.Nat.{le_refl, le_trans, not-suc-le-zero, add-suc, suc-add, add-zero, suc-mul, mul-suc}
use native.Mathlib.Omega.{arith}
use lib.Dec.{eqb}
use lib.Count.{ones}
use Rattle.sets.specs.Truth.{when◌then◌else◌}
use Rattle.sets.specs.Sets.{has, ◌∖◌, single}
use Rattle.sets.proofs.Truth.{So-not, not-So, eqb_iff, equal_or, when-true, when-false}
use Rattle.sets.proofs.Members.{has-zero, item_below}
use Rattle.sets.proofs.Order.{∖-iff, ∖-lt, single_iff}
use Rattle.sets.proofs.Counts.{ones-zero, ones_none}
use Rattle.model.specs.Hierarchy.{Roles, candidate_count}
use Rattle.model.specs.Coverage.{strikable}
use Rattle.model.specs.Machine.{Run, foremost, take_up_all, pass, passes}
use Rattle.model.proofs.PassOrder.{foremost_has, left_after}

-- ---- 1 + 2 + .. + n

unfoldable pub triangle : ℕ → ℕ
triangle zero = 0
triangle (suc n) = suc n + triangle n

pub triangle_mono : (a b : ℕ) → a ≤ b → triangle a ≤ triangle b
unfolding triangle
triangle_mono zero b l = zero-le
triangle_mono (suc a) zero l = absurd (not-suc-le-zero l)
triangle_mono (suc a) (suc b) l = let h = triangle_mono a b (omega arith) in omega arith

triangle-step : (a b : ℕ) → a < b → b + triangle a ≤ triangle b
unfolding triangle
triangle-step a zero l = absurd (not-suc-le-zero l)
triangle-step a (suc b) l = let h = triangle_mono a b (omega arith) in omega arith

triangle_own : (n : ℕ) → n ≤ triangle n
unfolding triangle
triangle_own zero = zero-le
triangle_own (suc n) = omega arith

pub triangle_is : (n : ℕ) → 2 * triangle n ≡ n * (n + 1)
unfolding triangle
triangle_is zero = refl
triangle_is (suc n) =
    let h = triangle_is n in
    let x : suc n + 1 ≡ suc (n + 1) = omega arith in
    let m : n * (suc n + 1) ≡ n * (n + 1) + n = ap (λ (y : ℕ). n * y) x ∙ mul-suc n (n + 1) in
    let e : suc n * (suc n + 1) ≡ n * (suc n + 1) + (suc n + 1) = suc-mul n (suc n + 1) in
    omega arith

-- ---- any function

-- functions that do the same make the same passes
pub passes_same : (ρ : Roles) (f g : ℕ → Run → Run) → ((k : ℕ) (r : Run) → f k r ≡ g k r) → (fuel : ℕ) (r : Run) → passes ρ f fuel r ≡ passes ρ g fuel r
passes_same ρ f g e fuel r i = passes ρ (λ k x. e k x i) fuel r

module _ (ρ : Roles) (take : ℕ → Run → Run) where
  module _ (key : ℕ → ℕ) where
    abbrev next : ℕ → ℕ
    next todo = foremost (candidate_count ρ) key todo

    next_below : (left todo : ℕ) → todo < 2 ^ candidate_count ρ → ones todo ≡ suc left → next todo < candidate_count ρ
    next_below left todo b e =
        item_below (candidate_count ρ) todo (next todo) b
        (foremost_has key (candidate_count ρ) todo b (λ (d : todo ≡ 0). let z : ones todo ≡ 0 = ap ones d ∙ ones-zero in let x : ⊥ = omega arith in x))

    rest_below : (todo : ℕ) → todo < 2 ^ candidate_count ρ → todo ∖ single (next todo) < 2 ^ candidate_count ρ
    rest_below todo b = ∖-lt (candidate_count ρ) todo (single (next todo)) b

    -- what each turn keeps, all turns keep
    pub all_keep : (P : Run → Type 0) → ((k : ℕ) (r : Run) → k < candidate_count ρ → P r → P (take k r))
        → (left todo : ℕ) (r : Run) → todo < 2 ^ candidate_count ρ → ones todo ≡ left → P r → P (take_up_all ρ take key left todo r)
    unfolding take_up_all
    all_keep P one zero todo r b e p = p
    all_keep P one (suc left) todo r b e p =
        all_keep P one left (todo ∖ single (next todo)) (take (next todo) r) (rest_below todo b) (left_after (candidate_count ρ) key left todo b e)
        (one (next todo) r (next_below left todo b e) p)

    all_examined : ((k : ℕ) (r : Run) → (take k r).examined ≡ suc r.examined) → (left todo : ℕ) (r : Run)
        → (take_up_all ρ take key left todo r).examined ≡ r.examined + left
    unfolding take_up_all
    all_examined one zero todo r = sym (add-zero r.examined)
    all_examined one (suc left) todo r =
        all_examined one left (todo ∖ single (next todo)) (take (next todo) r) ∙ ap (λ (x : ℕ). x + left) (one (next todo) r)
        ∙ suc-add r.examined left ∙ sym (add-suc r.examined left)

    all_changed : ((k : ℕ) (r : Run) → (take k r).changed ≤ suc r.changed) → (left todo : ℕ) (r : Run)
        → (take_up_all ρ take key left todo r).changed ≤ r.changed + left
    unfolding take_up_all
    all_changed one zero todo r = omega arith
    all_changed one (suc left) todo r =
        let a = all_changed one left (todo ∖ single (next todo)) (take (next todo) r) in let b = one (next todo) r in omega arith

    all_grow : ((k : ℕ) (r : Run) → r.changed ≤ (take k r).changed) → (left todo : ℕ) (r : Run) → r.changed ≤ (take_up_all ρ take key left todo r).changed
    unfolding take_up_all
    all_grow one zero todo r = le_refl r.changed
    all_grow one (suc left) todo r = le_trans (one (next todo) r) (all_grow one left (todo ∖ single (next todo)) (take (next todo) r))

  -- ---- one pass

  pub pass_keeps : (P : Run → Type 0) → ((k : ℕ) (r : Run) → k < candidate_count ρ → P r → P (take k r))
      → (r : Run) → r.worklist < 2 ^ candidate_count ρ → P r → P (pass ρ take r)
  unfolding pass
  pass_keeps P one r b p = all_keep _ P one (ones r.worklist) r.worklist r b refl p

  -- it takes up each role of the worklist once
  pub pass_examined : ((k : ℕ) (r : Run) → (take k r).examined ≡ suc r.examined) → (r : Run)
      → (pass ρ take r).examined ≡ r.examined + ones r.worklist
  unfolding pass
  pass_examined one r = all_examined _ one (ones r.worklist) r.worklist r

  pub pass_changed : ((k : ℕ) (r : Run) → (take k r).changed ≤ suc r.changed) → (r : Run) → (pass ρ take r).changed ≤ r.changed + ones r.worklist
  unfolding pass
  pass_changed one r = all_changed _ one (ones r.worklist) r.worklist r

  pub pass_grows : ((k : ℕ) (r : Run) → r.changed ≤ (take k r).changed) → (r : Run) → r.changed ≤ (pass ρ take r).changed
  unfolding pass
  pass_grows one r = all_grow _ one (ones r.worklist) r.worklist r

  -- ---- all passes: the three ways in which the first of them goes

  module _ (fuel : ℕ) (r : Run) where
    pub passes_empty : r.worklist ≡ 0 → passes ρ take (suc fuel) r ≡ r
    unfolding passes
    passes_empty e = when-true (eqb r.worklist 0) r _ ((eqb_iff r.worklist 0).1 e)

    module _ (some : r.worklist ≢ 0) where
      first_pass : passes ρ take (suc fuel) r ≡ (when eqb (pass ρ take r).changed r.changed then pass ρ take r else passes ρ take fuel (pass ρ take r))
      unfolding passes
      first_pass = when-false (eqb r.worklist 0) r _ (not-So (eqb r.worklist 0) (λ h. some ((eqb_iff r.worklist 0).0 h)))

      pub passes_last : (pass ρ take r).changed ≡ r.changed → passes ρ take (suc fuel) r ≡ pass ρ take r
      passes_last e = first_pass ∙ when-true (eqb (pass ρ take r).changed r.changed) _ _ ((eqb_iff (pass ρ take r).changed r.changed).1 e)

      pub passes_more : (pass ρ take r).changed ≢ r.changed → passes ρ take (suc fuel) r ≡ passes ρ take fuel (pass ρ take r)
      passes_more d =
          first_pass
          ∙ when-false (eqb (pass ρ take r).changed r.changed) _ _
          (not-So (eqb (pass ρ take r).changed r.changed) (λ h. d ((eqb_iff (pass ρ take r).changed r.changed).0 h)))

    passes-cases {ℓ} : {C : Type ℓ}
        → (r.worklist ≡ 0 → passes ρ take (suc fuel) r ≡ r → C)
        → ((pass ρ take r).changed ≡ r.changed → passes ρ take (suc fuel) r ≡ pass ρ take r → C)
        → ((pass ρ take r).changed ≢ r.changed → passes ρ take (suc fuel) r ≡ passes ρ take fuel (pass ρ take r) → C)
        → C
    passes-cases empty last more =
        equal_or r.worklist 0 (λ e. empty e (passes_empty e))
        (λ some. equal_or (pass ρ take r).changed r.changed (λ e. last e (passes_last some e)) (λ d. more d (passes_more some d)))

-- ---- a function that strikes or leaves

-- G holds all along; a role k that is not struck was left where R stands and q is the quality to compare with; at most `most` roles are struck
pub record Rules (ρ : Roles) (take : ℕ → Run → Run) (G : Run → Type 0) (Left : ℕ → ℕ → ℕ → Type 0) (most : ℕ) : Type 0 where
  pub keeps : (k : ℕ) (r : Run) → k < candidate_count ρ → G r → G (take k r)
  pub listable : (r : Run) → G r → r.worklist < 2 ^ candidate_count ρ
  -- every strikable role is on the worklist
  pub listed : (r : Run) → G r → (k : ℕ) → k < candidate_count ρ → So (strikable ρ r.standing k) → So (has r.worklist k)
  pub few : (r : Run) → G r → r.changed ≤ most
  -- one role more is taken up; what is struck leaves the worklist
  pub examines : (k : ℕ) (r : Run) → (take k r).examined ≡ suc r.examined
  pub grows : (k : ℕ) (r : Run) → r.changed ≤ (take k r).changed
  pub shrinks : (k : ℕ) (r : Run) → k < candidate_count ρ → G r
      → (take k r).changed + ones (take k r).worklist ≤ r.changed + ones r.worklist
  pub leaves : (k : ℕ) (r : Run) → (take k r).changed ≡ r.changed
      → ((take k r).standing ≡ r.standing) × ((take k r).reference ≡ r.reference) × Left k r.standing r.reference

module _ (ρ : Roles) (take : ℕ → Run → Run) (G : Run → Type 0) (Left : ℕ → ℕ → ℕ → Type 0) (most : ℕ) (rules : Rules ρ take G Left most) where
  -- where nothing was struck, all is as it was, and each role of the set was left
  none_struck : (key : ℕ → ℕ) (left todo : ℕ) (r : Run) → todo < 2 ^ candidate_count ρ → ones todo ≡ left → (take_up_all ρ take key left todo r).changed ≡ r.changed
      → ((take_up_all ρ take key left todo r).standing ≡ r.standing) × ((take_up_all ρ take key left todo r).reference ≡ r.reference)
      × ((k : ℕ) → So (has todo k) → Left k r.standing r.reference)
  unfolding take_up_all
  none_struck key zero todo r b e same =
      (refl, refl, λ k h. absurd (So-not (has-zero k) (let z : todo ≡ 0 = ones_none todo e in rw z at h)))
  none_struck key (suc left) todo r b e same =
      let k0 = foremost (candidate_count ρ) key todo in
      let r1 = take k0 r in
      let rest = todo ∖ single k0 in
      let unchanged : r1.changed ≡ r.changed =
      let x = rules.grows k0 r in let y = all_grow ρ take key rules.grows left rest r1 in omega arith in
      let here = rules.leaves k0 r unchanged in
      let later =
      none_struck key left rest r1 (∖-lt (candidate_count ρ) todo (single k0) b) (left_after (candidate_count ρ) key left todo b e) (same ∙ sym unchanged) in (
        later.0 ∙ here.0,
        later.1 ∙ here.1,
        λ k h.
            equal_or k0 k (λ (d : k0 ≡ k). rw d at here.2)
            (λ d. rw (here.0, here.1) at (later.2 k ((∖-iff todo (single k0) k).1 (h, λ x. d ((single_iff k0 k).0 x))))),
      )

  -- every strikable role was left
  abbrev pub AllLeft : Run → Type 0
  AllLeft r = (k : ℕ) → k < candidate_count ρ → So (strikable ρ r.standing k) → Left k r.standing r.reference

  left_by_pass : (r : Run) → G r → (pass ρ take r).changed ≡ r.changed → AllLeft (pass ρ take r)
  unfolding pass
  left_by_pass r g same k lk s =
      let n = none_struck _ (ones r.worklist) r.worklist r (rules.listable r g) refl same in
      rw (n.0, n.1) (n.2 k (rules.listed r g k lk (rw n.0 at s)))

  left_by_list : (r : Run) → G r → r.worklist ≡ 0 → AllLeft r
  left_by_list r g e k lk s = absurd (So-not (has-zero k) (rw e at (rules.listed r g k lk s)))

  pass_goes : (r : Run) → G r → G (pass ρ take r)
  pass_goes r g = pass_keeps ρ take G rules.keeps r (rules.listable r g) g

  pass_shrinks : (r : Run) → G r → (pass ρ take r).changed + ones (pass ρ take r).worklist ≤ r.changed + ones r.worklist
  pass_shrinks r g =
      (pass_keeps ρ take (λ x. G x × (x.changed + ones x.worklist ≤ r.changed + ones r.worklist))
      (λ k x lk p. (rules.keeps k x lk p.0, le_trans (rules.shrinks k x lk p.0) p.1)) r (rules.listable r g)
      (g, le_refl (r.changed + ones r.worklist))).1

  -- the loop ends by itself: with fuel left for each strike that is still possible it stops where the paper says, and then every strikable role was left
  pub passes_end : (fuel : ℕ) (r : Run) → G r → most < fuel + r.changed → G (passes ρ take fuel r) × AllLeft (passes ρ take fuel r)
  passes_end zero r g l = let x = rules.few r g in let z : ⊥ = omega arith in absurd z
  passes_end (suc fuel) r g l =
      passes-cases ρ take fuel r (λ e p. rw p (g, left_by_list r g e)) (λ e p. rw p (pass_goes r g, left_by_pass r g e))
      (λ d p. let x = pass_grows ρ take rules.grows r in rw p (passes_end fuel (pass ρ take r) (pass_goes r g) (omega arith)))

  -- more fuel changes nothing
  pub passes_fuel : (fuel : ℕ) (r : Run) → G r → most < fuel + r.changed → passes ρ take (suc fuel) r ≡ passes ρ take fuel r
  passes_fuel zero r g l = let x = rules.few r g in let z : ⊥ = omega arith in absurd z
  passes_fuel (suc fuel) r g l =
      equal_or r.worklist 0 (λ e. passes_empty ρ take (suc fuel) r e ∙ sym (passes_empty ρ take fuel r e))
      (λ some.
      equal_or (pass ρ take r).changed r.changed (λ e. passes_last ρ take (suc fuel) r some e ∙ sym (passes_last ρ take fuel r some e))
      (λ d.
      let x = pass_grows ρ take rules.grows r in
      passes_more ρ take (suc fuel) r some d ∙ passes_fuel fuel (pass ρ take r) (pass_goes r g) (omega arith) ∙ sym (passes_more ρ take fuel r some d)))

  -- each pass but the last makes the worklist shorter
  pub passes_examined : (fuel : ℕ) (r : Run) → G r → (passes ρ take fuel r).examined ≤ r.examined + triangle (ones r.worklist)
  unfolding passes
  passes_examined zero r g = omega arith
  passes_examined (suc fuel) r g =
      let n = ones r.worklist in
      let x = pass_examined ρ take rules.examines r in
      passes-cases ρ take fuel r (λ e p. rw p (omega arith)) (λ e p. rw p (let y = triangle_own n in omega arith))
      (λ d p.
      let up = pass_grows ρ take rules.grows r in
      let fewer : ones (pass ρ take r).worklist < n = let s = pass_shrinks r g in omega arith in
      let h = passes_examined fuel (pass ρ take r) (pass_goes r g) in
      let s = triangle-step (ones (pass ρ take r).worklist) n fewer in
      rw p (omega arith))
