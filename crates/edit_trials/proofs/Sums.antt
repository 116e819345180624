-- Sums over some of the indices, and sums that differ at some of them only.
-- Assumes nothing.
use mathlib.Core.Path.{◌≡◌, refl, sym, ◌∙◌, ap}
use mathlib.Core.Bool.{Bool, false, So}
use mathlib.Core.Logic.{◌≢◌}
use Prim.Native.Nat.{ℕ, zero, suc, ◌+◌, ◌*◌, ◌^◌, ◌≤◌, ◌<◌}
use native.Mathlib.Omega.{arith}
use lib.Count.{ones}
use Rattle.sets.specs.Truth.{total, when◌then◌else◌}
use Rattle.sets.specs.Sets.{has, ◌∖◌, single}
use Rattle.sets.proofs.Truth.{by_test, same_test, So-not, not-So, either, equal_or, total_same, when-true, when-false}
use Rattle.sets.proofs.Members.{has-zero, has_above, item_below, item_of, empty_of}
use Rattle.sets.proofs.Order.{∖-iff, ∖-lt, single_iff}
use Rattle.sets.proofs.Counts.{total-suc, total_add, total_bound, total-≤, total-zero, total_except, ones_none, ones-zero, ones_without}
use Rattle.edit_trials.specs.Trying.{over}

pub over_none : (n s : ℕ) (f : ℕ → ℕ) → s ≡ 0 → over n s f ≡ 0
unfolding over
over_none n s f e =
    total-zero n (λ i. when has s i then f i else 0) (λ i l. when-false (has s i) (f i) 0 (rw e (has-zero i)))

-- one item taken out of the set
pub over_more : (n s k : ℕ) (f : ℕ → ℕ) → k < n → So (has s k) → over n s f ≡ f k + over n (s ∖ single k) f
unfolding over
over_more n s k f lk h =
    let a : ℕ → ℕ = λ i. when has s i then f i else 0 in
    let z : ℕ → ℕ = λ i. when has (s ∖ single k) i then f i else 0 in
    let e = total_except n k a z lk
    (λ i l d.
    ap (λ (t : Bool). when t then f i else 0)
    (same_test (has s i) (has (s ∖ single k) i) (λ x. (∖-iff s (single k) i).1 (x, λ y. d (sym ((single_iff k i).0 y)))) (λ x. ((∖-iff s (single k) i).0 x).0))) in
    let here : a k ≡ f k = when-true (has s k) (f k) 0 h in
    let gone : z k ≡ 0 = when-false (has (s ∖ single k) k) (f k) 0 (not-So (has (s ∖ single k) k) (λ x. ((∖-iff s (single k) k).0 x).1 ((single_iff k k).1 refl))) in
    let w : total n a + z k ≡ total n z + a k = e in
    omega arith

-- past the items of s nothing is added
pub over_wide : (m n s : ℕ) (f : ℕ → ℕ) → n ≤ m → s < 2 ^ n → over m s f ≡ over n s f
unfolding over
over_wide zero n s f l b = let e : n ≡ 0 = omega arith in rw e refl
over_wide (suc m) n s f l b =
    either m n (λ h. let e : n ≡ suc m = omega arith in rw e refl)
    (λ h.
    let z = when-false (has s m) (f m) 0 (has_above n s m b h) in
    let t = total-suc m (λ i. when has s i then f i else 0) in
    let r : total m (λ i. when has s i then f i else 0) ≡ total n (λ i. when has s i then f i else 0) = over_wide m n s f h b in
    omega arith)

-- two sums that agree at the items of s
pub over-inside : (n s : ℕ) (f g : ℕ → ℕ) → ((i : ℕ) → i < n → So (has s i) → f i ≡ g i) → over n s f ≡ over n s g
unfolding over
over-inside n s f g same =
    total_same n (λ i. when has s i then f i else 0) (λ i. when has s i then g i else 0)
    (λ i l.
    by_test (has s i) (λ h. let x = when-true (has s i) (f i) 0 h in let y = when-true (has s i) (g i) 0 h in let e = same i l h in omega arith)
    (λ h. let x = when-false (has s i) (f i) 0 h in let y = when-false (has s i) (g i) 0 h in omega arith))

pub over_same : (n s : ℕ) (f g : ℕ → ℕ) → ((i : ℕ) → i < n → f i ≡ g i) → over n s f ≡ over n s g
over_same n s f g same = over-inside n s f g (λ i l h. same i l)

-- a sum of the code, over sets below 128, told by one over the n roles
pub over_read : (n s s' : ℕ) (f g : ℕ → ℕ) → n ≤ 128 → s ≡ s' → s' < 2 ^ n → ((i : ℕ) → i < n → So (has s' i) → f i ≡ g i) → over 128 s f ≡ over n s' g
over_read n s s' f g few e b same = ap (λ (x : ℕ). over 128 x f) e ∙ over_wide 128 n s' f few b ∙ over-inside n s' f g same

pub over_most : (b s : ℕ) (f : ℕ → ℕ) → ((i : ℕ) → f i ≤ b) → over 128 s f ≤ b * 128
unfolding over
over_most b s f h =
    let t = total_bound 128 b (λ i. when has s i then f i else 0) (λ i l. by_test (has s i) (λ t. rw (when-true (has s i) (f i) 0 t) (h i)) (λ t. rw (when-false (has s i) (f i) 0 t) (omega arith))) in
    omega arith

-- ---- one entry comes in, and those of s lose to it

over_one : (n k y : ℕ) → k < n → over n (single k) (λ i. y) ≡ y
over_one n k y l =
    let a = over_more n (single k) k (λ i. y) l ((single_iff k k).1 refl) in
    let b = over_none n (single k ∖ single k) (λ i. y) (empty_of (single k ∖ single k) (λ i t. let x = (∖-iff (single k) (single k) i).0 t in x.1 x.0)) in
    omega arith

over-each : (m n s : ℕ) → s < 2 ^ n → ones s ≡ m → over n s (λ i. 1) ≡ m
over-each zero n s b e = over_none n s (λ i. 1) (ones_none s e)
over-each (suc m) n s b e =
    let k = item_of s (λ (z : s ≡ 0). let q : ones s ≡ 0 = rw z ones-zero in let w : ⊥ = omega arith in w) in
    let o = ones_without s k.0 k.1 in
    let a = over_more n s k.0 (λ i. 1) (item_below n s k.0 b k.1) k.1 in
    let r = over-each m n (s ∖ single k.0) (∖-lt n s (single k.0) b) (omega arith) in
    omega arith

pub over_zero : (n s : ℕ) → over n s (λ i. 0) ≡ 0
unfolding over
over_zero n s =
    total-zero n (λ i. when has s i then 0 else 0) (λ i l. by_test (has s i) (λ h. when-true (has s i) 0 0 h) (λ h. when-false (has s i) 0 0 h))

module _ (n s k y : ℕ) (f g lost : ℕ → ℕ) (lk : k < n) (out : has s k ≡ false) (gone : f k ≡ 0) (new : g k ≡ y)
    (same : (i : ℕ) → i < n → i ≢ k → (So (has s i) → ⊥) → g i ≡ f i) where
  came_sum : (e : ℕ) → ((i : ℕ) → i < n → So (has s i) → g i + lost i ≡ f i + e)
      → total n g + over n s lost ≡ total n f + over n (single k) (λ i. y) + over n s (λ i. e)
  unfolding over
  came_sum e loses =
      let a : ℕ → ℕ = λ i. when has s i then lost i else 0 in
      let z : ℕ → ℕ = λ i. when has (single k) i then y else 0 in
      let w : ℕ → ℕ = λ i. when has s i then e else 0 in
      sym (total_add n g a)
      ∙ total_same n (λ i. g i + a i) (λ i. f i + z i + w i)
      (λ i l.
      equal_or i k
      (λ (d : i ≡ k).
      let none' = rw (sym d) at out in
      let x = when-false (has s i) (lost i) 0 none' in
      let v = when-false (has s i) e 0 none' in
      let u = when-true (has (single k) i) y 0 ((single_iff k i).1 (sym d)) in
      let p : g i ≡ y = rw (sym d) at new in
      let q : f i ≡ 0 = rw (sym d) at gone in
      omega arith)
      (λ d.
      let u = when-false (has (single k) i) y 0 (not-So (has (single k) i) (λ t. d (sym ((single_iff k i).0 t)))) in
      by_test (has s i)
      (λ h. let x = when-true (has s i) (lost i) 0 h in let v = when-true (has s i) e 0 h in let p = loses i l h in omega arith)
      (λ h. let x = when-false (has s i) (lost i) 0 h in let v = when-false (has s i) e 0 h in let p = same i l d (So-not h) in omega arith)))
      ∙ total_add n (λ i. f i + z i) w ∙ ap (λ (x : ℕ). x + total n w) (total_add n f z)

  pub came_losing : ((i : ℕ) → i < n → So (has s i) → g i + lost i ≡ f i) → total n g + over n s lost ≡ total n f + y
  came_losing loses =
      let a = came_sum 0 (λ i l h. let p = loses i l h in omega arith) in
      let b = over_one n k y lk in
      let c = over_zero n s in
      omega arith

  pub came_linked : s < 2 ^ n → ((i : ℕ) → i < n → So (has s i) → g i + lost i ≡ f i + 1) → total n g + over n s lost ≡ total n f + (y + ones s)
  came_linked b loses =
      let a = came_sum 1 loses in
      let d = over_one n k y lk in
      let c = over-each (ones s) n s b refl in
      omega arith

-- what is lost is no more than what there was
pub over_within : (n s : ℕ) (f lost : ℕ → ℕ) → ((i : ℕ) → i < n → lost i ≤ f i) → over n s lost ≤ total n f
unfolding over
over_within n s f lost h =
    total-≤ n (λ i. when has s i then lost i else 0) f
    (λ i l.
    let p = h i l in
    by_test (has s i) (λ t. let e = when-true (has s i) (lost i) 0 t in omega arith) (λ t. let e = when-false (has s i) (lost i) 0 t in omega arith))
