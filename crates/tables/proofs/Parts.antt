-- Sets read in a part of a list.
-- Assumes nothing.
use mathlib.Core.Path.{◌≡◌, sym, ◌∙◌, ap}
use mathlib.Core.List.{List}
use mathlib.Core.Bool.{So}
use Prim.Native.Nat.{ℕ, ◌+◌, ◌-◌, ◌≤◌, ◌<◌}
use native.Mathlib.Omega.{arith}
use borrow.Author.Tests.{eq-eqb, eqb-true}
use lib.Dec.{eqb}
use lib.ListN.{length, get_or, take, drop, length-drop}
use lib.Pointwise.{pointwise}
use lib.Seq.{length-take-le, get_or-take, get_or-drop}
use Rattle.std.specs.Cmp.Lexicographic.{same_text, other_text}
use Rattle.sets.specs.Truth.{all}
use Rattle.sets.proofs.Truth.{by_test, same_test, all_iff}
use Rattle.sets.proofs.Words.{same_words}
use Rattle.model.specs.Lists.{set_at}
use Rattle.model.proofs.Lists.{set_at_same}

-- place i of the part of n words from place `at` on is place at + i of the whole
pub set_at_part : (w at n : ℕ) (ws : List ℕ) (i : ℕ) → i + w ≤ n → set_at w (take n (drop at ws)) i ≡ set_at w ws (at + i)
set_at_part w at n ws i h =
    set_at_same w (take n (drop at ws)) ws i (at + i)
    (λ j l.
    get_or-take n (drop at ws) (i + j) 0 (omega arith) ∙ get_or-drop at ws (i + j) 0
    ∙ ap (λ (x : ℕ). get_or ws x 0) (let e : at + (i + j) ≡ at + i + j = omega arith in e))

-- ---- the part from one place up to another

module _ (ws : List ℕ) (from to : ℕ) (h : to ≤ length ws) where
  abbrev pub part : List ℕ
  part = take (to - from) (drop from ws)

  pub length-part : length part ≡ to - from
  length-part = length-take-le (to - from) (drop from ws) (rw (length-drop from ws) (omega arith))

  pub get_part : (k : ℕ) → k < to - from → get_or part k 0 ≡ get_or ws (from + k) 0
  get_part k b = get_or-take (to - from) (drop from ws) k 0 b ∙ get_or-drop from ws k 0

-- it is src exactly when each word is
pub equal_words : (ws : List ℕ) (at : ℕ) (src : List ℕ) → at + length src ≤ length ws
    → pointwise eqb (take (at + length src - at) (drop at ws)) src ≡ all (length src) (λ i. eqb (get_or ws (at + i) 0) (get_or src i 0))
equal_words ws at src h =
    let n : at + length src - at ≡ length src = omega arith in
    let p = part ws at (at + length src) h in
    let long : length p ≡ length src = length-part ws at (at + length src) h ∙ n in
    let here : (k : ℕ) → k < length src → get_or p k 0 ≡ get_or ws (at + k) 0 = λ k l. get_part ws at (at + length src) h k (omega arith) in
    same_test (pointwise eqb p src) (all (length src) (λ i. eqb (get_or ws (at + i) 0) (get_or src i 0)))
    (λ t. (all_iff (length src) (λ i. eqb (get_or ws (at + i) 0) (get_or src i 0))).1 (λ k l. eq-eqb (get_or ws (at + k) 0) (get_or src k 0) (sym (here k l) ∙ ap (λ (r : List ℕ). get_or r k 0) (same_text p src (sym t)))))
    (λ t.
    let same = same_words p src long (λ k l. let b : k < length src = rw long at l in here k b ∙ eqb-true (get_or ws (at + k) 0) (get_or src k 0) ((all_iff (length src) (λ i. eqb (get_or ws (at + i) 0) (get_or src i 0))).0 t k b)) in
    by_test (pointwise eqb p src) (λ (y : So (pointwise eqb p src)). y) (λ f. absurd (other_text p src (sym f) same)))
