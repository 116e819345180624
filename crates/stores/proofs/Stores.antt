-- Values stored into a list.
-- Assumes nothing.
use mathlib.Core.Path.{◌≡◌, refl, sym, ◌∙◌, ap}
use mathlib.Core.Bool.{Bool, true, false}
use mathlib.Core.List.{List, [], ◌∷◌, ◌++◌}
use Prim.Native.Nat.{ℕ, zero, suc, ◌+◌, ◌-◌, ◌≤◌, ◌<◌}
use native.Mathlib.Nat.{add-zero, not-suc-le-zero, le_of_suc-le-suc}
use native.Mathlib.Omega.{arith}
use native.Mathlib.Numerals.{add-one}
use lib.Dec.{ltb}
use lib.ListN.{length, get_or, set, take, drop, length-set, length-append, length-drop, replicate, length-replicate, get_or-replicate, get_or-append, get_or-eq_default}
use lib.Seq.{ext_get_or, take-suc, take_all, length-take-le, get_or-take, get_or-drop, get_or-append-add, get_or-set_same, get_or-set_other}
use borrow.Author.Tests.{ltb-true, ltb-false}
use Rattle.stores.specs.Stores.{put_at}

pub length-put_at : (l : List ℕ) (at : ℕ) (vs : List ℕ) → length (put_at l at vs) ≡ length l
unfolding put_at
length-put_at l at [] = refl
length-put_at l at (v ∷ vs) = length-put_at (set l at v) (suc at) vs ∙ length-set l at v

-- one run after another
pub put_at-append : (l : List ℕ) (at : ℕ) (xs ys : List ℕ) → put_at l at (xs ++ ys) ≡ put_at (put_at l at xs) (at + length xs) ys
unfolding put_at
put_at-append l at [] ys = rw (add-zero at) refl
put_at-append l at (x ∷ xs) ys =
    put_at-append (set l at x) (suc at) xs ys
    ∙ ap (λ (k : ℕ). put_at (put_at (set l at x) (suc at) xs) k ys) (let e : suc at + length xs ≡ at + suc (length xs) = omega arith in e)

-- one value more
pub put_at_more : (l : List ℕ) (at : ℕ) (vs : List ℕ) (v : ℕ) → put_at l at (vs ++ (v ∷ [])) ≡ set (put_at l at vs) (at + length vs) v
unfolding put_at
put_at_more l at vs v = put_at-append l at vs (v ∷ [])

pub put_at-take : (l src : List ℕ) (at i : ℕ) {l' : List ℕ} → i < length src → l' ≡ put_at l at (take i src)
    → set l' (at + i) (get_or src i 0) ≡ put_at l at (take (i + 1) src)
put_at-take l src at i h e =
    let n : length (take i src) ≡ i = length-take-le i src (omega arith) in
    rw (e, add-one i, take-suc src i 0 h) (sym (put_at_more l at (take i src) (get_or src i 0) ∙ ap (λ (k : ℕ). set (put_at l at (take i src)) (at + k) (get_or src i 0)) n))

pub put_at_taken : (l src : List ℕ) (at i : ℕ) {l' : List ℕ} → length src ≤ i → l' ≡ put_at l at (take i src) → l' ≡ put_at l at src
put_at_taken l src at i h e = e ∙ ap (put_at l at) (take_all i src h)

-- ---- what stands where afterwards

pub put_at-below : (l : List ℕ) (at : ℕ) (vs : List ℕ) (i : ℕ) → i < at → get_or (put_at l at vs) i 0 ≡ get_or l i 0
unfolding put_at
put_at-below l at [] i h = refl
put_at-below l at (v ∷ vs) i h =
    put_at-below (set l at v) (suc at) vs i (omega arith) ∙ get_or-set_other l at i v 0 (λ (e : i ≡ at). let z : ⊥ = omega arith in z)

pub put_at_above : (l : List ℕ) (at : ℕ) (vs : List ℕ) (i : ℕ) → at + length vs ≤ i → get_or (put_at l at vs) i 0 ≡ get_or l i 0
unfolding put_at
put_at_above l at [] i h = refl
put_at_above l at (v ∷ vs) i h =
    let k : at + suc (length vs) ≤ i = h in
    put_at_above (set l at v) (suc at) vs i (omega arith) ∙ get_or-set_other l at i v 0 (λ (e : i ≡ at). let z : ⊥ = omega arith in z)

pub put_at_in : (l : List ℕ) (at : ℕ) (vs : List ℕ) (j : ℕ) → at + length vs ≤ length l → j < length vs → get_or (put_at l at vs) (at + j) 0 ≡ get_or vs j 0
unfolding put_at
put_at_in l at [] j h k = absurd (not-suc-le-zero k)
put_at_in l at (v ∷ vs) zero h k =
    let b : at + suc (length vs) ≤ length l = h in
    rw (add-zero at) (put_at-below (set l at v) (suc at) vs at (omega arith) ∙ get_or-set_same l at v 0 (omega arith))
put_at_in l at (v ∷ vs) (suc j) h k =
    let b : at + suc (length vs) ≤ length l = h in
    let n : length (set l at v) ≡ length l = length-set l at v in
    let e : at + suc j ≡ suc at + j = omega arith in
    rw e (put_at_in (set l at v) (suc at) vs j (omega arith) (le_of_suc-le-suc k))

either : {C : Type 0} (a b : ℕ) → (a < b → C) → (b ≤ a → C) → C
either {C} a b l r = go (ltb a b) refl
  where
    go : (t : Bool) → ltb a b ≡ t → C
    go true e = l (ltb-true a b e)
    go false e = r (ltb-false a b e)

-- a part of a slice that was lent comes back between what stands before and after it: the part is stored there
module _ (l : List ℕ) (at n : ℕ) (vs : List ℕ) (e : length vs ≡ n) (fits : at + n ≤ length l) where
  front : length (take at l) ≡ at
  front = length-take-le at l (omega arith)

  back_length : length (take at l ++ (vs ++ drop n (drop at l))) ≡ length l
  back_length = simp (length-append, front, e, length-drop) (omega arith)

  back_after : (j : ℕ) → get_or (take at l ++ (vs ++ drop n (drop at l))) (at + j) 0 ≡ get_or (vs ++ drop n (drop at l)) j 0
  back_after j = ap (λ (k : ℕ). get_or (take at l ++ (vs ++ drop n (drop at l))) (k + j) 0) (sym front) ∙ get_or-append-add (take at l) (vs ++ drop n (drop at l)) j 0

  pub part_back : take at l ++ (vs ++ drop n (drop at l)) ≡ put_at l at vs
  part_back =
      ext_get_or 0 (take at l ++ (vs ++ drop n (drop at l))) (put_at l at vs) (back_length ∙ sym (length-put_at l at vs))
      (λ i h.
      either i at
      (λ b. get_or-append (take at l) (vs ++ drop n (drop at l)) 0 i (rw front b) ∙ get_or-take at l i 0 b ∙ sym (put_at-below l at vs i b))
      (λ b.
      let d : i ≡ at + (i - at) = omega arith in
      either i (at + n)
      (λ b2.
      let small : i - at < length vs = omega arith in
      rw d (back_after (i - at) ∙ get_or-append vs (drop n (drop at l)) 0 (i - at) small ∙ sym (put_at_in l at vs (i - at) (omega arith) small)))
      (λ b2.
      let f : i - at ≡ length vs + (i - at - n) = omega arith in
      let g : at + (n + (i - at - n)) ≡ i = omega arith in
      ap (λ (k : ℕ). get_or (take at l ++ (vs ++ drop n (drop at l))) k 0) d ∙ back_after (i - at)
      ∙ ap (λ (k : ℕ). get_or (vs ++ drop n (drop at l)) k 0) f ∙ get_or-append-add vs (drop n (drop at l)) (i - at - n) 0
      ∙ get_or-drop n (drop at l) (i - at - n) 0 ∙ get_or-drop at l (n + (i - at - n)) 0 ∙ ap (λ (k : ℕ). get_or l k 0) g
      ∙ sym (put_at_above l at vs i (omega arith)))))

-- ---- parts of a list after a store

-- the part that was stored
pub part_stored : (l : List ℕ) (at : ℕ) (vs : List ℕ) (n : ℕ) → length vs ≡ n → at + n ≤ length l → take n (drop at (put_at l at vs)) ≡ vs
part_stored l at vs n e h =
    let len : length (take n (drop at (put_at l at vs))) ≡ n = length-take-le n (drop at (put_at l at vs)) (simp (length-drop, length-put_at) (omega arith)) in
    ext_get_or 0 (take n (drop at (put_at l at vs))) vs (len ∙ sym e)
    (λ i b.
    let small : i < n = rw len at b in
    get_or-take n (drop at (put_at l at vs)) i 0 small ∙ get_or-drop at (put_at l at vs) i 0 ∙ put_at_in l at vs i (omega arith) (omega arith))

-- a list of zeros
pub blank : (n i : ℕ) → ◌≡◌ {A = ℕ} (get_or (replicate n 0) i 0) 0
blank n i =
    let z : ℕ = 0 in
    let e = length-replicate n z in
    either i n (λ l. get_or-replicate n i z z l) (λ l. get_or-eq_default (replicate n z) z (omega arith))
