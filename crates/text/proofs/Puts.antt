-- Runs of bytes written one after another.
-- Assumes nothing.
use mathlib.Core.Path.{◌≡◌, refl, sym, ◌∙◌, ap}
use mathlib.Core.List.{List, [], ◌∷◌, ◌++◌}
use Prim.Native.Nat.{ℕ, suc, ◌+◌, ◌≤◌}
use native.Mathlib.Nat.{add-zero}
use native.Mathlib.Omega.{arith}
use lib.ListN.{length, set, take, drop, length-append}
use Rattle.std.proofs.Common.{append_assoc}
use borrow.Rule.Slice.PartMut.{put_mid}
use Rattle.std.proofs.lemmas.Slice.{put_mid-paste}
use Rattle.std.proofs.lemmas.List.Edits.{sets, sets-eq, paste_all}
use Rattle.stores.specs.Stores.{put_at}
use Rattle.stores.proofs.Stores.{put_at-append}
use Rattle.text.specs.Decimal.{decimal}
use Rattle.text.specs.Fixed.{comma, line_end}

-- ---- a part of the list overwritten

put_at-sets : (l : List ℕ) (at : ℕ) (vs : List ℕ) → put_at l at vs ≡ sets l at vs
unfolding put_at
put_at-sets l at [] = refl
put_at-sets l at (v ∷ vs) = put_at-sets (set l at v) (suc at) vs

pub put_part : (l : List ℕ) (at k : ℕ) (vs part : List ℕ) → part ≡ vs → k ≡ length vs → at + length vs ≤ length l → put_mid at k l part ≡ put_at l at vs
put_part l at k vs part e n h =
    put_mid-paste at k l part vs (length vs) e (sym n) refl ∙ paste_all l at vs (length vs) refl
    ∙ sym (put_at-sets l at vs ∙ sets-eq vs l at h ∙ append_assoc (take at l) vs (drop (at + length vs) l))

-- ---- one run after another

-- the bytes xs, written from place `at` on, and the place after them
abbrev pub Put : List ℕ → ℕ → List ℕ → List ℕ → ℕ → Type 0
Put l at xs l' r = (r ≡ at + length xs) × (l' ≡ put_at l at xs)

pub put_none : (l : List ℕ) (at : ℕ) → Put l at [] l at
unfolding put_at
put_none l at = (sym (add-zero at), refl)

pub put_then : (l l1 l2 : List ℕ) (at r1 r2 : ℕ) (xs ys : List ℕ) → Put l at xs l1 r1 → Put l1 r1 ys l2 r2 → Put l at (xs ++ ys) l2 r2
put_then l l1 l2 at r1 r2 xs ys p q = (
  (let e : length (xs ++ ys) ≡ length xs + length ys = length-append xs ys in
      let a : r1 ≡ at + length xs = p.0 in
      let b : r2 ≡ r1 + length ys = q.0 in
      omega arith),
  q.1 ∙ (λ i. put_at (p.1 i) (p.0 i) ys) ∙ sym (put_at-append l at xs ys),
)

pub put_same : (l l' : List ℕ) (at r : ℕ) (xs ys : List ℕ) → xs ≡ ys → Put l at xs l' r → Put l at ys l' r
put_same l l' at r xs ys e p = (p.0 ∙ ap (λ (x : List ℕ). at + length x) e, p.1 ∙ ap (put_at l at) e)

-- a word and two decimals with a comma between them, as the first line
pub first-line : (l l1 l2 l3 l4 l5 : List ℕ) (r1 r2 r3 r4 r5 : ℕ) (word : List ℕ) (a b : ℕ) → Put l 0 word l1 r1 → Put l1 r1 (decimal a) l2 r2
    → Put l2 r2 comma l3 r3 → Put l3 r3 (decimal b) l4 r4 → Put l4 r4 line_end l5 r5
    → (r5 ≡ length (word ++ (decimal a ++ (comma ++ (decimal b ++ line_end))))) × (l5 ≡ put_at l 0 (word ++ (decimal a ++ (comma ++ (decimal b ++ line_end)))))
first-line l l1 l2 l3 l4 l5 r1 r2 r3 r4 r5 word a b p q u v w =
    let x = put_then _ _ _ _ _ _ word (decimal a ++ (comma ++ (decimal b ++ line_end))) p
    (put_then _ _ _ _ _ _ (decimal a) (comma ++ (decimal b ++ line_end)) q (put_then _ _ _ _ _ _ comma (decimal b ++ line_end) u (put_then _ _ _ _ _ _ (decimal b) line_end v w))) in
    (omega (arith, x.0), x.1)

-- the same bytes from the first place on, under another name
pub first_same : (l l' : List ℕ) (r most : ℕ) (xs ys : List ℕ) → xs ≡ ys → (r ≡ length xs) × (l' ≡ put_at l 0 xs) × (r ≤ most)
    → (r ≡ length ys) × (l' ≡ put_at l 0 ys) × (r ≤ most)
first_same l l' r most xs ys e p = (p.0 ∙ ap (λ (x : List ℕ). length x) e, p.1 ∙ ap (put_at l 0) e, p.2)
