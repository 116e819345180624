-- A set whose words are made by a closure, for any number of words.
-- Assumes nothing.
use mathlib.Core.Path.{◌≡◌, refl, sym, ◌∙◌, ap}
use mathlib.Core.List.{List, [], ◌∷◌}
use Prim.Native.Nat.{ℕ, zero, suc, ◌+◌, ◌<◌}
use native.Mathlib.Nat.{add-zero, not-suc-le-zero, le_of_suc-le-suc}
use native.Mathlib.Omega.{arith}
use denote.Param.Members.{Mut, Called}
use lib.ListN.{length, get_or}
use Rattle.std.specs.Array.{IsFromFnResult, IsFromFnResultFrom}
use Rattle.sets.specs.Words.{value}
use Rattle.sets.proofs.Words.{same_words, Words, Wordwise, zip, value-zip}

-- a closure that a call leaves as it was, and that tells h
told_from : {F : Type 0} (g : Mut F (ℕ × Unit {0}) ℕ) (f : F) (h : ℕ → ℕ) (ys : List ℕ) → ((k y : ℕ) (q : F) → Called g f (k, tt) y q → (y ≡ h k) × (q ≡ f))
    → (i n : ℕ) (p : F) → p ≡ f → IsFromFnResultFrom g p ys i n → (j : ℕ) → j < n → get_or ys (i + j) 0 ≡ h (i + j)
told_from g f h ys told i zero p e all j l = absurd (not-suc-le-zero l)
told_from g f h ys told i (suc n) p e all zero l =
    let here = told i all.1 all.0 (rw e at all.3) in
    rw (add-zero i) (all.2.1 0 ∙ here.0)
told_from {F} g f h ys told i (suc n) p e all (suc j) l =
    let here = told i all.1 all.0 (rw e at all.3) in
    let next : i + suc j ≡ i + 1 + j = omega arith in
    rw next (told_from g f h ys told (i + 1) n all.0 here.1 all.4 j (le_of_suc-le-suc l))

pub made_words : {F : Type 0} (g : Mut F (ℕ × Unit {0}) ℕ) (f : F) (h : ℕ → ℕ) (ys : List ℕ) (n : ℕ) → ((k y : ℕ) (q : F) → Called g f (k, tt) y q → (y ≡ h k) × (q ≡ f))
    → IsFromFnResult g f ys n → (j : ℕ) → j < n → get_or ys j 0 ≡ h j
made_words g f h ys n told all j l = let e : 0 + j ≡ j = omega arith in rw e at (told_from g f h ys told 0 n f refl all.each j l)

get_zip : (f : ℕ → ℕ → ℕ) (xs ys : List ℕ) (j : ℕ) → length xs ≡ length ys → j < length xs → get_or (zip f xs ys) j 0 ≡ f (get_or xs j 0) (get_or ys j 0)
get_zip f [] ys j e l = absurd (omega arith)
get_zip f (x ∷ xs) [] j e l = absurd (omega arith)
get_zip f (x ∷ xs) (y ∷ ys) zero e l = refl
get_zip f (x ∷ xs) (y ∷ ys) (suc j) e l = get_zip f xs ys j (omega arith) (le_of_suc-le-suc l)

length-zip : (f : ℕ → ℕ → ℕ) (xs ys : List ℕ) → length xs ≡ length ys → length (zip f xs ys) ≡ length xs
length-zip f [] ys e = refl
length-zip f (x ∷ xs) [] e = absurd (omega arith)
length-zip f (x ∷ xs) (y ∷ ys) e = ap suc (length-zip f xs ys (omega arith))

-- what f does to each word, g does to the sets
pub all_made : (f g : ℕ → ℕ → ℕ) → Wordwise f g → (n : ℕ) (xs ys ws : List ℕ) → Words xs → Words ys → length xs ≡ n → length ys ≡ n → length ws ≡ n
    → ((j : ℕ) → j < n → get_or ws j 0 ≡ f (get_or xs j 0) (get_or ys j 0)) → value ws ≡ g (value xs) (value ys)
all_made f g w n xs ys ws a b ex ey ew m =
    let e : length xs ≡ length ys = ex ∙ sym ey in
    let long : length ws ≡ length (zip f xs ys) = ew ∙ sym (length-zip f xs ys e ∙ ex) in
    ap value (same_words ws (zip f xs ys) long (λ k l. m k (rw ew at l) ∙ sym (get_zip f xs ys k e (rw ex (rw ew at l)))))
    ∙ value-zip f g w xs ys a b e
