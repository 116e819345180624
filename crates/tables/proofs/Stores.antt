-- A set stored into a list of words, and read from it.
-- Assumes nothing.
use mathlib.Core.Path.{◌≡◌, refl, sym, ◌∙◌, ap}
use mathlib.Core.List.{List, ◌∷◌}
use Prim.Native.Nat.{ℕ, zero, suc, ◌+◌, ◌-◌, ◌*◌, ◌^◌, ◌≤◌, ◌<◌}
use native.Mathlib.Omega.{arith}
use lib.ListN.{length, get_or, take, drop}
use Rattle.std.proofs.Math.Seq.{drop-cons}
use Rattle.sets.specs.Words.{value, word}
use Rattle.sets.proofs.Truth.{either}
use Rattle.sets.proofs.Words.{Words, same_words, word_value, word_lt}
use Rattle.sets.proofs.Written.{Arr}
use Rattle.model.specs.Lists.{elems, set_at}
use Rattle.model.proofs.Lists.{length-tabulate, get_d_tabulate, set_at_words, set_at_same}
use Rattle.stores.specs.Stores.{put_at}
use Rattle.stores.proofs.Stores.{put_at-below, put_at_above, put_at_in}
use Rattle.tables.specs.Stores.{words_of}

pub length-words_of : (w s : ℕ) → length (words_of w s) ≡ w
unfolding words_of
length-words_of w s = length-tabulate w (word s)

pub get_d_words_of : (w s j : ℕ) → j < w → get_or (words_of w s) j 0 ≡ word s j
unfolding words_of
get_d_words_of w s j h = get_d_tabulate w (word s) j h

-- a set that was stored is read back, and one beside it is as it was
pub stored_word : (l : List ℕ) (at w s j : ℕ) → at + w ≤ length l → j < w → get_or (put_at l at (words_of w s)) (at + j) 0 ≡ word s j
stored_word l at w s j h b =
    put_at_in l at (words_of w s) j (rw (length-words_of w s) h) (rw (length-words_of w s) b) ∙ get_d_words_of w s j b

pub stored_back : (l : List ℕ) (at w s : ℕ) → at + w ≤ length l → s < 2 ^ (64 * w) → set_at w (put_at l at (words_of w s)) at ≡ s
stored_back l at w s h b = set_at_words w s (put_at l at (words_of w s)) at b (λ j lj. stored_word l at w s j h lj)

pub stored_before : (l : List ℕ) (at w s b v : ℕ) → b + v ≤ at → set_at v (put_at l at (words_of w s)) b ≡ set_at v l b
stored_before l at w s b v h = set_at_same v (put_at l at (words_of w s)) l b b (λ j lj. put_at-below l at (words_of w s) (b + j) (omega arith))

pub stored_after : (l : List ℕ) (at w s b v : ℕ) → at + w ≤ b → set_at v (put_at l at (words_of w s)) b ≡ set_at v l b
stored_after l at w s b v h =
    set_at_same v (put_at l at (words_of w s)) l b b (λ j lj. put_at_above l at (words_of w s) (b + j) (rw (length-words_of w s) (omega arith)))

-- words stay words
pub stored_words : (l : List ℕ) (at w s : ℕ) → at + w ≤ length l → Words l → Words (put_at l at (words_of w s))
stored_words l at w s h f i =
    either i at (λ b. rw (put_at-below l at (words_of w s) i b) (f i))
    (λ b.
    either i (at + w)
    (λ c.
    let e : at + (i - at) ≡ i = omega arith in
    rw (← e) (rw (stored_word l at w s (i - at) h (omega arith)) (word_lt s (i - at))))
    (λ c. rw (put_at_above l at (words_of w s) i (rw (length-words_of w s) c)) (f i)))

-- ---- the code's own terms

elems_taken : (w at : ℕ) (ws : List ℕ) → at + w ≤ length ws → take w (drop at ws) ≡ elems ws at w
unfolding elems
elems_taken zero at ws l = refl
elems_taken (suc w) at ws l = rw (drop-cons ws at 0 (omega arith)) (ap (λ (r : List ℕ). get_or ws at 0 ∷ r) (elems_taken w (suc at) ws (omega arith)))

pub loaded : (w : ℕ) (ws : List ℕ) (at : ℕ) → at + w ≤ length ws → value (take (at + w - at) (drop at ws)) ≡ set_at w ws at
unfolding set_at
loaded w ws at l = let e : at + w - at ≡ w = omega arith in rw e (ap value (elems_taken w at ws l))

pub words_are : (w : ℕ) (ws : List ℕ) → Arr w ws → ws ≡ words_of w (value ws)
words_are w ws a =
    same_words ws (words_of w (value ws)) (a.0 ∙ sym (length-words_of w (value ws))) (λ k l. let b : k < w = rw a.0 at l in sym (word_value ws k a.1) ∙ sym (get_d_words_of w (value ws) k b))

pub stored : (ws : List ℕ) (at w : ℕ) (xs : List ℕ) → Arr w xs → put_at ws at xs ≡ put_at ws at (words_of w (value xs))
stored ws at w xs a = ap (put_at ws at) (words_are w xs a)
