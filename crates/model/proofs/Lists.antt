-- Lists by index, and sets read out of words.
-- Assumes nothing.
use mathlib.Core.Path.{◌≡◌, refl, sym, ◌∙◌, ap}
use mathlib.Core.List.{List}
use Prim.Native.Nat.{ℕ, zero, suc, ◌+◌, ◌*◌, ◌^◌, ◌<◌}
use native.Mathlib.Nat.{not-suc-le-zero, le_of_suc-le-suc, add-zero}
use native.Mathlib.Omega.{arith}
use lib.ListN.{length, get_or}
use lib.Seq.{ext_get_or}
use Rattle.sets.specs.Words.{value, word}
use Rattle.sets.proofs.Words.{value_words}
use Rattle.model.specs.Lists.{tabulate, elems, set_at, rows_at}

pub length-tabulate : (n : ℕ) (f : ℕ → ℕ) → length (tabulate n f) ≡ n
unfolding tabulate
length-tabulate zero f = refl
length-tabulate (suc n) f = ap suc (length-tabulate n (λ i. f (suc i)))

pub get_d_tabulate : (n : ℕ) (f : ℕ → ℕ) (i : ℕ) → i < n → get_or (tabulate n f) i 0 ≡ f i
unfolding tabulate
get_d_tabulate zero f i h = absurd (not-suc-le-zero h)
get_d_tabulate (suc n) f zero h = refl
get_d_tabulate (suc n) f (suc i) h = get_d_tabulate n (λ i. f (suc i)) i (le_of_suc-le-suc h)

-- a list is the table of its elements
pub tabulate_is : (n : ℕ) (f : ℕ → ℕ) (l : List ℕ) → length l ≡ n → ((i : ℕ) → i < n → get_or l i 0 ≡ f i) → l ≡ tabulate n f
tabulate_is n f l e h =
    ext_get_or 0 l (tabulate n f) (e ∙ sym (length-tabulate n f)) (λ i b. let b' : i < n = rw e at b in h i b' ∙ sym (get_d_tabulate n f i b'))

pub tabulate_same : (n : ℕ) (f g : ℕ → ℕ) → ((i : ℕ) → i < n → f i ≡ g i) → tabulate n f ≡ tabulate n g
tabulate_same n f g h = tabulate_is n g (tabulate n f) (length-tabulate n f) (λ i b. get_d_tabulate n f i b ∙ h i b)

pub length_elems : (ws : List ℕ) (at n : ℕ) → length (elems ws at n) ≡ n
unfolding elems
length_elems ws at zero = refl
length_elems ws at (suc n) = ap suc (length_elems ws (suc at) n)

pub get_d_elems : (ws : List ℕ) (at n i : ℕ) → i < n → get_or (elems ws at n) i 0 ≡ get_or ws (at + i) 0
unfolding elems
get_d_elems ws at zero i h = absurd (not-suc-le-zero h)
get_d_elems ws at (suc n) zero h = rw (add-zero at) refl
get_d_elems ws at (suc n) (suc i) h = get_d_elems ws (suc at) n i (le_of_suc-le-suc h) ∙ ap (λ (x : ℕ). get_or ws x 0) (let e : suc at + i ≡ at + suc i = omega arith in e)

-- lists that agree there hold the same set there
pub set_at_same : (n : ℕ) (xs ys : List ℕ) (at bt : ℕ) → ((j : ℕ) → j < n → get_or xs (at + j) 0 ≡ get_or ys (bt + j) 0) → set_at n xs at ≡ set_at n ys bt
unfolding set_at
set_at_same n xs ys at bt h =
    ap value
    (ext_get_or 0 (elems xs at n) (elems ys bt n) (length_elems xs at n ∙ sym (length_elems ys bt n))
    (λ i b. let b' : i < n = rw (length_elems xs at n) at b in get_d_elems xs at n i b' ∙ h i b' ∙ sym (get_d_elems ys bt n i b')))

-- n words that are those of a set below 2 ^ (64 n) stand for it
pub set_at_words : (n s : ℕ) (ws : List ℕ) (at : ℕ) → s < 2 ^ (64 * n) → ((j : ℕ) → j < n → get_or ws (at + j) 0 ≡ word s j) → set_at n ws at ≡ s
unfolding set_at
set_at_words n s ws at b h =
    let e : length (elems ws at n) ≡ n = length_elems ws at n in
    value_words (elems ws at n) s (rw e b) (λ j l. let b' : j < n = rw e at l in get_d_elems ws at n j b' ∙ h j b')

pub length-rows_at : (n : ℕ) (ws : List ℕ) (at : ℕ) → length (rows_at n ws at) ≡ n
unfolding rows_at
length-rows_at n ws at = length-tabulate n (λ u. set_at 4 ws (at + 4 * u))

pub get_d_rows_at : (n : ℕ) (ws : List ℕ) (at u : ℕ) → u < n → get_or (rows_at n ws at) u 0 ≡ set_at 4 ws (at + 4 * u)
unfolding rows_at
get_d_rows_at n ws at u h = get_d_tabulate n (λ u. set_at 4 ws (at + 4 * u)) u h
