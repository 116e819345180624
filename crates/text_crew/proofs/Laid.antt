-- The words in which the rows are laid.
-- Assumes nothing.
use mathlib.Core.Path.{◌≡◌, refl, sym, ◌∙◌, ap}
use mathlib.Core.List.{List, [], ◌∷◌, ◌++◌}
use Prim.Native.Nat.{ℕ, ◌+◌, ◌-◌, ◌*◌, ◌/◌, ◌%◌, ◌<◌}
use native.Mathlib.Omega.{arith}
use lib.ListN.{length, get_or, length-append, replicate, length-replicate, get_or-replicate, get_or-append, get_or-eq_default}
use lib.Seq.{get_or-append_seam}
use Rattle.sets.specs.Words.{word}
use Rattle.sets.proofs.Truth.{either}
use Rattle.sets.proofs.Words.{word-zero}
use Rattle.model.specs.Record.{region_word}
use Rattle.model.proofs.Lists.{length-tabulate, get_d_tabulate, tabulate_is}
use Rattle.stores.specs.Stores.{put_at}
use Rattle.stores.proofs.Stores.{length-put_at, put_at-below, put_at_above}
use Rattle.tables.specs.Stores.{words_of}
use Rattle.tables.proofs.Stores.{length-words_of, stored_word}
use Rattle.text_crew.specs.Reader.{laid}

-- ---- the layout

pub length-laid : (rows : List ℕ) → length (laid rows) ≡ 512
unfolding laid
length-laid rows = length-tabulate 512 (region_word 4 (λ u. get_or rows u 0))

pub get_d_laid : (rows : List ℕ) (i : ℕ) → i < 512 → get_or (laid rows) i 0 ≡ word (get_or rows (i / 4) 0) (i % 4)
unfolding laid region_word
get_d_laid rows i h = get_d_tabulate 512 (region_word 4 (λ u. get_or rows u 0)) i h

pub laid_is : (rows words : List ℕ) → length words ≡ 512 → ((i : ℕ) → i < 512 → get_or words i 0 ≡ word (get_or rows (i / 4) 0) (i % 4))
    → words ≡ laid rows
unfolding laid region_word
laid_is rows words e h = tabulate_is 512 (region_word 4 (λ u. get_or rows u 0)) words e h

-- one row more
pub laid_more : (rows : List ℕ) (u s : ℕ) → length rows ≡ u → u < 128
    → put_at (laid rows) (4 * u) (words_of 4 s) ≡ laid (rows ++ (s ∷ []))
laid_more rows u s e h =
    let n : length (laid rows) ≡ 512 = length-laid rows in
    laid_is (rows ++ (s ∷ [])) (put_at (laid rows) (4 * u) vs) (length-put_at (laid rows) (4 * u) vs ∙ n)
    (λ i l.
    either i (4 * u)
    (λ b.
    put_at-below (laid rows) (4 * u) vs i b ∙ get_d_laid rows i l
    ∙ ap (λ (r : ℕ). word r (i % 4)) (sym (get_or-append rows (s ∷ []) 0 (i / 4) (omega arith))))
    (λ b.
    either i (4 * u + 4)
    (λ k.
    let p : 4 * u + (i - 4 * u) ≡ i = omega arith in
    let q : i % 4 ≡ i - 4 * u = omega arith in
    let r : i / 4 ≡ length rows = omega arith in
    ap (λ (x : ℕ). get_or (put_at (laid rows) (4 * u) vs) x 0) (sym p)
    ∙ stored_word (laid rows) (4 * u) 4 s (i - 4 * u) (omega arith) (omega arith)
    ∙ rw (q, r, get_or-append_seam rows s [] 0) refl)
    (λ k.
    let m : length (rows ++ (s ∷ [])) ≡ length rows + 1 = length-append rows (s ∷ []) in
    put_at_above (laid rows) (4 * u) vs i (rw (length-words_of 4 s) k) ∙ get_d_laid rows i l
    ∙ ap (λ (r : ℕ). word r (i % 4))
    (get_or-eq_default rows 0 (omega arith) ∙ sym (get_or-eq_default (rows ++ (s ∷ [])) 0 (omega arith))))))
  where
    vs : List ℕ
    vs = words_of 4 s

-- no rows: words that are all zero
pub laid_none : (words : List ℕ) → length words ≡ 512 → ((i : ℕ) → i < 512 → get_or words i 0 ≡ 0) → words ≡ laid []
laid_none words e h = laid_is [] words e (λ i l. h i l ∙ sym (nothing i))
  where
    nothing : (i : ℕ) → word (get_or [] (i / 4) 0) (i % 4) ≡ 0
    nothing i = ap (λ (r : ℕ). word r (i % 4)) (get_or-eq_default [] 0 {n = i / 4} (omega arith)) ∙ word-zero (i % 4)

pub blank : replicate 512 0 ≡ laid []
blank = laid_none (replicate 512 0) (length-replicate {A = ℕ} 512 0) (λ i l. get_or-replicate {A = ℕ} 512 i 0 0 l)
