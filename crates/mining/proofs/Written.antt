-- A table's words are those of its sets, and zeros.
-- Assumes nothing.
use mathlib.Core.Path.{◌≡◌, sym, ◌∙◌, ap}
use mathlib.Core.List.{List}
use Prim.Native.Nat.{ℕ, ◌+◌, ◌*◌, ◌≤◌, ◌<◌}
use native.Mathlib.Omega.{arith}
use lib.ListN.{length, get_or, get_or-eq_default}
use Rattle.sets.specs.Words.{word}
use Rattle.sets.proofs.Truth.{either}
use Rattle.sets.proofs.Words.{Words, word_value, word-zero}
use Rattle.model.specs.Lists.{elems, set_at, rows_at}
use Rattle.model.proofs.Lists.{length_elems, get_d_elems, length-rows_at}
use Rattle.mining.specs.Mining.{Gathered, Written}
use Rattle.tables.proofs.Rows.{row_at}

elems_words : (t : List ℕ) → Words t → (at n : ℕ) → Words (elems t at n)
elems_words t f at n i =
    either i n (λ l. rw (get_d_elems t at n i l) (f (at + i)))
    (λ l. let b : length (elems t at n) ≤ i = rw (length_elems t at n) l in rw (get_or-eq_default (elems t at n) 0 b) (omega arith))

-- word j of the set at a place
pub set_word : (t : List ℕ) → Words t → (at n j : ℕ) → j < n → word (set_at n t at) j ≡ get_or t (at + j) 0
unfolding set_at
set_word t f at n j h = word_value (elems t at n) j (elems_words t f at n) ∙ get_d_elems t at n j h

pub table_words : (t xs : List ℕ) (c : ℕ) → rows_at c t 0 ≡ xs → Words t → ((i : ℕ) → 4 * c ≤ i → get_or t i 0 ≡ 0)
    → (k j : ℕ) → j < 4 → get_or t (4 * k + j) 0 ≡ word (get_or xs k 0) j
table_words t xs c e f z k j h =
    rw (← e)
    (either k c (λ l. rw (row_at c t k l) (sym (set_word t f (4 * k) 4 j h)))
    (λ l.
    let b : length (rows_at c t 0) ≤ k = rw (length-rows_at c t 0) l in
    rw (get_or-eq_default (rows_at c t 0) 0 b) (z (4 * k + j) (omega arith) ∙ sym (word-zero j))))

pub gathered_written : {t : List ℕ} {c : ℕ} {xs slots : List ℕ} → length t ≡ 512 → rows_at c t 0 ≡ xs → Gathered t c slots → Written t xs
gathered_written {t} {c} {xs} size e g =
    record {
      size = size;
      few = rw (sym (ap length e) ∙ length-rows_at c t 0) g.few;
      words = λ i j l k. table_words t xs c e g.words g.rest i j k;
    }
