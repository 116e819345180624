-- A struct's set is below its width: `search (words, held)` proves it of a parameter or of a call's result.
-- Assumes nothing.
use Prim.Native.Nat.{ℕ, ◌*◌, ◌^◌, ◌<◌}
use mathlib.Core.Path.{◌≡◌, sym, ◌∙◌}
use lib.Dec.{eqb}
use lib.Pointwise.{pointwise}
use Rattle.sets.proofs.Written.{Arr, arr_lt, same_words_test}
use Rattle.sets.specs.declared.set.Set.{Set}
use Rattle.sets.specs.Held.{set_of}

pub held : {n : ℕ} (s : Set n) → Arr n s.words → set_of s < 2 ^ (64 * n)
unfolding set_of
held {n = n} s a = arr_lt n s.words a

-- of two and of four words
pub held128 : (s : Set 2) → Arr 2 s.words → set_of s < 2 ^ 128
held128 s a = held s a

pub held256 : (s : Set 4) → Arr 4 s.words → set_of s < 2 ^ 256
held256 s a = held s a

-- `==` on structs is equality of their sets
pub equal_sets : {n : ℕ} (s t : Set n) → Arr n s.words → Arr n t.words → pointwise eqb s.words t.words ≡ eqb (set_of s) (set_of t)
unfolding set_of
equal_sets s t a b = same_words_test s.words t.words a.1 b.1 (a.0 ∙ sym b.0)
