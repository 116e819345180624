-- One list stored over another of its length, place by place.
-- Assumes nothing.
use mathlib.Core.Path.{◌≡◌, sym, ◌∙◌}
use mathlib.Core.List.{List, [], ◌∷◌, ◌++◌}
use Prim.Native.Nat.{ℕ, ◌+◌, ◌≤◌, ◌<◌}
use native.Mathlib.Omega.{arith}
use native.Mathlib.Numerals.{add-one}
use lib.ListN.{length, get_or, set, take}
use lib.Seq.{take_all, take-suc, take-suc-set}

pub one_more : (bytes words : List ℕ) (i b : ℕ) → length words ≡ length bytes → i < length bytes → b ≡ get_or bytes i 0 → take i words ≡ take i bytes
    → take (i + 1) (set words i b) ≡ take (i + 1) bytes
one_more bytes words i b n h e t =
    rw (add-one i) (take-suc-set words i b (omega arith) ∙ (λ k. t k ++ (e k ∷ [])) ∙ sym (take-suc bytes i 0 h))

pub all_there : (bytes words : List ℕ) (i : ℕ) → length words ≡ length bytes → length bytes ≤ i → take i words ≡ take i bytes → words ≡ bytes
all_there bytes words i n h t = sym (take_all i words (omega arith)) ∙ t ∙ take_all i bytes h
