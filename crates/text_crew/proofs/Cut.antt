-- What is said of a text, where all that are too long get one answer, can be said of as many of its bytes as are more than the longest has.
-- Assumes nothing.
use mathlib.Core.Path.{◌≡◌, ap, ◌∙◌}
use mathlib.Core.List.{List}
use Prim.Native.Nat.{ℕ, ◌<◌, ◌≤◌}
use native.Mathlib.Omega.{arith}
use lib.ListN.{length, take}
use lib.Seq.{take_all, length-take-le}
use Rattle.sets.proofs.Truth.{either}
use Rattle.text_crew.specs.Reader.{longest_text}

module _ (f : List ℕ → List ℕ) (long : (a b : List ℕ) → longest_text < length a → longest_text < length b → f a ≡ f b) where
  pub cut_same : (space : ℕ) (text bytes : List ℕ) → bytes ≡ take space text → longest_text < space → f bytes ≡ f text
  cut_same space text bytes begun h =
      ap f begun
      ∙ either space (length text)
      (λ (g : space < length text).
      let e : length (take space text) ≡ space = length-take-le space text (omega arith) in
      long (take space text) text (omega arith) (omega arith))
      (λ (g : length text ≤ space). ap f (take_all space text g))
