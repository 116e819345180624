-- The set that a struct of n words holds: the number of its words. Crates above speak of a struct through this and never of its words.
-- Assumes nothing.
use Rattle.std.specs.Prelude.{ℕ}
use Rattle.sets.specs.Words.{value}
use Rattle.sets.specs.declared.set.Set.{Set}

unfoldable pub set_of : {n : ℕ} → Set n → ℕ
set_of s = value s.words
