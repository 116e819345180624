-- The words of a set.
-- Assumes nothing.
use Rattle.std.specs.Prelude.{List, ℕ}
use Rattle.sets.specs.Words.{word}
use Rattle.model.specs.Lists.{tabulate}

-- the w words of a set
unfoldable pub words_of : ℕ → ℕ → List ℕ
words_of w s = tabulate w (word s)
