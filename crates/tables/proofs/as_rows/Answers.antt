-- The first chunks of the words are the rows.
-- Assumes nothing.
use mathlib.Core.Path.{◌∙◌, ap}
use mathlib.Core.List.{List}
use Prim.Native.Nat.{ℕ}
use lib.ListN.{take}
use Rattle.tables.specs.Rows.{rows_of}
use Rattle.tables.proofs.Chunks.{chunked}
use Rattle.tables.proofs.as_rows.Goals as goal

pub returns-clause-value : goal.returns-clause-value
returns-clause-value c = ap (λ (rows : List (List ℕ)). rows_of (take c.args.n rows)) c.as_chunks.ensures.front ∙ chunked _ _ _ c.requires
