-- The header, then the rows.
-- Assumes nothing.
use mathlib.Core.Path.{◌∙◌, ap}
use mathlib.Core.List.{List}
use Prim.Native.Nat.{ℕ}
use native.Mathlib.Omega.{arith}
use borrow.Author.Rules.{rules}
use lib.ListN.{length}
use Rattle.model.specs.Lists.{rows_at}
use Rattle.tables.proofs.Chunks.{flattened}
use Rattle.records.proofs.Beginning.{begun}
use Rattle.records.proofs.begin.begin_record.Goals as goal

pub returns : goal.returns
returns c = λ st d o.
    rw (c.copy.ensures, c.write_header.ensures)
    (begun st _ _ _ _ _ _ _ d o (omega (arith, c.as_flattened-words.ensures.len)) (search rules)
    (ap (λ (ws : List ℕ). rows_at (length c.args.rows.now) ws 0) c.as_flattened-words.ensures.value ∙ flattened _ c.told-rows))
