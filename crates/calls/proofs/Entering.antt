-- What a call knows of a record that was let in.
-- Assumes nothing.
use mathlib.Core.Path.{◌≡◌}
use mathlib.Core.List.{List}
use Prim.Native.Nat.{ℕ}
use Rattle.model.specs.Calls.{unfit}
use Rattle.model.specs.Record.{state_of}
use Rattle.indexes.specs.declared.index.Index.{Index}
use Rattle.rows.specs.Linked.{Ready}

-- ws, the words that were lent, taken as an array: nothing is unfit about them, and the index and the immediate seniors are theirs
pub record LetIn (lent ws : List ℕ) (index : Index) (seniors : List ℕ) : Type 0 where
  pub same : ws ≡ lent
  pub fit : unfit ws ≡ 0
  pub ready : Ready (state_of ws) ws index seniors

pub let_in : {lent ws : List ℕ} {index : Index} {seniors : List ℕ} → unfit lent ≡ 0 → Ready (state_of lent) lent index seniors → ws ≡ lent → LetIn lent ws index seniors
let_in fit ready same = record { same = same; fit = rw same fit; ready = rw same ready }
