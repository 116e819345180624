-- What every call on a record asks first, and what it then has.
-- Assumes nothing.
use Rattle.std.specs.Prelude.{◌≡◌, List, ℕ, Result, OnOk}
use Rattle.model.specs.Record.{state_of}
use Rattle.model.specs.Refusals.{soundness_refusal}
use Rattle.model.specs.Calls.{unfit}
use Rattle.refusals.specs.declared.Refusal.{Refusal}
use Rattle.refusals.specs.Numbers.{code_of}
use Rattle.rows.specs.Linked.{Ready}
use Rattle.indexes.specs.declared.index.Index.{Index}

-- what the soundness check finds; where it finds nothing, the index and the immediate seniors are those of the record
pub record Judged {A : Type 0} (ws : List ℕ) (index : Index) (seniors : List ℕ) (found : Result A Refusal) : Type 0 where
  pub number : code_of found ≡ soundness_refusal ws
  pub ready : OnOk found (Ready (state_of ws) ws index seniors)

-- what both checks find, length and then soundness; and the same where they find nothing
pub record Entered {A : Type 0} (ws : List ℕ) (index : Index) (seniors : List ℕ) (found : Result A Refusal) : Type 0 where
  pub number : code_of found ≡ unfit ws
  pub ready : OnOk found (Ready (state_of ws) ws index seniors)
