-- An elimination at one of its turns.
-- Assumes nothing.
use Rattle.std.specs.Prelude.{◌≡◌, List, ℕ, ◌≤◌}
use Rattle.std.proofs.Math.Bool.{So}
use Rattle.sets.specs.Held.{set_of}
use Rattle.sets.specs.Sets.{has}
use Rattle.model.specs.Hierarchy.{Roles}
use Rattle.model.specs.Machine.{Run, take_up}
use Rattle.model.specs.Record.{state_of}
use Rattle.model.specs.State.{State, roles_of}
use Rattle.indexes.specs.declared.index.Index.{Index}
use Rattle.indexes.specs.Index.{AllHolders}
use Rattle.quality.specs.Numbers.{weights_in, tolerance_in, most_quality}
use Rattle.edit_trials.specs.Trying.{run_at, SameCrewList, InStep}
use Rattle.edit_turn.specs.declared.Terms.{Terms}
use Rattle.edit_turn.specs.declared.Turn.{Turn}

-- how many roles are taken up at most: 129 passes over 128 roles
abbrev pub most_examined : ℕ
most_examined = 16512

-- the machine takes role k up by these terms
unfoldable pub take_up_by : Roles → Terms → ℕ → Run → Run
take_up_by ρ t = take_up ρ (weights_in t.weights) (tolerance_in t.tolerance)

-- the machine's run that a record and a turn hold
unfoldable pub run_in : List ℕ → Turn → Run
run_in ws turn = run_at ws turn.progress (set_of turn.worklist)

-- every item of s stands
abbrev pub Stand : ℕ → ℕ → Type 0
Stand s R = (i : ℕ) → So (has s i) → So (has R i)

-- a record with its whole index, its immediate seniors and its counts, at some turn of an elimination
pub record Underway (ws : List ℕ) (index : Index) (seniors : List ℕ) (turn : Turn) : Type 0 where
  pub in_step : InStep ws index seniors turn.progress
  pub holders : AllHolders (roles_of (state_of ws)) index
  pub listed : Stand (set_of turn.worklist) (state_of ws).standing
  pub fewer : turn.progress.changed ≤ turn.progress.examined
  pub quality_small : turn.progress.quality ≤ most_quality

-- from a record with the state st the machine has come to the run r, and a record of the same crew list and a turn hold it
pub record RunReached (st : State) (ws : List ℕ) (index : Index) (seniors : List ℕ) (turn : Turn) (r : Run) : Type 0 where
  pub underway : Underway ws index seniors turn
  pub same_crew : SameCrewList st ws
  pub run : run_in ws turn ≡ r
