-- An elimination at its end.
-- Assumes nothing.
use Rattle.std.specs.Prelude.{◌≡◌, List, ℕ}
use Rattle.model.specs.Machine.{Run}
use Rattle.model.specs.State.{State}
use Rattle.edit_trials.specs.declared.progress.Progress.{Progress}
use Rattle.edit_trials.specs.Trying.{run_at, SameCrewList, InStep}
use Rattle.indexes.specs.declared.index.Index.{Index}

-- from a record with the state st the machine has come to the run r at its end, and a record of the same crew list holds it, whatever is left of the
-- worklist
pub record EliminationEnded (st : State) (ws : List ℕ) (index : Index) (seniors : List ℕ) (g : Progress) (r : Run) : Type 0 where
  pub in_step : InStep ws index seniors g
  pub same_crew : SameCrewList st ws
  pub run : run_at ws g r.worklist ≡ r
