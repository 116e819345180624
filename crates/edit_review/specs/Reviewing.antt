-- A review as the code makes it: a record with its index and immediate seniors, and the progress.
-- Assumes nothing.
use Rattle.std.specs.Prelude.{◌≡◌, List, ℕ}
use Rattle.model.specs.Machine.{Run}
use Rattle.model.specs.Record.{state_of}
use Rattle.indexes.specs.declared.index.Index.{Index}
use Rattle.edit_trials.specs.declared.progress.Progress.{Progress}
use Rattle.edit_trials.specs.Trying.{run_at, SameCrewList, InStep}

-- the record goes on, with the same crew list, and its run is what f makes of the one before, whatever the worklist
pub record Stepped (f : Run → Run) (ws : List ℕ) (at : Progress) (after : List ℕ) (index : Index) (seniors : List ℕ) (r : Progress) : Type 0 where
  pub in_step : InStep after index seniors r
  pub same_crew : SameCrewList (state_of ws) after
  pub run : (worklist : ℕ) → run_at after r worklist ≡ f (run_at ws at worklist)

-- how many roles can have been counted where a pass begins, and where a role is taken up, so that there is room for more
abbrev pub pass_room : ℕ
pass_room = 50000

abbrev pub turn_room : ℕ
turn_room = 100000
