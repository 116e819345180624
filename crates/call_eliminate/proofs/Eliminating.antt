-- What an accepted elimination leaves.
-- Assumes nothing.
use mathlib.Core.Path.{◌≡◌, sym, ◌∙◌, ap}
use mathlib.Core.List.{List}
use Prim.Native.Nat.{ℕ}
use Rattle.std.specs.Prelude.{Ok}
use Rattle.model.specs.Machine.{refusal, accepted, eliminated}
use Rattle.model.specs.Machine.Call.{eliminate}
use Rattle.model.specs.Quality.{Weights, Tolerance}
use Rattle.model.specs.State.{roles_of}
use Rattle.model.specs.Record.{built, state_of}
use Rattle.model.specs.Calls.{unfit, edit}
use Rattle.indexes.specs.declared.index.Index.{Index}
use Rattle.edit_trials.specs.declared.progress.Progress.{Progress}
use Rattle.edit_trials.specs.Trying.{run_at}
use Rattle.edit_eliminate.specs.Ending.{EliminationEnded}
use Rattle.calls_edit.proofs.Edits.{edit_accepted}
use Rattle.call_eliminate.specs.Results.{eliminate_result}

pub run_ended : (ws after : List ℕ) (index : Index) (seniors : List ℕ) (w : Weights) (t : Tolerance) (g : Progress) → unfit ws ≡ 0 → refusal (state_of ws) (eliminate w t) ≡ 0
    → EliminationEnded (state_of ws) after index seniors g (eliminated (roles_of (state_of ws)) w t (state_of ws).standing)
    → eliminate_result (Ok (record { changed = g.changed; examined = g.examined })) after ≡ edit ws (eliminate w t)
unfolding accepted run_at
run_ended ws after index seniors w t g z e done =
    edit_accepted ws (eliminate w t) z e (run_at after g (eliminated (roles_of (state_of ws)) w t (state_of ws).standing).worklist) after (sym done.run)
    (done.in_step.ready.afresh ∙ ap built done.same_crew)
