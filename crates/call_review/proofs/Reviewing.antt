-- What a review looks at, and what an accepted one leaves.
-- Assumes nothing.
use mathlib.Core.Path.{◌≡◌, refl, sym}
use mathlib.Core.List.{List}
use Prim.Native.Nat.{ℕ}
use Rattle.std.specs.Prelude.{Ok}
use Rattle.model.specs.Quality.{Weights}
use Rattle.model.specs.Machine.{refusal, accepted, reviewed}
use Rattle.model.specs.Machine.Call.{review}
use Rattle.model.specs.State.{State, roles_of}
use Rattle.model.specs.Record.{state_of}
use Rattle.model.specs.Refusals.{weights_refusal}
use Rattle.model.specs.Calls.{unfit, edit}
use Rattle.rows.specs.Linked.{Ready}
use Rattle.edit_trials.specs.declared.progress.Progress.{Progress}
use Rattle.edit_trials.specs.Trying.{SameCrewList, run_at}
use Rattle.edit_trials.proofs.Runs.{crew-built}
use Rattle.calls_edit.proofs.Edits.{edit_accepted}
use Rattle.call_review.specs.Results.{review_result}
use Rattle.indexes.specs.declared.index.Index.{Index}

-- the weights are its only check
pub by_weights : (st : State) (w : Weights) → weights_refusal w ≡ refusal st (review w)
unfolding refusal
by_weights st w = refl

-- the record that the passes leave
pub given : (ws after : List ℕ) (index : Index) (seniors : List ℕ) (w : Weights) (g : Progress) → unfit ws ≡ 0 → refusal (state_of ws) (review w) ≡ 0
    → Ready (state_of after) after index seniors → SameCrewList (state_of ws) after → run_at after g 0 ≡ reviewed (roles_of (state_of ws)) w (state_of ws).standing
    → review_result (Ok (record { changed = g.changed; examined = g.examined })) after ≡ edit ws (review w)
unfolding accepted run_at
given ws after index seniors w g z e ready same_crew run =
    edit_accepted ws (review w) z e (run_at after g 0) after (sym run) (crew-built (state_of ws) after index seniors ready same_crew)
