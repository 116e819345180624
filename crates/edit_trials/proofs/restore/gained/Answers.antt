-- The row of the role, found and counted.
-- Assumes nothing.
use mathlib.Core.Path.{◌∙◌}
use Rattle.edit_trials.proofs.Counting.{role_counted}
use Rattle.edit_trials.proofs.restore.gained.Goals as goal

pub returns : goal.returns
returns c = record {
  few = c.role_counts.ensures.few;
  result_value = λ ρ n w sets users b near.
      c.role_counts.ensures.result_value
      ∙ role_counted ρ _ _ _ _ _ _ (c.members_of-members.ensures ρ n w users b near.seniors) ((rw c.candidate_sets.ensures at c.permissions_of-permissions.ensures) ρ n w sets b near.juniors) near;
}
