-- The two checks of a quality call, and its answer.
-- Assumes nothing.
use mathlib.Core.Path.{◌≡◌, ◌∙◌, ap}
use mathlib.Core.List.{List}
use Prim.Native.Nat.{ℕ}
use Rattle.std.specs.Prelude.{Ok, Err}
use lib.ListN.{get_or}
use Rattle.model.specs.Lists.{set_at}
use Rattle.model.specs.Quality.{Weights, Counts, counted, weigh}
use Rattle.model.specs.Record.{role_rows_of}
use Rattle.model.specs.Refusals.{weights_refusal}
use Rattle.model.specs.Calls.{unfit, quality_of}
use Rattle.model.proofs.Refusals.{unfit_iff}
use Rattle.model.proofs.Sound.{counts_read}
use Rattle.refusals.specs.declared.Refusal.{Refusal}
use Rattle.refusals.specs.Numbers.{number_of}
use Rattle.calls.proofs.Telling.{told_first, told_second, told_value}
use Rattle.call_quality.specs.Results.{quality_result}

module _ (ws : List ℕ) (w : Weights) where
  -- a refused one: by the entrance, or by the weights
  pub quality_unfit : (r : Refusal) → number_of r ≡ unfit ws → quality_result (Err r) ≡ quality_of ws w
  unfolding quality_of
  quality_unfit r e = told_first (unfit ws) _ _ r e

  pub quality_refused : unfit ws ≡ 0 → (r : Refusal) → number_of r ≡ weights_refusal w → quality_result (Err r) ≡ quality_of ws w
  unfolding quality_of
  quality_refused z r e = told_second (unfit ws) _ _ z r e

  -- and one that is answered
  pub quality_given : (q : Counts) → unfit ws ≡ 0 → weights_refusal w ≡ 0 → q ≡ counted (get_or ws 2 0) (role_rows_of ws) (set_at 2 ws 4)
      → quality_result (Ok (weigh w q)) ≡ quality_of ws w
  unfolding quality_of
  quality_given q z zw e =
      let v = ap (weigh w) (e ∙ counts_read ws ((unfit_iff ws).0 z)) in
      (λ i. record { code = 0; value = v i }) ∙ told_value (unfit ws) _ _ z zw
