-- The refusals of mining in two halves, what can be told without mining and what can't; and its acceptance.
-- Assumes nothing.
use mathlib.Core.Path.{◌≡◌, sym, ◌∙◌, ap}
use mathlib.Core.Bool.{false, So}
use mathlib.Core.List.{List}
use Prim.Native.Nat.{ℕ, ◌*◌, ◌≤◌, ◌<◌}
use native.Mathlib.Omega.{arith}
use lib.Dec.{eqb}
use lib.ListN.{length}
use Rattle.sets.proofs.Truth.{not-So, eqb_iff, when-true, when-false}
use Rattle.model.specs.Lists.{rows_at}
use Rattle.model.specs.Candidates.{candidates}
use Rattle.model.specs.Record.{record_length, built, Limits}
use Rattle.model.specs.State.{fresh, within_limits, rows_within}
use Rattle.model.specs.Refusals.{◌or_else◌, length_refusal, limits_refusal, crew_refusal, candidates_refusal}
use Rattle.model.specs.Calls.{mining_refusal, mine}
use Rattle.model.proofs.Record.{within_limits_iff}
use Rattle.model.proofs.Refusals.{or_else_first, or_else_next, or_else_assoc, length_check, limits_check, crew_check, candidates_check, went_on}
use Rattle.model.proofs.Steps.{mining_fit}
use Rattle.std.specs.Prelude.{Ok, Err}
use Rattle.refusals.specs.declared.Refusal.{Refusal}
use Rattle.refusals.specs.declared.Refusal.TheVariants.{Candidates}
use Rattle.refusals.specs.Numbers.{number_of}
use Rattle.refusals.proofs.Numbers.{some_number}
use Rattle.call_mine.specs.Results.{mine_result}

module _ (n m : ℕ) (crew ws : List ℕ) where
  abbrev lent : ℕ
  lent = length_refusal ws or_else limits_refusal n m or_else crew_refusal n m crew

  halves : mining_refusal n m crew ws ≡ (length_refusal ws or_else limits_refusal n m or_else crew_refusal n m crew) or_else candidates_refusal (rows_at n crew 0)
  unfolding mining_refusal
  halves =
      ap (λ (x : ℕ). length_refusal ws or_else x) (sym (or_else_assoc (limits_refusal n m) (crew_refusal n m crew) _))
      ∙ sym (or_else_assoc (length_refusal ws) (limits_refusal n m or_else crew_refusal n m crew) _)

  refused_with : (r : Refusal) → mining_refusal n m crew ws ≡ number_of r → mine_result (Err r) ws ≡ mine n m crew ws
  unfolding mine
  refused_with r e =
      let t = eqb (mining_refusal n m crew ws) 0 in
      let no : t ≡ false = not-So t (λ h. some_number r (sym e ∙ (eqb_iff (mining_refusal n m crew ws) 0).0 h)) in
      (λ i. record { code = (sym e) i; candidates = 0; words = ws }) ∙ sym (when-false t _ _ no)

  pub lent_refused : (r : Refusal) → number_of r ≡ lent → mine_result (Err r) ws ≡ mine n m crew ws
  lent_refused r e = refused_with r (halves ∙ or_else_first lent _ (λ z. some_number r (e ∙ z)) ∙ sym e)

  module _ (z : length_refusal ws or_else limits_refusal n m or_else crew_refusal n m crew ≡ 0) where
    parts : (length ws ≡ record_length) × So (within_limits n m) × ((length crew ≡ 4 * n) × So (rows_within m (rows_at n crew 0)))
    parts =
        let a = went_on _ (length_check ws) z in
        let b = went_on _ (limits_check n m) a.1 in
        (a.0, b.0, (crew_check n m crew).passed b.1)

    pub lent_length : length ws ≡ record_length
    lent_length = parts.0

    pub lent_users : n ≤ 128
    lent_users = ((within_limits_iff n m).0 parts.1).1

    pub lent_size : length crew ≡ 4 * n
    lent_size = parts.2.0

    pub too_many : 128 < length (candidates (rows_at n crew 0)) → mine_result (Err Candidates) ws ≡ mine n m crew ws
    too_many l =
        refused_with Candidates (halves ∙ or_else_next lent _ z ∙ (candidates_check (rows_at n crew 0)).stops (λ few. let b : ⊥ = omega arith in b))

    module _ (c : ℕ) (count : c ≡ length (candidates (rows_at n crew 0))) (few : c ≤ 128) where
      none : mining_refusal n m crew ws ≡ 0
      none = halves ∙ or_else_next lent _ z ∙ (candidates_check (rows_at n crew 0)).passes (rw (sym count) few)

      pub mined_limits : Limits (fresh n m (rows_at n crew 0))
      mined_limits = (mining_fit n m crew ws none).limits

      -- c, and the record built afresh with all candidates standing
      pub mined : (after : List ℕ) → after ≡ built (fresh n m (rows_at n crew 0)) → mine_result (Ok c) after ≡ mine n m crew ws
      unfolding mine
      mined after e =
          let t = eqb (mining_refusal n m crew ws) 0 in
          (λ i. record { code = 0; candidates = count i; words = e i }) ∙ sym (when-true t _ _ ((eqb_iff (mining_refusal n m crew ws) 0).1 none))
