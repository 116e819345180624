-- A crew list that keeps the limits is mined into a record where it has at most 128 candidates, and refused with 4 where it has more.
-- Assumes nothing.
use mathlib.Core.Path.{◌≡◌, sym, ◌∙◌, ap}
use mathlib.Core.Bool.{false, So}
use mathlib.Core.List.{List}
use Prim.Native.Nat.{ℕ, ◌*◌, ◌<◌}
use lib.Dec.{leb}
use lib.ListN.{length}
use Rattle.sets.proofs.Truth.{either, by_test, So-not, leb_iff}
use Rattle.model.specs.Lists.{rows_at}
use Rattle.model.specs.Candidates.{candidates}
use Rattle.model.specs.State.{fresh, within_limits, rows_within}
use Rattle.model.specs.Record.{record_length, built, state_of, sound}
use Rattle.model.specs.Calls.{Mined, mining_refusal, mine}
use Rattle.model.proofs.Record.{state_back}
use Rattle.model.proofs.Refusals.{mining_iff, mining_is_4}
use Rattle.model.proofs.Steps.{Fit, mining_fit}
use Rattle.model.proofs.Calls.{mine_code, mine_accepted}
use Rattle.model.proofs.Claim.{fit_sound}
use Rattle.std.specs.Prelude.{Ok, Err}
use Rattle.refusals.specs.declared.Refusal.{Refusal}
use Rattle.refusals.specs.Numbers.{number_of}
use Rattle.refusals.proofs.Numbers.{some_number}
use Rattle.call_mine.specs.Results.{mine_result}

module _ (n m : ℕ) (crew ws : List ℕ) (full : length ws ≡ record_length) (ok : So (within_limits n m)) (size : length crew ≡ 4 * n)
    (inside : So (rows_within m (rows_at n crew 0))) where
  abbrev rows : List ℕ
  rows = rows_at n crew 0

  few_code : So (leb (length (candidates rows)) 128) → mining_refusal n m crew ws ≡ 0
  few_code t = (mining_iff n m crew ws).1 (full, ok, (size, inside), (leb_iff (length (candidates rows)) 128).0 t)

  more_than : leb (length (candidates rows)) 128 ≡ false → 128 < length (candidates rows)
  more_than t = either 128 (length (candidates rows)) (λ l. l) (λ l. absurd (So-not t ((leb_iff (length (candidates rows)) 128).1 l)))

  many_code : leb (length (candidates rows)) 128 ≡ false → mining_refusal n m crew ws ≡ 4
  many_code t = mining_is_4 n m crew ws full ok (size, inside) (more_than t)

  -- refused: that is 4
  pub mined_many : (r : Refusal) (ws' : List ℕ) → mine_result (Err r) ws' ≡ mine n m crew ws → (number_of r ≡ 4) × (leb (length (candidates rows)) 128 ≡ false)
  mined_many r ws' p =
      let t = leb (length (candidates rows)) 128 in
      let code : number_of r ≡ mining_refusal n m crew ws = ap (λ (x : Mined). x.code) p ∙ mine_code n m crew ws in
      by_test t (λ y. absurd (some_number r (code ∙ few_code y))) (λ y. (code ∙ many_code y, y))

  module _ (c : ℕ) (ws' : List ℕ) (p : mine_result (Ok c) ws' ≡ mine n m crew ws) where
    code_is : mining_refusal n m crew ws ≡ 0
    code_is = sym (ap (λ (x : Mined). x.code) p ∙ mine_code n m crew ws)

    pub mined_few : So (leb (length (candidates rows)) 128)
    mined_few = (leb_iff (length (candidates rows)) 128).1 ((mining_iff n m crew ws).0 code_is).3

    -- mined: the record holds the fresh state
    pub mined_words : ws' ≡ built (fresh n m rows)
    mined_words = ap (λ (x : Mined). x.words) (p ∙ mine_accepted n m crew ws code_is)

    pub mined_fit : Fit (fresh n m rows)
    mined_fit = mining_fit n m crew ws code_is

    pub mined_state : state_of ws' ≡ fresh n m rows
    mined_state = ap state_of mined_words ∙ state_back (fresh n m rows) mined_fit.limits

    pub mined_sound : So (sound ws')
    mined_sound = rw mined_words (fit_sound (fresh n m rows) mined_fit)
