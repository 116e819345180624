-- What each outside call answers and leaves, by whether a check of it finds something.
-- Assumes nothing.
use mathlib.Core.Path.{◌≡◌, sym, ◌∙◌, ap}
use mathlib.Core.Bool.{Bool, So}
use mathlib.Core.Logic.{◌≢◌}
use mathlib.Core.List.{List}
use Prim.Native.Nat.{ℕ}
use lib.Dec.{eqb}
use lib.ListN.{length}
use Rattle.sets.specs.Truth.{when◌then◌else◌}
use Rattle.sets.proofs.Truth.{not-So, equal_or, eqb_iff, when-true, when-false, when-passes, when_stops}
use Rattle.model.specs.Lists.{rows_at}
use Rattle.model.specs.Candidates.{candidates}
use Rattle.model.specs.State.{fresh}
use Rattle.model.specs.Record.{built, state_of}
use Rattle.model.specs.Refusals.{◌or_else◌}
use Rattle.model.specs.Machine.{Call, reply, refusal, step}
use Rattle.model.specs.Calls.{unfit, mining_refusal, Mined, mine, Edited, edit, Told, told}
use Rattle.model.proofs.Refusals.{or_else_first, or_else_next}
use Rattle.model.proofs.Steps.{step_refused, step_code}

not-zero : (n : ℕ) → n ≢ 0 → eqb n 0 ≡ Bool.false
not-zero n d = not-So (eqb n 0) (λ h. d ((eqb_iff n 0).0 h))

is_zero : (n : ℕ) → n ≡ 0 → So (eqb n 0)
is_zero n e = (eqb_iff n 0).1 e

-- ---- mining

module _ (n m : ℕ) (crew ws : List ℕ) where
  abbrev rows : List ℕ
  rows = rows_at n crew 0

  abbrev no : ℕ
  no = mining_refusal n m crew ws

  pub mine_accepted : no ≡ 0 → mine n m crew ws ≡ record { code = 0; candidates = length (candidates rows); words = built (fresh n m rows) }
  unfolding mine
  mine_accepted e = when-true (eqb no 0) _ _ (is_zero no e)

  pub mine_refused : no ≢ 0 → mine n m crew ws ≡ record { code = no; candidates = 0; words = ws }
  unfolding mine
  mine_refused d = when-false (eqb no 0) _ _ (not-zero no d)

  pub mine_code : (mine n m crew ws).code ≡ no
  mine_code =
      equal_or no 0 (λ e. ap (λ (r : Mined). r.code) (mine_accepted e) ∙ sym e) (λ d. ap (λ (r : Mined). r.code) (mine_refused d))

-- ---- the editing calls

module _ (ws : List ℕ) (call : Call) where
  abbrev found : ℕ
  found = unfit ws

  edit_unfit : found ≢ 0 → edit ws call ≡ record { replied = reply found 0 0; words = ws }
  unfolding edit
  edit_unfit d = when_stops (eqb found 0) _ _ (not-zero found d)

  -- on a record that fits, what the machine's step does
  pub edit_fits : found ≡ 0
      → edit ws call
      ≡ record { replied = (step (state_of ws) call).replied; words = when eqb (step (state_of ws) call).replied.code 0 then built (step (state_of ws) call).state else ws }
  unfolding edit
  edit_fits e = when-passes (eqb found 0) _ _ (is_zero found e)

  abbrev given : ℕ
  given = unfit ws or_else refusal (state_of ws) call

  pub edit_code : (edit ws call).replied.code ≡ given
  unfolding reply
  edit_code =
      equal_or found 0
      (λ e. ap (λ (r : Edited). r.replied.code) (edit_fits e) ∙ step_code (state_of ws) call ∙ sym (or_else_next found (refusal (state_of ws) call) e))
      (λ d. ap (λ (r : Edited). r.replied.code) (edit_unfit d) ∙ sym (or_else_first found (refusal (state_of ws) call) d))

  -- a refusal gives its number and zeros, and leaves the record as lent
  pub edit_refused : given ≢ 0 → edit ws call ≡ record { replied = reply given 0 0; words = ws }
  unfolding reply
  edit_refused d =
      let r = refusal (state_of ws) call in
      equal_or found 0
      (λ e.
      let n : given ≡ r = or_else_next found r e in
      let d' : r ≢ 0 = λ z. d (n ∙ z) in
      edit_fits e
      ∙ rw (step_refused (state_of ws) call d', n) (ap (λ (l : List ℕ). record { replied = reply r 0 0; words = l }) (when-false (eqb r 0) _ _ (not-zero r d'))))
      (λ d'. edit_unfit d' ∙ ap (λ (x : ℕ). record { replied = reply x 0 0; words = ws }) (sym (or_else_first found r d')))

-- ---- the reading calls

module _ (code value : ℕ) where
  pub told_accepted : code ≡ 0 → told code value ≡ record { code = 0; value = value }
  unfolding told
  told_accepted e = when-true (eqb code 0) _ _ (is_zero code e)

  pub told_refused : code ≢ 0 → told code value ≡ record { code = code; value = 0 }
  unfolding told
  told_refused d = when-false (eqb code 0) _ _ (not-zero code d)

  pub told_code : (told code value).code ≡ code
  told_code = equal_or code 0 (λ e. ap (λ (r : Told). r.code) (told_accepted e) ∙ sym e) (λ d. ap (λ (r : Told). r.code) (told_refused d))
