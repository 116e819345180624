-- The calls that edit: what each answers and leaves, by what the entrance and the machine's own checks find.
-- Assumes nothing.
use mathlib.Core.Path.{◌≡◌, refl, sym, ◌∙◌, ap}
use mathlib.Core.Logic.{◌≢◌}
use mathlib.Core.List.{List}
use Prim.Native.Nat.{ℕ, ◌≤◌, ◌<◌}
use native.Mathlib.Nat.{lt_of_lt_of_le}
use lib.Dec.{eqb}
use lib.ListN.{length, get_or}
use Rattle.sets.specs.Truth.{isnt}
use Rattle.sets.specs.Sets.{has}
use Rattle.sets.proofs.Truth.{eqb_iff, isnt_iff, when-true}
use Rattle.model.specs.Lists.{set_at}
use Rattle.model.specs.Hierarchy.{candidate_count}
use Rattle.model.specs.Machine.{Call, Run, reply, refusal, accepted}
use Rattle.model.specs.State.{roles_of, standing_now}
use Rattle.model.specs.Record.{record_length, built, state_of, Limits}
use Rattle.model.specs.Calls.{Edited, unfit, edit}
use Rattle.model.proofs.Record.{sound_iff, sound-built, read_count}
use Rattle.model.proofs.Refusals.{unfit_iff}
use Rattle.model.proofs.Sound.{sound_count, sound_few}
use Rattle.model.proofs.Steps.{step-accepted, step_refused}
use Rattle.model.proofs.Claim.{edit_replied, edit_words}

-- ---- any call

-- what a call that is refused with a number leaves, and one that is accepted and names no others
abbrev pub replied_with : ℕ → List ℕ → Edited
replied_with code ws = record { replied = reply code 0 0; words = ws }

module _ (ws : List ℕ) (call : Call) where
  -- refused by the entrance
  pub edit_unfit : (code : ℕ) → code ≢ 0 → code ≡ unfit ws → replied_with code ws ≡ edit ws call
  unfolding edit
  edit_unfit code d e =
      (λ i. replied_with (e i) ws) ∙ sym (when-true (isnt (eqb (unfit ws) 0)) _ _ ((isnt_iff (eqb (unfit ws) 0)).1 (λ h. d (e ∙ (eqb_iff (unfit ws) 0).0 h))))

  -- refused by the machine
  pub edit_refused : unfit ws ≡ 0 → (code : ℕ) → code ≢ 0 → code ≡ refusal (state_of ws) call → replied_with code ws ≡ edit ws call
  edit_refused z code d e =
      let h = (unfit_iff ws).0 z in
      let s = step_refused (state_of ws) call (λ n. d (e ∙ n)) in
      let said : (edit ws call).replied ≡ reply code 0 0 = edit_replied ws h call ∙ rw (s, sym e) refl in
      let words : (edit ws call).words ≡ ws = edit_words ws h call ∙ rw s (sym (sound-built ws h)) in
      λ i. record { replied = sym said i; words = sym words i }

  -- accepted
  pub edit_accepted : unfit ws ≡ 0 → refusal (state_of ws) call ≡ 0 → (r : Run) (after : List ℕ) → accepted (state_of ws) call ≡ r
      → after ≡ built (standing_now (state_of ws) r.standing) → record { replied = reply 0 r.changed r.examined; words = after } ≡ edit ws call
  edit_accepted z e r after same now-after =
      let h = (unfit_iff ws).0 z in
      let s = step-accepted (state_of ws) call e in
      let said : (edit ws call).replied ≡ reply 0 r.changed r.examined = edit_replied ws h call ∙ rw (s, same) refl in
      let words : (edit ws call).words ≡ after = edit_words ws h call ∙ rw (s, same) (sym now-after) in
      λ i. record { replied = sym said i; words = sym words i }

-- ---- what a record that was let in tells

module _ (ws : List ℕ) (z : unfit ws ≡ 0) where
  pub fit_length : length ws ≡ record_length
  fit_length = ((sound_iff ws).0 ((unfit_iff ws).0 z)).0

  -- word 2 is c
  pub fit_count : get_or ws 2 0 ≡ candidate_count (roles_of (state_of ws))
  fit_count = sound_count ws ((unfit_iff ws).0 z)

  pub fit_few : get_or ws 2 0 ≤ 128
  fit_few = sound_few ws ((unfit_iff ws).0 z)

  -- a role below c is small enough for a set
  pub fit_number : (k : ℕ) → k < candidate_count (roles_of (state_of ws)) → k < 128
  fit_number k l = lt_of_lt_of_le (rw (sym fit_count) at l) fit_few

-- word 2 is c, of any record that is built from its own state
pub role_count : (ws : List ℕ) → Limits (state_of ws) → ws ≡ built (state_of ws) → get_or ws 2 0 ≡ candidate_count (roles_of (state_of ws))
role_count ws lim e = ap (λ (l : List ℕ). get_or l 2 0) e ∙ read_count (state_of ws) lim

-- words 4 and 5 are the standing set
pub standing_word : (ws : List ℕ) (R k : ℕ) → R ≡ set_at 2 ws 4 → has R k ≡ has (state_of ws).standing k
unfolding state_of
standing_word ws R k e = ap (λ (x : ℕ). has x k) e
