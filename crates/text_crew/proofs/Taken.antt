-- What mining is handed of a text that is accepted: the words of its n rows, which keep the limits.
-- Assumes nothing.
use mathlib.Core.Path.{◌≡◌, sym, ◌∙◌, ap}
use mathlib.Core.Bool.{So}
use mathlib.Core.List.{List}
use Prim.Native.Nat.{ℕ, ◌+◌, ◌*◌, ◌≤◌}
use native.Mathlib.Omega.{arith}
use lib.ListN.{length, take}
use lib.Seq.{length-take-le, get_or-take}
use Rattle.std.specs.Prelude.{Ok}
use Rattle.model.specs.Lists.{rows_at, set_at}
use Rattle.model.specs.State.{within_limits, rows_within}
use Rattle.model.proofs.Lists.{tabulate_same, set_at_same}
use Rattle.model.proofs.Record.{within_limits_iff}
use Rattle.text_lines.specs.Format.{crew_text}
use Rattle.text_crew.specs.declared.CrewSize.{CrewSize}
use Rattle.text_crew.specs.Reader.{ReadReply, read_result, read_crew, laid}
use Rattle.text_crew.proofs.Laid.{length-laid}
use Rattle.text_crew.proofs.Canonical.{AcceptedText, accepted, words_hold}

pub taken_rows : (n : ℕ) (ws : List ℕ) → rows_at n (take (4 * n) ws) 0 ≡ rows_at n ws 0
unfolding rows_at
taken_rows n ws =
    tabulate_same n (λ u. set_at 4 (take (4 * n) ws) (0 + 4 * u)) (λ u. set_at 4 ws (0 + 4 * u))
    (λ u l. set_at_same 4 (take (4 * n) ws) ws (0 + 4 * u) (0 + 4 * u) (λ j b. get_or-take (4 * n) ws (0 + 4 * u + j) 0 (omega arith)))

module _ (text buffer : List ℕ) (r : CrewSize) (ws : List ℕ) (p : read_result (Ok r) ws ≡ read_crew text buffer) where
  pub code_read : (read_crew text buffer).code ≡ 0
  unfolding read_result
  code_read = ap (λ (x : ReadReply). x.code) (sym p)

  taken : AcceptedText text buffer
  taken = accepted text buffer code_read

  users_read : r.n ≡ taken.users
  unfolding read_result
  users_read = ap (λ (x : ReadReply). x.n) (p ∙ taken.answer)

  permissions_read : r.m ≡ taken.permissions
  unfolding read_result
  permissions_read = ap (λ (x : ReadReply). x.m) (p ∙ taken.answer)

  words_read : ws ≡ laid taken.rows
  unfolding read_result
  words_read = ap (λ (x : ReadReply). x.words) (p ∙ taken.answer)

  pub text_limits : So (within_limits r.n r.m)
  text_limits = (λ i. within_limits (users_read i) (permissions_read i)) ∙ taken.limits

  pub text_users : r.n ≤ 128
  text_users = ((within_limits_iff r.n r.m).0 text_limits).1

  pub text_size : length (take (4 * r.n) ws) ≡ 4 * r.n
  text_size =
      let e : length ws ≡ 512 = ap (λ (x : List ℕ). length x) words_read ∙ length-laid taken.rows in
      let u = text_users in
      length-take-le (4 * r.n) ws (omega arith)

  rows_read_lem : rows_at r.n (take (4 * r.n) ws) 0 ≡ taken.rows
  rows_read_lem =
      taken_rows r.n ws ∙ (λ i. rows_at (users_read i) (words_read i) 0)
      ∙ words_hold taken.users taken.permissions taken.rows taken.limits taken.count taken.within

  pub text_within : So (rows_within r.m (rows_at r.n (take (4 * r.n) ws) 0))
  text_within = (λ i. rows_within (permissions_read i) (rows_read_lem i)) ∙ taken.within

  -- and the text is the one written for them
  pub text_canonical : text ≡ crew_text r.n r.m (rows_at r.n (take (4 * r.n) ws) 0)
  text_canonical = taken.canonical ∙ sym (λ i. crew_text (users_read i) (permissions_read i) (rows_read_lem i))
