-- A crew list out of a record and in again: read back, it is the same list; an accepted text comes back byte for byte; and editing never moves it.
-- Assumes nothing.
use mathlib.Core.Path.{◌≡◌, refl, sym, ◌∙◌, ap}
use mathlib.Core.Bool.{So}
use mathlib.Core.Logic.{◌≢◌}
use mathlib.Core.List.{List, [], ◌∷◌, ◌++◌}
use Prim.Native.Nat.{ℕ, ◌*◌, ◌≤◌}
use native.Mathlib.Omega.{arith}
use lib.ListN.{length, take, drop}
use lib.Seq.{take-append_seam, length-take-le}
use Rattle.std.specs.Prelude.{Ok}
use Rattle.sets.proofs.Truth.{equal_or}
use Rattle.model.specs.Lists.{rows_at}
use Rattle.model.specs.Candidates.{candidates}
use Rattle.model.specs.Hierarchy.{candidate_count}
use Rattle.model.specs.State.{State, roles_of, fresh, within_limits, rows_within}
use Rattle.model.specs.Record.{record_length, built, state_of, sound, Limits}
use Rattle.model.specs.Refusals.{◌or_else◌}
use Rattle.model.specs.Machine.{Call, refusal, state_after}
use Rattle.model.specs.Calls.{unfit, Mined, mining_refusal, mine, Edited}
use Rattle.model.specs.Claim.{words_after}
use Rattle.model.proofs.Record.{within_limits_iff, rows_within_iff, sound_iff, state_back}
use Rattle.model.proofs.Refusals.{or_else_iff, mining_iff, unfit_iff}
use Rattle.model.proofs.Steps.{Fit, mining_fit, after_rows_lem}
use Rattle.model.proofs.Calls.{mine_code, mine_accepted, edit_refused}
use Rattle.model.proofs.Claim.{fit_sound, after_sound, after_state}
use Rattle.text_lines.specs.Format.{crew_text}
use Rattle.text_crew.specs.declared.CrewSize.{CrewSize}
use Rattle.text_crew.specs.Reader.{buffer_length, ReadReply, read_result, read_crew, laid}
use Rattle.text_crew.proofs.Laid.{length-laid}
use Rattle.text_crew.proofs.Canonical.{read_back, words_hold}
use Rattle.text_crew.proofs.Taken.{taken_rows, text_limits, text_size, text_within, text_canonical}
use Rattle.text_write.specs.Text.{record_text}
use Rattle.text_write.proofs.Puts.{text_of}
use Rattle.call_write.specs.Writer.{Written, write_crew}
use Rattle.call_write.proofs.Writing.{written, write_same}
use Rattle.round_trip.specs.RoundTrip.{text_written, mined_as, SameList}

-- ---- "Reading its output and mining gives the same n, m and crew rows"

module _ (ws out buffer rec : List ℕ) (h : So (sound ws)) (room : length (record_text ws) ≤ length out) (eb : length buffer ≡ buffer_length) (er : length rec ≡ record_length) where
  abbrev n : ℕ
  n = (state_of ws).users

  abbrev m : ℕ
  m = (state_of ws).permissions

  abbrev rows : List ℕ
  rows = (state_of ws).rows

  l : Limits (state_of ws)
  l = ((sound_iff ws).0 h).1

  limits : So (within_limits n m)
  limits = (within_limits_iff n m).1 (l.users_some, l.users_most, l.permissions_some, l.permissions_most)

  inside : So (rows_within m rows)
  inside = (rows_within_iff m rows).1 (λ u b. l.rows_below u (rw l.rows_count at b))

  few : length (candidates rows) ≤ 128
  unfolding candidate_count roles_of
  few = l.candidates_most

  the_text : text_written (write_crew ws out) ≡ crew_text n m rows
  unfolding text_written
  the_text =
      ap (λ (w : Written). take w.size w.bytes) (written ws out h room) ∙ take-append_seam (record_text ws) (drop (length (record_text ws)) out) ∙ text_of ws (state_of ws) refl

  answer : read_crew (text_written (write_crew ws out)) buffer ≡ record { code = 0; n = n; m = m; words = laid rows }
  answer = ap (λ (t : List ℕ). read_crew t buffer) the_text ∙ read_back n m rows buffer limits l.rows_count inside eb

  rows_read_lem : rows_at n (laid rows) 0 ≡ rows
  rows_read_lem = words_hold n m rows limits l.rows_count inside

  rows_taken : rows_at n (take (4 * n) (laid rows)) 0 ≡ rows
  rows_taken = taken_rows n (laid rows) ∙ rows_read_lem

  mined_again : mining_refusal n m (take (4 * n) (laid rows)) rec ≡ 0
  mined_again =
      let size : length (take (4 * n) (laid rows)) ≡ 4 * n = length-take-le (4 * n) (laid rows) (omega (arith, length-laid rows, l.users_most)) in
      (mining_iff n m (take (4 * n) (laid rows)) rec).1 (er, limits, (size, rw rows_taken inside), rw rows_taken few)

  state_mined : state_of (mine n m (take (4 * n) (laid rows)) rec).words ≡ fresh n m rows
  state_mined =
      ap (λ (x : Mined). state_of x.words) (mine_accepted n m (take (4 * n) (laid rows)) rec mined_again)
      ∙ state_back _ (mining_fit n m (take (4 * n) (laid rows)) rec mined_again).limits ∙ ap (fresh n m) rows_taken

  pub written_reads_back : SameList ws (read_crew (text_written (write_crew ws out)) buffer) (mined_as (read_crew (text_written (write_crew ws out)) buffer) rec)
  unfolding mined_as fresh
  written_reads_back =
      rw answer
      (record {
        read = refl;
        read_users = refl;
        read_permissions = refl;
        read_rows = rows_read_lem;
        mined = mine_code n m (take (4 * n) (laid rows)) rec ∙ mined_again;
        mined_users = ap (λ (st : State). st.users) state_mined;
        mined_permissions = ap (λ (st : State). st.permissions) state_mined;
        mined_rows = ap (λ (st : State). st.rows) state_mined;
      })

-- ---- "every text that the reader accepts and whose list has at most 128 candidates comes back byte for byte"

module _ (text buffer rec out : List ℕ) (z : (read_crew text buffer).code ≡ 0) (few : length (candidates (rows_at (read_crew text buffer).n (read_crew text buffer).words 0)) ≤ 128)
    (er : length rec ≡ record_length) (room : length text ≤ length out) where
  abbrev r : ReadReply
  r = read_crew text buffer

  -- the answer as the code gives it
  abbrev given : CrewSize
  given = record { n = (read_crew text buffer).n; m = (read_crew text buffer).m }

  as_given : read_result (Ok given) r.words ≡ r
  unfolding read_result
  as_given = λ i. record { code = sym z i; n = r.n; m = r.m; words = r.words }

  abbrev crew : List ℕ
  crew = take (4 * r.n) r.words

  mining_passes : mining_refusal r.n r.m crew rec ≡ 0
  mining_passes =
      (mining_iff r.n r.m crew rec).1 (
        er,
        text_limits text buffer given r.words as_given,
        (text_size text buffer given r.words as_given, text_within text buffer given r.words as_given),
        rw (taken_rows r.n r.words) few,
      )

  f : Fit (fresh r.n r.m (rows_at r.n crew 0))
  f = mining_fit r.n r.m crew rec mining_passes

  words_mined : (mined_as r rec).words ≡ built (fresh r.n r.m (rows_at r.n crew 0))
  unfolding mined_as
  words_mined = ap (λ (x : Mined). x.words) (mine_accepted r.n r.m crew rec mining_passes)

  text_mined : record_text (mined_as r rec).words ≡ text
  unfolding fresh
  text_mined =
      text_of (mined_as r rec).words (fresh r.n r.m (rows_at r.n crew 0)) (ap state_of words_mined ∙ state_back _ f.limits)
      ∙ sym (text_canonical text buffer given r.words as_given)

  pub accepted_is_mined : (mined_as r rec).code ≡ 0
  unfolding mined_as
  accepted_is_mined = mine_code r.n r.m crew rec ∙ mining_passes

  pub accepted_comes_back : write_crew (mined_as r rec).words out ≡ record { code = 0; size = length text; bytes = text ++ drop (length text) out }
  accepted_comes_back =
      let e = text_mined in
      written (mined_as r rec).words out (rw words_mined (fit_sound _ f)) (rw e room)
      ∙ (λ i. record { code = 0; size = length (e i); bytes = e i ++ drop (length (e i)) out })

-- ---- editing never moves the crew list

-- a record that does not fit is given back by every call
unfit_after : (ws : List ℕ) → unfit ws ≢ 0 → (calls : List Call) → words_after ws calls ≡ ws
unfolding words_after
unfit_after ws d [] = refl
unfit_after ws d (call ∷ calls) =
    let no : unfit ws or_else refusal (state_of ws) call ≢ 0 = λ e. d ((or_else_iff (unfit ws) (refusal (state_of ws) call)).0 e).0 in
    ap (λ (e : Edited). words_after e.words calls) (edit_refused ws call no) ∙ unfit_after ws d calls

text_after : (ws : List ℕ) → So (sound ws) → (calls : List Call) → record_text (words_after ws calls) ≡ record_text ws
text_after ws h calls =
    let a = after_rows_lem (state_of ws) calls in
    text_of (words_after ws calls) (state_after (state_of ws) calls) (after_state ws h calls) ∙ (λ i. crew_text (a.0 i) (a.1 i) (a.2 i)) ∙ sym (text_of ws (state_of ws) refl)

-- of every record: after every list of calls the writer answers and leaves what it would have before it
pub editing_keeps_text : (ws : List ℕ) (calls : List Call) (out : List ℕ) → write_crew (words_after ws calls) out ≡ write_crew ws out
editing_keeps_text ws calls out =
    equal_or (unfit ws) 0
    (λ (e : unfit ws ≡ 0).
    let h = (unfit_iff ws).0 e in
    write_same (words_after ws calls) ws out ((unfit_iff (words_after ws calls)).1 (after_sound ws h calls) ∙ sym e) (text_after ws h calls))
    (λ d. ap (λ (x : List ℕ). write_crew x out) (unfit_after ws d calls))

-- "from a freshly mined panel": the text is that of the fresh record
pub mined_keeps_text : (n m : ℕ) (crew rec : List ℕ) (calls : List Call) (out : List ℕ)
    → write_crew (words_after (mine n m crew rec).words calls) out ≡ write_crew (mine n m crew rec).words out
mined_keeps_text n m crew rec calls out = editing_keeps_text (mine n m crew rec).words calls out

-- so an accepted text comes back byte for byte also after every list of calls
pub edited_comes_back : (text buffer rec out : List ℕ) → (read_crew text buffer).code ≡ 0
    → length (candidates (rows_at (read_crew text buffer).n (read_crew text buffer).words 0)) ≤ 128 → length rec ≡ record_length → length text ≤ length out
    → (calls : List Call)
    → write_crew (words_after (mined_as (read_crew text buffer) rec).words calls) out ≡ record { code = 0; size = length text; bytes = text ++ drop (length text) out }
edited_comes_back text buffer rec out z few er room calls =
    editing_keeps_text (mined_as (read_crew text buffer) rec).words calls out ∙ accepted_comes_back text buffer rec out z few er room
