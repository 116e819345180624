-- The number of candidates, then the words that nothing uses, then the candidates.
-- Assumes nothing.
use mathlib.Core.Path.{◌≡◌, sym, ◌∙◌}
use Prim.Native.Nat.{ℕ, ◌^◌, ◌<◌}
use lib.ListN.{length, get_or}
use Rattle.sets.proofs.Truth.{So-not, eqb_iff}
use Rattle.sets.proofs.Telling.{failed, passed}
use Rattle.model.specs.Candidates.{candidates}
use Rattle.model.specs.Record.{state_of}
use Rattle.mining.specs.Mining.{Written}
use Rattle.rows.specs.Partway.{Headed}
use Rattle.records.proofs.Heading.{headed_of, headed_count, headed_unused, headed_table}
use Rattle.records.proofs.head.is_headed.Goals as goal
use Rattle.records.proofs.head.is_headed.Goals.{After-table-table, then-rec-c, else-rec-c}
use Rattle.std.proofs.Common.{ap}
use mathlib.Core.Bool.{not}

-- what was found are the candidates of the record's state, by their number and by their words
count : (c : After-table-table) → c.count-c.result ≡ length (candidates (state_of c.args.rec.now).rows)
count c = c.count-c.ensures.value ∙ ap length c.requires.mined

written : (c : After-table-table) → Written c.table-table.result.now (candidates (state_of c.args.rec.now).rows)
written c = rw c.requires.mined at c.table-table.ensures

pub returns-then-unused_zero : goal.returns-then-unused_zero
returns-then-unused_zero c =
    let fits : (i : ℕ) → get_or c.args.rec.now i 0 < 2 ^ 64 = c.fits-rec in
    let few = c.requires.rec_bound in
    let t = (goal.at.returns-then-unused_zero c).After-table-table in (
      λ same. elim c.if-rec-c.branch [
        | then-rec-c w ↦
            headed_of _ _ _ fits c.told-rec few (count t) (written t) w.if-rec-c.true
            (passed _ w.unused_zero.ensures (ap not (sym w.value-is ∙ c.if-unused_zero.true))) (sym c.equal_at.ensures ∙ same)
        | else-rec-c w ↦ absurd (w.if-rec-c.false ((eqb_iff _ _).0 (sym w.value-is ∙ c.if-unused_zero.true)))
      ],
      λ h. c.equal_at.ensures ∙ headed_table _ _ _ fits c.told-rec few (count t) (written t) h,
    )

pub returns-else-unused_zero : goal.returns-else-unused_zero
returns-else-unused_zero c =
    let fits : (i : ℕ) → get_or c.args.rec.now i 0 < 2 ^ 64 = c.fits-rec in
    let few = c.requires.rec_bound in
    let t = (goal.at.returns-else-unused_zero c).After-table-table in
    let no : Headed (state_of c.args.rec.now) c.args.rec.now → ⊥ = λ h. elim c.if-rec-c.branch [
      | then-rec-c w ↦
          failed _ w.unused_zero.ensures (ap not (sym w.value-is ∙ c.if-unused_zero.false))
          (headed_unused _ _ _ fits c.told-rec few (count t) (written t) h)
      | else-rec-c w ↦ w.if-rec-c.false (headed_count _ _ _ fits c.told-rec few (count t) (written t) h)
    ] in
    (λ same. absurd (So-not c.if-unused_zero.false same), λ h. absurd (no h))
