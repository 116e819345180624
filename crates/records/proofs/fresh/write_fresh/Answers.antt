-- The cleared record gets its candidates, then its header and crew rows, then its rows.
-- Assumes nothing.
use borrow.Author.Rules.{rules}
use mathlib.Core.Path.{◌≡◌, ◌∙◌, ap}
use mathlib.Core.List.{List}
use Prim.Native.Nat.{ℕ}
use lib.ListN.{length}
use Rattle.model.specs.Candidates.{candidates}
use Rattle.model.specs.Record.{record_length}
use Rattle.model.specs.State.{fresh}
use Rattle.tables.specs.Rows.{rows_of}
use Rattle.rows.specs.Partway.{WithoutRows}
use Rattle.records.specs.Records.{OnlyCandidates}
use Rattle.records.proofs.Beginning.{only_candidates, headed_fills}
use Rattle.records.proofs.Judging.{fresh_few, fresh-candidates, fresh_described}
use Rattle.records.proofs.fresh.write_fresh.Goals as goal
use Rattle.records.proofs.fresh.write_fresh.Goals.{After-begin_record, After-copy, Start}

abbrev rows : Start → List ℕ
rows c = rows_of c.args.rows.now

candidates-at : (c : After-copy) → OnlyCandidates c.copy.new.ws (candidates (rows (goal.at.After-copy c).Start))
candidates-at c =
    let size : length c.clear.new.ws ≡ record_length = search rules in
    rw c.copy.ensures (only_candidates _ _ _ size c.clear.ensures (rw c.requires.mined at c.table.ensures))

begun-at : (c : After-begin_record) → WithoutRows (fresh (length c.args.rows.now) c.args.m (rows (goal.at.After-begin_record c).Start)) c.begin_record.new.rec
begun-at c =
    let given = c.requires in
    c.begin_record.ensures _ (fresh_described _ _ _ _ _ given.limits (c.count-c.ensures.value ∙ ap length given.mined) c.below.ensures) (fresh-candidates _ _ _ _ (candidates-at (goal.at.After-begin_record c).After-copy))

pub begin_record-requires : goal.begin_record-requires
begin_record-requires c = let given = c.requires in
    record { rows_len = fresh_few _ _ _ given.limits }

pub complete_record-requires : goal.complete_record-requires
complete_record-requires c = let given = c.requires in
    record { fills_from = headed_fills _ given.limits _ (begun-at (goal.at.complete_record-requires c).After-begin_record).headed }

pub returns : goal.returns
returns c = let given = c.requires in
    (c.complete_record.ensures _ given.limits (begun-at (goal.at.returns c).After-begin_record)).afresh
