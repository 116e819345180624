-- The index, then coverage, then the rows.
-- Assumes nothing.
use mathlib.Core.Path.{◌≡◌, sym, ◌∙◌}
use mathlib.Core.List.{List}
use Prim.Native.Nat.{ℕ}
use Rattle.sets.proofs.Truth.{So-not}
use Rattle.model.specs.Coverage.{all_covered}
use Rattle.model.specs.Record.{state_of}
use Rattle.model.specs.State.{roles_of}
use Rattle.indexes.specs.Index.{Indexed}
use Rattle.records.proofs.Beginning.{headed_source, headed_fills, head_standing}
use Rattle.records.proofs.Judging.{few_users, uncovered, compared, ready}
use Rattle.records.proofs.check.matches.Goals as goal
use Rattle.std.proofs.Common.{ap}
use mathlib.Core.Bool.{not}
use Rattle.records.proofs.check.matches.Goals.{After-all_covered, After-index_record}

abbrev words : After-index_record → List ℕ
words c = c.args.rec.now

indexed-at : (c : After-index_record) → Indexed (roles_of (state_of (words c))) c.index_record.new.index
indexed-at c =
    let given = c.requires in
    c.index_record.ensures _ (headed_source _ given.limits _ given.headed)

covered-at : (c : After-all_covered) → c.all_covered.result ≡ all_covered (roles_of (state_of (words (goal.at.After-all_covered c).After-index_record))) (state_of (words (goal.at.After-all_covered c).After-index_record)).standing
covered-at c =
    let given = c.requires in
    c.all_covered.ensures _ (headed_source _ given.limits _ given.headed) (head_standing _ given.limits _ given.headed) (indexed-at (goal.at.After-all_covered c).After-index_record)

pub index_record-requires : goal.index_record-requires
index_record-requires c = let given = c.requires in
    record { fills_from = headed_fills _ given.limits _ given.headed }

pub all_covered-requires : goal.all_covered-requires
all_covered-requires c = let given = c.requires in
    record { rec_bound = few_users _ c.told-rec given.limits }

pub returns-else-all_covered : goal.returns-else-all_covered
returns-else-all_covered c = let given = c.requires in
    let no = uncovered _ c.told-rec given.limits _ (covered-at (goal.at.returns-else-all_covered c).After-all_covered) (ap not c.if-all_covered.false) in
    record { value = c.if-all_covered.false ∙ no; ready = λ s. absurd (So-not (sym no) s) }

pub rows_match-requires : goal.rows_match-requires
rows_match-requires c = let given = c.requires in
    record { rec_bound = (headed_fills _ given.limits _ given.headed).few_candidates }

pub returns-then-all_covered : goal.returns-then-all_covered
returns-then-all_covered c = let given = c.requires in
    let told = c.rows_match.ensures _ given.limits given.headed (indexed-at (goal.at.returns-then-all_covered c).After-index_record) in
    let left = (ap not c.if-all_covered.true) in
    record { value = compared _ c.told-rec given.limits _ _ (covered-at (goal.at.returns-then-all_covered c).After-all_covered) left told.0; ready = ready _ c.told-rec given.limits _ _ (covered-at (goal.at.returns-then-all_covered c).After-all_covered) left told.0 _ _ (indexed-at (goal.at.returns-then-all_covered c).After-index_record) told.1 }
