-- The index, then the rows.
-- Assumes nothing.
use Rattle.records.proofs.Beginning.{headed_source}
use Rattle.records.proofs.begin.complete_record.Goals as goal

pub build_rows-requires : goal.build_rows-requires
build_rows-requires c = let given = c.requires in
    record { rec_bound = given.fills_from.few_candidates }

pub returns : goal.returns
returns c = λ st lim begun.
    let ix = c.index_record.ensures st (headed_source st lim _ begun.headed) in
    let rows = c.build_rows.ensures st lim begun ix in
    record { limits = lim; afresh = rows.0; indexed = ix; linked = rows.1 }
