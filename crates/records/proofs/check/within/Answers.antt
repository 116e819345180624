-- The two tests, one after the other.
-- Assumes nothing.
use mathlib.Core.Path.{sym, ◌∙◌}
use native.Mathlib.Omega.{arith}
use Rattle.model.proofs.Record.{within_limits_iff}
use Rattle.records.proofs.Judging.{first_fails, first_holds}
use Rattle.records.proofs.check.within.Goals as goal
use Rattle.std.proofs.Common.{ap}
use mathlib.Core.Bool.{not}

pub as_rows-requires : goal.as_rows-requires
as_rows-requires c = let k = (within_limits_iff _ _).0 (sym c.limits_kept.ensures ∙ c.if-limits_kept.true) in
    let few = k.1 in
    omega arith

pub rows_within-requires : goal.rows_within-requires
rows_within-requires c = let k = (within_limits_iff _ _).0 (sym c.limits_kept.ensures ∙ c.if-limits_kept.true) in
    record { m_bound = k.3 }

pub returns-then-limits_kept : goal.returns-then-limits_kept
returns-then-limits_kept c = first_holds _ _ _ _ c.limits_kept.ensures (ap not c.if-limits_kept.true) (rw c.as_rows.ensures.value at c.rows_within.ensures)

pub returns-else-limits_kept : goal.returns-else-limits_kept
returns-else-limits_kept c = c.if-limits_kept.false ∙ first_fails _ _ _ c.limits_kept.ensures (ap not c.if-limits_kept.false)
