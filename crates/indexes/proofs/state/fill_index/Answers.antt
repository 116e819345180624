-- Each table holds what its function promises.
-- Assumes nothing.
use mathlib.Core.Path.{sym}
use Rattle.indexes.proofs.Sources.{source_count, users_held, indexed}
use Rattle.indexes.proofs.state.fill_index.Goals as goal

pub fill_roles-own-requires : goal.fill_roles-own-requires
fill_roles-own-requires c = let p = c.requires.fills_from in
    (c.requires.rows_len, p.few_candidates, rw c.candidate_sets-sets.ensures p.grows)

pub returns : goal.returns
returns c = λ st src.
    let met = c.fill_roles-own.ensures st (rw c.candidate_sets-sets.ensures src) in
    let users = users_held st _ _ _ _ src _ _ met.1.0 c.fill_columns.ensures.0 in
    let low = c.fill_shared.ensures st src.limits (source_count st _ _ _ _ src) (λ u l. met.1.0 u (rw src.users at l)) users (rw (sym src.users) at met.0) in
    indexed st _ _ _ _ src _ low met.1.0 users
