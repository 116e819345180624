-- The holders are filled, and the quality at the start is that of the record; where no role is strikable it is the end already.
-- Assumes nothing.
use mathlib.Core.Path.{refl, sym, ◌∙◌}
use Rattle.sets.proofs.Truth.{eqb_iff}
use Rattle.model.specs.Coverage.{strikables}
use Rattle.model.specs.Machine.{begin}
use Rattle.model.specs.Record.{state_of}
use Rattle.model.specs.State.{roles_of}
use Rattle.indexes.specs.Index.{Indexed, AllHolders}
use Rattle.quality.specs.Numbers.{weights_in}
use Rattle.edit_trials.proofs.Runs.{ready_few, ready_weighed}
use Rattle.edit_turn.specs.declared.Turn.{Turn}
use Rattle.edit_turn.specs.Turning.{RunReached}
use Rattle.edit_eliminate.proofs.Running.{ended_at_once, permissions_few, index_of, all_held, first_turn, all_prepared}
use Rattle.edit_eliminate.proofs.all.eliminate_all.Goals as goal
use Rattle.edit_eliminate.proofs.all.eliminate_all.Goals.{After-fill_holders, After-strikable_roles-worklist}

-- the index with the holders of all permissions
held : (c : After-fill_holders) → Indexed (roles_of (state_of c.args.rec.now)) c.fill_holders.new.index × AllHolders (roles_of (state_of c.args.rec.now)) c.fill_holders.new.index
held c =
    let ready = c.requires.ready in
    (c.fill_holders.ensures.indexed _ ready.indexed, all_held _ _ _ ready c.fill_holders.new.index _ _ refl c.below.ensures c.fill_holders.ensures.holders_for)

-- the first turn
abbrev turn : After-strikable_roles-worklist → Turn
turn c = record { progress = c.begin-progress.result; worklist = c.strikable_roles-worklist.result }

first : (c : After-strikable_roles-worklist)
    → let ws = c.args.rec.now in
    let ρ = roles_of (state_of ws) in
    RunReached (state_of ws) ws c.fill_holders.new.index c.args.seniors.now (turn c)
    (begin ρ (weights_in c.args.terms.weights) (strikables ρ (state_of ws).standing) (state_of ws).standing)
first c =
    let given = c.requires in
    let index = held (goal.at.After-strikable_roles-worklist c).After-fill_holders in
    let begun = c.begin-progress.ensures in
    first_turn _ _ _ given.ready _ index.0 index.1 _ (turn c) (rw begun.counts given.exact) (rw begun.counts begun.quality) begun.upper_bound begun.changed begun.examined
    c.strikable_roles-worklist.ensures

pub fill_holders-requires : goal.fill_holders-requires
fill_holders-requires c = record { rec_bound = ready_few _ _ _ c.requires.ready }

pub begin-progress-requires : goal.begin-progress-requires
begin-progress-requires c = let given = c.requires in
    ready_weighed _ _ _ given.ready _ given.exact

pub returns-then-is_empty : goal.returns-then-is_empty
returns-then-is_empty c =
    let at = (goal.at.returns-then-is_empty c).After-strikable_roles-worklist in
    ended_at_once _ _ _ _ (turn at) (first at) ((eqb_iff _ _).0 (sym c.is_empty.ensures ∙ c.if-is_empty.true))

pub fill_order-requires : goal.fill_order-requires
fill_order-requires c = let held-here = held (goal.at.fill_order-requires c).After-fill_holders in
    let ready = c.requires.ready in
    record { indexed_for = index_of _ _ _ ready _ held-here.0 held-here.1; m_bound = permissions_few _ _ _ ready }

pub run_passes-requires : goal.run_passes-requires
run_passes-requires c = let given = c.requires in
    let index = held (goal.at.run_passes-requires c).After-fill_holders in
    record { run_reached = first (goal.at.run_passes-requires c).After-strikable_roles-worklist; prepared = all_prepared _ _ _ given.ready _ index.0 index.1 _ _ _ refl refl c.fill_order.ensures }
