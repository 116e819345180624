-- Each part is judged in turn.
-- Assumes nothing.
use mathlib.Core.Path.{sym, ◌∙◌, subst}
use mathlib.Core.Bool.{So}
use Prim.Native.Nat.{◌+◌, ◌*◌, ◌≤◌}
use native.Mathlib.Omega.{arith}
use lib.ListN.{length, get_or}
use Rattle.sets.proofs.Truth.{So-not}
use Rattle.model.specs.Record.{state_of, Limits}
use Rattle.mining.specs.Mining.{Mines}
use Rattle.sets.proofs.Telling.{passed}
use Rattle.records.proofs.Judging.{limited, unlimited, unheaded, limited_users, too_many, too_high, limits}
use Rattle.records.proofs.check.is_sound.Goals as goal
use Rattle.std.proofs.Common.{ap}
use mathlib.Core.Bool.{not}
use Rattle.records.proofs.check.is_sound.Goals.{Else-not-is_subset, Else-not-within}

-- the limits are kept
limited-at : (c : Else-not-within) → So (limited c.args.rec.now c.told-rec)
limited-at c = sym c.within.ensures ∙ c.if-not-within.false

limits-at : (c : Else-not-is_subset) → Limits (state_of c.args.rec.now)
limits-at c =
    let w = subst (Mines _ _) c.in-Some.is (rw c.as_rows.ensures.value at c.mine.ensures) in
    limits _ c.told-rec (limited-at (goal.at.Else-not-is_subset c).Else-not-within) _ w.count w.few
    _ _ _ c.load.ensures c.below.ensures c.is_subset.ensures (ap not c.if-not-is_subset.false)

pub returns-then-not-within : goal.returns-then-not-within
returns-then-not-within c = let no = unlimited _ c.told-rec _ c.within.ensures (ap not c.if-not-within.true) in
    record { value = no; ready = λ s. absurd (So-not (sym no) s) }

pub as_rows-requires : goal.as_rows-requires
as_rows-requires c = let ws = c.args.rec.now in
    let full = c.told-rec in
    let few = limited_users ws full (limited-at (goal.at.as_rows-requires c).Else-not-within) in
    let room : 8 + 4 * get_or ws 0 0 ≤ length ws = omega arith in
    room

pub returns-in_default : goal.returns-in_default
returns-in_default c = let no = too_many _ c.told-rec (subst (Mines _ _) c.in_default.is (rw c.as_rows.ensures.value at c.mine.ensures)) in
    record { value = no; ready = λ s. absurd (So-not (sym no) s) }

pub returns-then-not-is_subset : goal.returns-then-not-is_subset
returns-then-not-is_subset c = let w = subst (Mines _ _) c.in-Some.is (rw c.as_rows.ensures.value at c.mine.ensures) in
    let no = too_high _ c.told-rec (limited-at (goal.at.returns-then-not-is_subset c).Else-not-within) _ w.count w.few
    _ _ _ c.load.ensures c.below.ensures c.is_subset.ensures (ap not c.if-not-is_subset.true) in
    record { value = no; ready = λ s. absurd (So-not (sym no) s) }

pub is_headed-requires : goal.is_headed-requires
unfolding state_of
is_headed-requires c = let full = c.told-rec in
    record { rec_bound = limited_users c.args.rec.now full (limited-at (goal.at.is_headed-requires c).Else-not-within); mined = (subst (Mines _ _) c.in-Some.is (rw c.as_rows.ensures.value at c.mine.ensures)).sets }

pub returns-then-not-is_headed : goal.returns-then-not-is_headed
returns-then-not-is_headed c = let no = unheaded _ c.told-rec _ c.is_headed.ensures (ap not c.if-not-is_headed.true) in
    record { value = no; ready = λ s. absurd (So-not (sym no) s) }

pub matches-requires : goal.matches-requires
matches-requires c = let given = c.requires in
    record { limits = limits-at (goal.at.matches-requires c).Else-not-is_subset; headed = passed _ c.is_headed.ensures (ap not c.if-not-is_headed.false) }
