-- What is behind the rows, then what each has from below, then from above.
-- Assumes nothing.
use native.Mathlib.Omega.{arith}
use Prim.Native.Nat.{ℕ, ◌^◌, ◌<◌}
use lib.ListN.{get_or}
use Rattle.model.specs.Hierarchy.{candidate_count}
use Rattle.model.specs.State.{roles_of}
use Rattle.rows_check.specs.Held.{UpperHeld, NoneBehind}
use Rattle.sets.proofs.Telling.{no_of, failed, passed}
use Rattle.rows_check.proofs.Rows.{built_behind, built_upper, built_lower, juniors_held, seniors_linked, rows_built, count_told, standing_told}
use Rattle.rows_check.proofs.all.rows_match.Goals as goal
use Rattle.std.proofs.Common.{ap}
use mathlib.Core.Bool.{not}

pub returns-then-not-none_behind : goal.returns-then-not-none_behind
returns-then-not-none_behind c = λ st lim h ix. (no_of (λ e. failed _ c.none_behind.ensures (ap not c.if-not-none_behind.true) (rw (count_told st c.args.rec.now h) at (built_behind st lim c.args.rec.now e))), λ t. absurd ((no_of (λ x. x)).0 t))

pub returns-then-not-uppers_match : goal.returns-then-not-uppers_match
returns-then-not-uppers_match c = λ st lim h ix.
    let to = standing_told st _ h lim _ _ c.load-standing.ensures ix in
    (no_of (λ e. failed _ (c.uppers_match.ensures st to h) (ap not c.if-not-uppers_match.true) (λ k l. built_upper st lim _ e k (rw (count_told st _ h) l))), λ t. absurd ((no_of (λ x. x)).0 t))

pub returns : goal.returns
returns c = λ st lim h ix.
    let ws = c.args.rec.now in
    let fits : (i : ℕ) → get_or ws i 0 < 2 ^ 64 = c.fits-rec in
    let count = count_told st ws h in
    let to = standing_told st ws h lim _ _ c.load-standing.ensures ix in
    let none : NoneBehind ws (candidate_count (roles_of st)) = rw count (passed _ c.none_behind.ensures (ap not c.if-not-none_behind.false)) in
    let held : (k : ℕ) → k < candidate_count (roles_of st) → UpperHeld st ws k = λ k l. passed _ (c.uppers_match.ensures st to h) (ap not c.if-not-uppers_match.false) k (rw count at l) in
    let linked = seniors_linked st lim ws fits none held _ _ _ c.clear.new.ws _ to count c.clear.ensures (rw c.immediate_juniors.ensures at c.fill_columns.ensures) (omega arith) in
    let lowers = c.lowers_match.ensures st to linked (juniors_held st lim ws fits none held _ to.standing) in (
      (
        λ t. rows_built st lim ws fits none held h (λ k l. lowers.0 t k (rw count at l)),
        λ e. lowers.1 (λ k l. built_lower st lim ws e k (rw count l)),
      ),
      λ t. linked,
    )
