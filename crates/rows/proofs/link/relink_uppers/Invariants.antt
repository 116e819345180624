-- The roles of `rest` still have their old rows, and the table holds the seniors of the record as it is.
-- Assumes nothing.
use Prim.Native.Nat.{ℕ}
use Rattle.sets.specs.Held.{set_of}
use Rattle.model.specs.Hierarchy.{RoleRows}
use Rattle.model.specs.State.{State}
use Rattle.rows.specs.Linked.{Linked}
use Rattle.rows.specs.Partway.{Partway, Target}
use Rattle.rows.proofs.link.relink_uppers.Given as goal

abbrev pub invariant-loop-i : goal.invariant-loop-i
invariant-loop-i l = (old : RoleRows) (st : State) (t : ℕ) → Target st (set_of l.standing) l.index → Partway old st (set_of l.initial.i-iterator.rest) (set_of l.initial.i-iterator.rest) t l.initial.rec → Linked l.initial.rec l.initial.seniors → Partway old st (set_of l.i-iterator.rest) (set_of l.i-iterator.rest) t l.rec × Linked l.rec l.seniors
