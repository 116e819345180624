-- The roles of `rest` still have their old members.
-- Assumes nothing.
use Prim.Native.Nat.{ℕ}
use Rattle.sets.specs.Held.{set_of}
use Rattle.model.specs.Hierarchy.{RoleRows}
use Rattle.model.specs.State.{State}
use Rattle.rows.specs.Linked.{Linked}
use Rattle.rows.specs.Partway.{Partway, Target}
use Rattle.rows.proofs.lower.rewrite_lowers.Given as goal

abbrev pub invariant-loop-j : goal.invariant-loop-j
invariant-loop-j l = (old : RoleRows) (st : State) (p : ℕ) → Target st (set_of l.standing) l.index → Linked l.initial.rec l.seniors → Partway old st 0 p (set_of l.initial.j-iterator.rest) l.initial.rec → Partway old st 0 p (set_of l.j-iterator.rest) l.rec × Linked l.rec l.seniors
