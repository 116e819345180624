-- The roles from number k on still have their old rows.
-- Assumes nothing.
use Prim.Native.Nat.{ℕ}
use Rattle.sets.specs.Held.{set_of}
use Rattle.model.specs.Hierarchy.{RoleRows}
use Rattle.model.specs.State.{State}
use Rattle.rows.specs.Partway.{Partway, Target}
use Rattle.rows.proofs.Rewriting.{from}
use Rattle.rows.proofs.upper.fill_uppers.Given as goal

abbrev pub invariant-loop-k : goal.invariant-loop-k
invariant-loop-k l = (old : RoleRows) (st : State) (t : ℕ) → Target st (set_of l.standing) l.index → Partway old st (set_of l.standing) (set_of l.standing) t l.initial.rec → Partway old st (from (set_of l.standing) l.k) (from (set_of l.standing) l.k) t l.rec
