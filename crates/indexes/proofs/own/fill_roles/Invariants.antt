-- The entries of the users before u are filled, and the own roles among them are known.
-- Assumes nothing.
use Rattle.sets.specs.Held.{set_of}
use Rattle.model.specs.Indexes.{roles_of_user}
use Rattle.model.specs.State.{State, roles_of}
use lib.ListN.{length}
use Rattle.tables.specs.Rows.{rows_of}
use Rattle.tables.specs.Tables.{Filled}
use Rattle.indexes.specs.Tables.{Source, Owned}
use Rattle.indexes.proofs.own.fill_roles.Given as goal

abbrev pub invariant-loop-u : goal.invariant-loop-u
invariant-loop-u l = (st : State) → Source st (rows_of l.rows) (length l.rows) l.sets l.c → Owned st l.u l.low (set_of l.own.roles) (set_of l.own.users) × Filled 2 l.u (roles_of_user (roles_of st)) l.initial.out l.out
