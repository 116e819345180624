-- The roles that are not in `rest` have their entries.
-- Assumes nothing.
use mathlib.Core.Path.{◌≡◌}
use mathlib.Core.Bool.{So}
use Prim.Native.Nat.{ℕ, ◌<◌}
use Rattle.sets.specs.Held.{set_of}
use Rattle.sets.specs.Sets.{has}
use Rattle.model.specs.Hierarchy.{candidate_count, authorised_users}
use Rattle.model.specs.Indexes.{lower, roles_of_user}
use Rattle.model.specs.State.{State, roles_of}
use Rattle.model.specs.Record.{Limits}
use Rattle.tables.specs.Tables.{HoldsSets}
use Rattle.tables.proofs.Tables.{HeldBut}
use Rattle.indexes.specs.Tables.{Owned}
use Rattle.indexes.proofs.Owning.{every_role}
use Rattle.indexes.proofs.shared.fill_shared.Given as goal

abbrev pub invariant-loop-k : goal.invariant-loop-k
invariant-loop-k l = ((i : ℕ) → So (has (set_of l.k-iterator.rest) i) → i < l.c)
    × ((st : State) (known : ℕ) → Limits st → candidate_count (roles_of st) ≡ l.c → HoldsSets 2 st.users (roles_of_user (roles_of st)) l.roles → HoldsSets 2 l.c (authorised_users (roles_of st)) l.users
    → Owned st st.users l.initial.low known (set_of l.fn.own.users) → HeldBut (every_role l.c) (set_of l.initial.k-iterator.rest) (lower (roles_of st)) l.initial.low → HeldBut (every_role l.c) (set_of l.k-iterator.rest) (lower (roles_of st)) l.low)
