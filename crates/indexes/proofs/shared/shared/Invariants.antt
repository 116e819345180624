-- What is left are the roles of all users that were met.
-- Assumes nothing.
use mathlib.Core.Bool.{So}
use Prim.Native.Nat.{ℕ}
use Rattle.sets.specs.Held.{set_of}
use Rattle.sets.specs.Sets.{has}
use Rattle.indexes.proofs.Owning.{Sharing}
use Rattle.indexes.proofs.shared.shared.Given as goal

abbrev pub invariant-loop-u : goal.invariant-loop-u
invariant-loop-u l = Sharing l.roles (set_of l.initial.u-iterator.rest) (set_of l.left) (set_of l.u-iterator.rest) × ((u : ℕ) → So (has (set_of l.u-iterator.rest) u) → So (has (set_of l.initial.u-iterator.rest) u))
