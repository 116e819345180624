-- The entries of the roles in `rest` still have to be altered.
-- Assumes nothing.
use Prim.Native.Nat.{ℕ}
use Rattle.sets.specs.Held.{set_of}
use Rattle.rows.proofs.Linking.{Relinked}
use Rattle.rows.proofs.link.relink.Given as goal

abbrev pub invariant-loop-j : goal.invariant-loop-j
invariant-loop-j l = (f : ℕ → ℕ) → Relinked f l.i (set_of l.new) (set_of l.initial.j-iterator.rest) l.initial.seniors → Relinked f l.i (set_of l.new) (set_of l.j-iterator.rest) l.seniors
