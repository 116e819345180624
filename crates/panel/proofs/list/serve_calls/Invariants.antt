-- The first i calls are made, and their answers written.
-- Assumes nothing.
use mathlib.Core.Path.{◌≡◌}
use Prim.Native.Nat.{◌/◌}
use lib.ListN.{length}
use Rattle.panel.proofs.Serving.{Serving}
use Rattle.panel.proofs.list.serve_calls.Given as goal

abbrev pub invariant-loop-i : goal.invariant-loop-i
invariant-loop-i l = (length l.out ≡ length l.initial.out) × (length l.rec ≡ length l.initial.rec) × Serving l.calls l.initial.rec (length l.calls / 7) l.i l.rec l.out
