use mathlib.Core.Path.{◌≡◌}
use Prim.Native.Nat.{◌*◌}
use lib.ListN.{drop}
use Rattle.std.specs.Prelude.{None}
use Rattle.sets.proofs.Extremes.{highest_from}
use Rattle.sets.proofs.set.Set.highest.Given as goal

abbrev pub invariant-loop-j : goal.invariant-loop-j
invariant-loop-j g l = highest_from (64 * l.j) l.highest (drop l.j l.self.words) ≡ highest_from 0 None l.self.words
