use mathlib.Core.Path.{◌≡◌}
use Prim.Native.Nat.{◌*◌}
use lib.ListN.{drop}
use Rattle.sets.proofs.Extremes.{lowest_from}
use Rattle.sets.proofs.set.Set.lowest.Given as goal

abbrev pub invariant-loop-j : goal.invariant-loop-j
invariant-loop-j g l = lowest_from (64 * l.j) (drop l.j l.self.words) ≡ lowest_from 0 l.self.words
