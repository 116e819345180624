use mathlib.Core.Path.{◌≡◌}
use mathlib.Core.Bool.{false}
use lib.ListN.{drop}
use Rattle.sets.proofs.Compare.{less_from}
use Rattle.sets.proofs.set.Set.less.Given as goal

abbrev pub invariant-loop-j : goal.invariant-loop-j
invariant-loop-j g l = less_from l.less (drop l.j l.self.words) (drop l.j l.other.words) ≡ less_from false l.self.words l.other.words
