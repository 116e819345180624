-- What is left of s less the sets of js is what is left now less those of the rest.
-- Assumes nothing.
use mathlib.Core.Path.{◌≡◌}
use Prim.Native.Nat.{◌*◌, ◌^◌, ◌<◌}
use Rattle.sets.specs.Held.{set_of}
use Rattle.hierarchy.specs.Tables.{less_all}
use Rattle.hierarchy.proofs.sieve.less.Given as goal

abbrev pub invariant-loop-j : goal.invariant-loop-j
invariant-loop-j g l = (set_of l.left < 2 ^ (64 * g.row.WORDS)) × (less_all g.row.WORDS l.table (set_of l.initial.left) (set_of l.initial.j-iterator.rest) ≡ less_all g.row.WORDS l.table (set_of l.left) (set_of l.j-iterator.rest))
