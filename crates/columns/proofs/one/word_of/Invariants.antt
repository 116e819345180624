-- The bits before q are gathered.
-- Assumes nothing.
use mathlib.Core.Path.{◌≡◌}
use mathlib.Core.Bool.{Bool}
use Prim.Native.Nat.{ℕ, ◌+◌, ◌<◌}
use Rattle.sets.specs.Sets.{collect}
use Rattle.columns.proofs.one.word_of.Given as goal

abbrev pub invariant-loop-q : goal.invariant-loop-q
invariant-loop-q g l = (f : ℕ → Bool) → ((i : ℕ) (t : Bool) → i < l.count → goal.F-post g l.test (l.from + i) t → t ≡ f i) → l.bits ≡ collect l.q f
