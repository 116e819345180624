-- The entries below at + b are filled.
-- Assumes nothing.
use mathlib.Core.Path.{◌≡◌}
use mathlib.Core.List.{List, [], ◌∷◌}
use Prim.Native.Nat.{ℕ, ◌+◌, ◌<◌}
use lib.ListN.{length, get_or}
use Rattle.sets.specs.Words.{value}
use Rattle.tables.specs.Tables.{Filled}
use Rattle.columns.proofs.all.store_pairs.Given as goal

abbrev pub invariant-loop-b : goal.invariant-loop-b
invariant-loop-b l = (length l.out ≡ length l.initial.out) × ((f : ℕ → ℕ) (before : List ℕ) → ((i : ℕ) → i < l.count → value (get_or l.low i 0 ∷ get_or l.high i 0 ∷ []) ≡ f (l.at + i)) → Filled 2 l.at f before l.initial.out → Filled 2 (l.at + l.b) f before l.out)
