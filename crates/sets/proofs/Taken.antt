-- A set taken item by item.
-- Assumes nothing.
use mathlib.Core.Path.{◌≡◌, sym, ◌∙◌, ap}
use mathlib.Core.Logic.{◌≢◌}
use Prim.Native.Nat.{ℕ, ◌^◌, ◌<◌}
use native.Mathlib.Omega.{arith}
use borrow.Author.Rules.{rules}
use lib.Count.{ones}
use Rattle.std.specs.Prelude.{Option, Some, None, IsSome}
use Rattle.sets.specs.Sets.{◌∖◌, single}
use Rattle.sets.specs.Extremes.{lowest, highest, LowestItem}
use Rattle.sets.specs.declared.items.Items.{Items}
use Rattle.sets.specs.Held.{set_of}
use Rattle.sets.specs.Walks.{FirstItem, LastItem}
use Rattle.sets.proofs.Counts.{ones_without}
use Rattle.sets.proofs.Extremes.{lowest_known, highest_known, lowest_some, highest_some, lowest-none_iff, highest-none_iff}

-- a set that is not empty has a lowest and a highest item
pub lowest_there : (n s : ℕ) (r : Option ℕ) → s < 2 ^ n → s ≢ 0 → r ≡ lowest n s → IsSome r
lowest_there n s (Some i) l d e = search rules
lowest_there n s None l d e = absurd (lowest_some n s l d (sym e))

pub highest_there : (n s : ℕ) (r : Option ℕ) → s < 2 ^ n → s ≢ 0 → r ≡ highest n s → IsSome r
highest_there n s (Some i) l d e = search rules
highest_there n s None l d e = absurd (highest_some n s l d (sym e))

-- the first item, as it was computed
pub first_told : (n s : ℕ) (r : Option ℕ) → s < 2 ^ n → r ≡ lowest n s → FirstItem n s r
first_told n s (Some i) l e = lowest_known n s i (sym e)
first_told n s None l e = (lowest-none_iff n s l).0 (sym e)

pub last_told : (n s : ℕ) (r : Option ℕ) → s < 2 ^ n → r ≡ highest n s → LastItem n s r
last_told n s (Some i) l e = highest_known n s i l (sym e)
last_told n s None l e = (highest-none_iff n s l).0 (sym e)

-- an item is taken, and then there is one fewer
pub fewer_left : (n s i t : ℕ) → LowestItem n s i → t ≡ s ∖ single i → ones t < ones s
fewer_left n s i t e d = let o = ones_without s i e.there in rw d (omega (arith, o))

-- a loop over the items of a set begins with all of them
pub begun : {n : ℕ} {it items : Items n} {s : ℕ} → it ≡ items → set_of items.rest ≡ s → set_of it.rest ≡ s
begun e i = ap (λ x. set_of x.rest) e ∙ i
