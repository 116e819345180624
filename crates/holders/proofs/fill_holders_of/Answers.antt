-- A column for each, or all 256 of them.
-- Assumes nothing.
use Prim.Native.Nat.{◌^◌, ◌<◌}
use native.Mathlib.Omega.{arith}
use borrow.Author.Rules.{rules}
use Rattle.sets.specs.Held.{set_of}
use Rattle.sets.proofs.Members.{item_below}
use Rattle.sets.proofs.Written.{words}
use Rattle.sets.proofs.Held.{held256}
use Rattle.holders.proofs.fill_holders_of.Goals as goal
use Rattle.holders.proofs.fill_holders_of.Goals.{Start}

small : (c : Start) → set_of c.args.permissions < 2 ^ 256
small c = search (words, held256)

pub fill_columns_for-requires : goal.fill_columns_for-requires
fill_columns_for-requires c = (
  search rules,
  search rules,
  λ k t. let l : k < 256 = item_below 256 _ k (small (goal.at.fill_columns_for-requires c).Start) t in omega arith,
)

pub returns-else-count-lt24 : goal.returns-else-count-lt24
returns-else-count-lt24 c = λ p t. c.fill_columns.ensures.0 p (item_below 256 _ p (small (goal.at.returns-else-count-lt24 c).Start) t)
