-- Put in exactly where both tests hold.
-- Assumes nothing.
use mathlib.Core.Path.{◌≡◌, sym, ◌∙◌}
use mathlib.Core.Bool.{Bool, ◌&&◌}
use lib.Dec.{eqb}
use Prim.Native.Nat.{ℕ}
use Rattle.sets.specs.Sets.{has, ◌∩◌}
use Rattle.sets.specs.Truth.{◌and◌}
use Rattle.sets.proofs.Order.{put_in, left_out}
use Rattle.sets.proofs.Written.{both_test}
use Rattle.hierarchy.proofs.seniors.with_senior.Goals as goal

-- what the code tests
tested : {a d : Bool} {m : ℕ} (b f k : ℕ) → a ≡ has b k → m ≡ b ∩ f → d ≡ eqb m 0 → (a && d) ≡ (has b k and eqb (b ∩ f) 0)
tested b f k ea em ed = rw (ea, ed, em) (both_test (has b k) (eqb (b ∩ f) 0))

pub returns-then-contains-is_empty : goal.returns-then-contains-is_empty
returns-then-contains-is_empty c = put_in _ _ _ _ 128 c.requires
    (sym (tested _ _ _ c.contains.ensures c.intersection.ensures c.is_empty.ensures) ∙ c.if-contains-is_empty.true) c.insert.ensures

pub returns : goal.returns
returns c = left_out _ _ _
    (sym (tested _ _ _ c.contains.ensures c.intersection.ensures c.is_empty.ensures) ∙ c.if-contains-is_empty.false)
