-- Assumes nothing.
use mathlib.Core.Path.{◌∙◌, ap}
use mathlib.Core.Bool.{not}
use Prim.Native.Nat.{ℕ}
use lib.Dec.{eqb}
use Rattle.sets.specs.Held.{set_of}
use Rattle.sets.specs.Sets.{◌∩◌}
use Rattle.edit_test.proofs.Covering.{not_isnt}
use Rattle.edit_test.proofs.walk.one_holds.Goals as goal

pub returns : goal.returns
returns c = ap not (c.is_empty.ensures ∙ ap (λ (x : ℕ). eqb x 0) (c.intersection.ensures ∙ ap (λ (x : ℕ). set_of c.args.roles ∩ x) c.load.ensures)) ∙ not_isnt _
