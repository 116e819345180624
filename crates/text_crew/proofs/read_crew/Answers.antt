-- A header that is read keeps the limits.
-- Assumes nothing.
use mathlib.Core.Path.{◌≡◌, sym, ◌∙◌}
use native.Mathlib.Omega.{arith}
use Rattle.std.specs.Prelude.{Ok}
use Rattle.text_crew.proofs.Answers.{header_small}
use Rattle.text_crew.proofs.read_crew.Goals as goal

pub fill-requires : goal.fill-requires
fill-requires c =
    let o : c.read_header.result ≡ Ok c.in_ok-header.header = grind arith in
    header_small _ _ (sym c.read_header.ensures ∙ o)
