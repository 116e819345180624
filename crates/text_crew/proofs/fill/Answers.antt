-- No rows are laid in words that are all zero.
-- Assumes nothing.
use native.Mathlib.Omega.{arith}
use Rattle.text_crew.proofs.Laid.{blank}
use Rattle.text_crew.proofs.fill.Goals as goal

pub read_rows-requires : goal.read_rows-requires
read_rows-requires c = (omega arith, omega arith, blank)
