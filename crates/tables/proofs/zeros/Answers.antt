-- The words joined are zero where each is.
-- Assumes nothing.
use borrow.Author.Rules.{rules}
use mathlib.Core.Path.{◌≡◌, sym, ◌∙◌}
use Prim.Native.Nat.{◌-◌}
use lib.Bits.{bit_or}
use lib.ListN.{take, drop}
use Rattle.std.specs.Prelude.{fold}
use Rattle.sets.proofs.Truth.{eqb_iff}
use Rattle.sets.proofs.Compare.{join-zero}
use Rattle.tables.proofs.Clearing.{zeros_part}
use Rattle.tables.proofs.zeros.Goals as goal

pub returns : goal.returns
returns c =
    let part = take (c.args.to - c.args.from) (drop c.args.from c.args.ws.now) in
    let e : c.fold.result ≡ fold bit_or 0 part = search rules in
    let z = join-zero part in
    zeros_part _ _ _ _ c.requires.from_le_to c.requires.to_in_bounds (λ t. z.0 (sym e ∙ (eqb_iff _ _).0 t), λ h. (eqb_iff _ _).1 (e ∙ z.1 h))
