-- The words are folded into the digest.
-- Assumes nothing.
use mathlib.Core.Path.{◌≡◌, sym, ◌∙◌}
use borrow.Author.Rules.{rules}
use lib.Bits.{bit_xor}
use Rattle.std.specs.List.{fold}
use Rattle.test_support.specs.Digest.{mixed, digest_start}
use Rattle.test_support.proofs.Digesting.{folded}
use Rattle.test_support.proofs.mixing.digest.Goals as goal

pub returns : goal.returns
returns c =
    let e : c.fold.result ≡ fold (λ d w. mixed (bit_xor d w)) digest_start c.args.ws.now = search rules in
    e ∙ sym (folded _)
