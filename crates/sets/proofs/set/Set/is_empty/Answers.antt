-- `Set::is_empty` meets its contract: the words joined are zero where each is.
-- Assumes nothing.
use borrow.Author.Rules.{rules}
use mathlib.Core.Path.{◌≡◌}
use lib.Bits.{bit_or}
use Rattle.std.specs.Prelude.{fold}
use Rattle.sets.specs.Held.{set_of}
use Rattle.sets.proofs.Compare.{test_join}
use Rattle.sets.proofs.set.Set.is_empty.Goals as goal

pub returns : goal.returns
unfolding set_of
returns g c =
    let e : c.fold.result ≡ fold bit_or 0 c.args.self.words = search rules in
    rw e (test_join c.args.self.words)
