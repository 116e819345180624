-- What is listed of the bytes read is the listing of the text.
-- Assumes nothing.
use Rattle.std.proofs.Common.{rules, arith, ◌∙◌}
use Rattle.listing.specs.Listing.{listing}
use Rattle.listing.proofs.Cut.{cut_listing}
use Rattle.listing.proofs.stream.list_stream.Goals as goal

pub returns : goal.returns
returns g c = c.through.ensures listing (λ text input answer e post. search rules ∙ cut_listing 16385 text _ e (omega arith))
