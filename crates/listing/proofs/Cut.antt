-- A text of which more bytes are read than the longest has lists as if it were read whole.
-- Assumes nothing.
use mathlib.Core.Path.{◌≡◌, sym, ◌∙◌}
use mathlib.Core.List.{List}
use Prim.Native.Nat.{ℕ, ◌<◌}
use lib.ListN.{length, take, replicate, length-replicate}
use Rattle.text_crew.specs.Reader.{longest_text, buffer_length, read_crew}
use Rattle.text_crew.proofs.Answers.{too_long}
use Rattle.text_crew.proofs.Cut.{cut_same}
use Rattle.listing.specs.Listing.{listing}

-- two texts that are read alike
same_read : (a b : List ℕ) → read_crew a (replicate buffer_length 0) ≡ read_crew b (replicate buffer_length 0) → listing a ≡ listing b
unfolding listing
same_read a b e = rw e

both_long : (a b : List ℕ) → longest_text < length a → longest_text < length b → listing a ≡ listing b
both_long a b h g =
    same_read a b (sym (too_long a (replicate buffer_length 0) (length-replicate {A = ℕ} buffer_length 0) h) ∙ too_long b (replicate buffer_length 0) (length-replicate {A = ℕ} buffer_length 0) g)

pub cut_listing : (space : ℕ) (text bytes : List ℕ) → bytes ≡ take space text → longest_text < space → listing bytes ≡ listing text
cut_listing = cut_same listing both_long
