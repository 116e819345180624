-- The list so far is the one lent with the first i words of src put in.
-- Assumes nothing.
use mathlib.Core.Path.{◌≡◌}
use lib.ListN.{length, take}
use Rattle.stores.specs.Stores.{put_at}
use Rattle.tables.proofs.copy.Given as goal

abbrev pub invariant-loop-i : goal.invariant-loop-i
invariant-loop-i l = (length l.ws ≡ length l.initial.ws) × (l.ws ≡ put_at l.initial.ws l.at (take l.i l.src))
