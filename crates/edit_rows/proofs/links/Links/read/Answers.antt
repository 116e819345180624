-- The table holds the immediate seniors, and the record the immediate juniors.
-- Assumes nothing.
use mathlib.Core.Path.{◌∙◌}
use Prim.Native.Nat.{◌^◌, ◌<◌}
use Rattle.sets.specs.Held.{set_of}
use Rattle.sets.proofs.Written.{words}
use Rattle.sets.proofs.Held.{held128}
use Rattle.edit_rows.proofs.Changing.{juniors_read, seniors_read}
use Rattle.edit_rows.proofs.links.Links.read.Goals as goal
use Rattle.edit_rows.proofs.links.Links.read.Goals.{After-load}

narrow : (c : After-load) → set_of c.load.result < 2 ^ 128
narrow c = search (words, held128)

pub returns : goal.returns
returns c = λ st index ready. record {
  seniors = seniors_read st ready.limits _ ready.afresh _ ready.linked _ _ c.requires c.load.ensures (narrow (goal.at.returns c).After-load);
  juniors = c.load-2.ensures ∙ juniors_read st ready.limits _ ready.afresh _ c.requires;
}
