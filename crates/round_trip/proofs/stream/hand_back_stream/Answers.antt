-- What comes back of the bytes read is what comes back of the text.
-- Assumes nothing.
use Rattle.std.proofs.Common.{rules, arith, ◌∙◌}
use Rattle.round_trip.specs.HandBack.{handed_back}
use Rattle.round_trip.proofs.Handing.{cut_back}
use Rattle.round_trip.proofs.stream.hand_back_stream.Goals as goal

pub returns : goal.returns
returns g c = c.through.ensures handed_back (λ text input answer e post. search rules ∙ cut_back 16385 text _ e (omega arith))
