-- The part that the bytes fill is overwritten.
-- Assumes nothing.
use native.Mathlib.Omega.{arith}
use Rattle.text.proofs.Puts.{put_part}
use Rattle.text.proofs.fixed.put_bytes.Goals as goal

pub returns-clause-out_after : goal.returns-clause-out_after
returns-clause-out_after c = put_part _ _ _ _ _ c.copy_from_slice.ensures.after (omega arith) c.requires
