-- The head and then the lines.
-- Assumes nothing.
use native.Mathlib.Omega.{arith}
use Rattle.listing.proofs.Rendered.{sound-limited, quality_told, quality_is, count_is, roles_put}
use Rattle.listing.proofs.roles.put_roles.Goals as goal

pub unwrap-quality-requires : goal.unwrap-quality-requires
unwrap-quality-requires c = quality_told _ _ c.requires.so c.panel_quality.ensures

pub put_lines-requires : goal.put_lines-requires
put_lines-requires c = record { limited = sound-limited _ c.requires.so; start_in_bounds = omega arith }

pub returns : goal.returns
returns c = roles_put _ _ _ _ _ _ _ _ c.requires.so
    (count_is _ _ _ c.count-count.ensures c.load.ensures)
    (quality_is _ _ _ c.requires.so c.panel_quality.ensures c.unwrap-quality.ensures)
    c.put_head-start.ensures (c.put_lines.ensures.value, c.put_lines.ensures.out_after)
