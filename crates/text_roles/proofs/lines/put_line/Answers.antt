-- The fields of a line, one after another.
-- Assumes nothing.
use Rattle.text_roles.proofs.Puts.{sized_put, line_put}
use Rattle.text_roles.proofs.lines.put_line.Goals as goal

pub returns : goal.returns
returns c =
    let made = let k = c.put_number-set.ensures in
    let s = c.put_set-permissions.ensures in
    let p = c.put_set-members.ensures in
    let u = c.put_set-juniors.ensures in
    let j = c.put_set-end.ensures in
    line_put _ _ _ _ _ _ _ _ _ _ _ _ _ _ _ _ (k.0, k.1) (s.0, s.1) (p.0, p.1) (u.0, u.1)
    (sized_put _ _ _ _ _ _ _ c.candidates.ensures (j.0, j.1)) (c.put_bytes.ensures.value, c.put_bytes.ensures.out_after) in
    record { value = made.0; out_after = made.1 }
