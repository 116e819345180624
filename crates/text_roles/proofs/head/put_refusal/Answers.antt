-- The refusal's parts, one after another.
-- Assumes nothing.
use Rattle.text_roles.proofs.Puts.{refused_put}
use Rattle.text_roles.proofs.head.put_refusal.Goals as goal

pub returns : goal.returns
returns c = let k = c.put_number-end.ensures in
    refused_put _ _ _ _ _ _ _ _ (c.put_bytes-number.ensures.value, c.put_bytes-number.ensures.out_after) (k.0, k.1) (c.put_bytes.ensures.value, c.put_bytes.ensures.out_after)
