-- The line's parts, one after another.
-- Assumes nothing.
use Rattle.text.proofs.Puts.{first-line}
use Rattle.text.proofs.line.put_first_line.Goals as goal

pub returns : goal.returns
returns c = record {
  value = (first-line _ _ _ _ _ _ _ _ _ _ _ _ _ _ (c.put_bytes-first.ensures.value, c.put_bytes-first.ensures.out_after) (c.put_decimal-between.ensures.value, c.put_decimal-between.ensures.out_after)
      (c.put_bytes-second.ensures.value, c.put_bytes-second.ensures.out_after) (c.put_decimal-end.ensures.value, c.put_decimal-end.ensures.out_after) (c.put_bytes.ensures.value, c.put_bytes.ensures.out_after)).0;
  out_after = (first-line _ _ _ _ _ _ _ _ _ _ _ _ _ _ (c.put_bytes-first.ensures.value, c.put_bytes-first.ensures.out_after) (c.put_decimal-between.ensures.value, c.put_decimal-between.ensures.out_after)
      (c.put_bytes-second.ensures.value, c.put_bytes-second.ensures.out_after) (c.put_decimal-end.ensures.value, c.put_decimal-end.ensures.out_after) (c.put_bytes.ensures.value, c.put_bytes.ensures.out_after)).1;
}
