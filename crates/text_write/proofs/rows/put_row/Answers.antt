-- The row's parts, one after another.
-- Assumes nothing.
use Rattle.text_write.proofs.Puts.{row_put}
use Rattle.text_write.proofs.rows.put_row.Goals as goal

pub returns : goal.returns
returns c =
    let made = row_put _ _ _ _ _ _ _ _ _ _ _ _ _ _ _ c.digits_for.ensures.value c.load.ensures (c.put_decimal-between.ensures.value, c.put_decimal-between.ensures.out_after)
    (c.put_bytes-row.ensures.value, c.put_bytes-row.ensures.out_after) (c.put_hexadecimal-end.ensures.value, c.put_hexadecimal-end.ensures.out_after) (c.put_bytes.ensures.value, c.put_bytes.ensures.out_after) in
    record { value = made.0; out_after = made.1 }
