-- The header is a first line.
-- Assumes nothing.
use Rattle.text_lines.specs.Format.{header_line}
use Rattle.text_write.proofs.put_header.Goals as goal

pub returns : goal.returns
unfolding header_line
returns c = record { value = c.put_first_line.ensures.value; out_after = c.put_first_line.ensures.out_after }
