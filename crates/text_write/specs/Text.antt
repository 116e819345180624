-- The crew text of a record.
-- Assumes nothing.
use Rattle.std.specs.Prelude.{List, ℕ}
use Rattle.model.specs.Record.{state_of}
use Rattle.text_lines.specs.Format.{crew_text}

-- request 1 of 02: "the crew list out of a rack in the form it went in", of the record's n, m and crew rows
unfoldable pub record_text : List ℕ → List ℕ
record_text ws = crew_text (state_of ws).users (state_of ws).permissions (state_of ws).rows

-- no record has a longer one
abbrev pub longest_written : ℕ
longest_written = 8735
