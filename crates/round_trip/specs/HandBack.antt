-- What the program `handback` prints for a text. "every text that the reader accepts and whose list has at most 128 candidates comes back byte for byte":
-- the text itself; or a refusal of the reader or of mining.
-- Assumes nothing.
use Rattle.std.specs.Prelude.{List, ℕ, eqb, leb, length, replicate}
use Rattle.sets.specs.Truth.{when◌then◌else◌}
use Rattle.model.specs.Lists.{rows_at}
use Rattle.model.specs.Candidates.{candidates}
use Rattle.text_crew.specs.Reader.{buffer_length, read_crew}
use Rattle.text_roles.specs.Lines.{refused_text}

unfoldable pub handed_back : List ℕ → List ℕ
handed_back text =
    let a = read_crew text (replicate buffer_length 0) in
    when eqb a.code 0
    then when leb (length (candidates (rows_at a.n a.words 0))) 128 then text else refused_text 4
    else refused_text a.code
