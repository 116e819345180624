-- Request 1 of 02: a crew list out of a record and in again. Read, mined and written by the calls' own definitions.
-- Assumes nothing.
use Rattle.std.specs.Prelude.{◌≡◌, List, ℕ, ◌*◌, take}
use Rattle.model.specs.Lists.{rows_at}
use Rattle.model.specs.Record.{state_of}
use Rattle.model.specs.Calls.{Mined, mine}
use Rattle.text_crew.specs.Reader.{ReadReply}
use Rattle.call_write.specs.Writer.{Written}

-- the text that the writer left: as many bytes as it answered
unfoldable pub text_written : Written → List ℕ
text_written w = take w.size w.bytes

-- mining what the reader answered: n, m, and the words of the n rows
unfoldable pub mined_as : ReadReply → List ℕ → Mined
mined_as r ws = mine r.n r.m (take (4 * r.n) r.words) ws

-- "Reading its output and mining gives the same n, m and crew rows": of a record ws, whose text the reader answered with r, and mining that with x
pub record SameList (ws : List ℕ) (r : ReadReply) (x : Mined) : Type 0 where
  pub read : r.code ≡ 0
  pub read_users : r.n ≡ (state_of ws).users
  pub read_permissions : r.m ≡ (state_of ws).permissions
  pub read_rows : rows_at r.n r.words 0 ≡ (state_of ws).rows
  pub mined : x.code ≡ 0
  pub mined_users : (state_of x.words).users ≡ (state_of ws).users
  pub mined_permissions : (state_of x.words).permissions ≡ (state_of ws).permissions
  pub mined_rows : (state_of x.words).rows ≡ (state_of ws).rows
