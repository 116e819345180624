-- The same lines, out of a record's words.
-- Assumes nothing.
use Rattle.std.specs.Prelude.{List, [], ℕ, ◌+◌, ◌*◌, ◌≤◌, get_or}
use Rattle.sets.specs.Truth.{when◌then◌else◌}
use Rattle.sets.specs.Sets.{has}
use Rattle.model.specs.Lists.{set_at}
use Rattle.model.specs.Record.{sets_start, permissions_start, members_start, juniors_start}
use Rattle.text_roles.specs.Lines.{line, lines_to}

-- no text has a longer listing
abbrev pub most_bytes : ℕ
most_bytes = 32768

-- and no refusal is longer than this
abbrev pub refused_bytes : ℕ
refused_bytes = 29

-- the header of a record keeps the limits
pub record Limited (ws : List ℕ) : Type 0 where
  pub users : get_or ws 0 0 ≤ 128
  pub permissions : get_or ws 1 0 ≤ 256
  pub candidates : get_or ws 2 0 ≤ 128

unfoldable pub words_line : List ℕ → ℕ → List ℕ
words_line ws k =
    line (get_or ws 0 0) (get_or ws 1 0) (get_or ws 2 0) k (set_at 4 ws (sets_start + 4 * k)) (set_at 4 ws (permissions_start + 4 * k))
    (set_at 2 ws (members_start + 2 * k)) (set_at 2 ws (juniors_start + 2 * k))

unfoldable pub standing_line : List ℕ → ℕ → List ℕ
standing_line ws k = when has (set_at 2 ws 4) k then words_line ws k else []

unfoldable pub words_lines : List ℕ → ℕ → List ℕ
words_lines ws k = lines_to (set_at 2 ws 4) (words_line ws) k
