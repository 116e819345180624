-- The answer to C says what the call gave back.
-- Assumes nothing.
use mathlib.Core.Path.{◌≡◌, refl}
use mathlib.Core.Bool.{Bool, true, false}
use mir.Val.{bool_byte}
use Rattle.sets.specs.Truth.{bit}
use Rattle.std.specs.Prelude.{ℕ, List, Result, Ok, Err}
use Rattle.refusals.specs.declared.Refusal.{Refusal}
use Rattle.call_mine.specs.Results as mining
use Rattle.text_crew.specs.declared.CrewSize.{CrewSize}
use Rattle.text_crew.specs.Reader as reading
use Rattle.text_crew.specs.Reader.{read_refused}
use Rattle.panel_c.specs.Answers.{mine_answer, crew_read}
use Rattle.panel_c.specs.Results.{mine_result, read_result}

pub mine_same : (r : Result ℕ Refusal) (ws : List ℕ) → mine_result (mine_answer r) ws ≡ mining.mine_result r ws
mine_same (Ok c) ws = refl
mine_same (Err r) ws = refl

pub read_same : (r : Result CrewSize Refusal) (ws : List ℕ) → read_result (crew_read r) ws ≡ reading.read_result r ws
unfolding reading.read_result read_refused
read_same (Ok size) ws = refl
read_same (Err r) ws = refl

-- 1 for yes, 0 for no
pub byte_bit : (b : Bool) → bool_byte b ≡ bit b
unfolding bit
byte_bit true = refl
byte_bit false = refl
