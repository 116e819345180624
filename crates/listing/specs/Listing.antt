-- What the lister prints for a text: it "mines, eliminates with weights 1, 1, 1, 1 and tolerance 1/1, reviews, and prints".
-- Assumes nothing.
use Rattle.std.specs.Prelude.{◌≡◌, ◌⊎◌, List, [], ◌∷◌, ◌++◌, ℕ, eqb, leb, length, replicate}
use Rattle.std.specs.Int.Count.{ones}
use Rattle.sets.specs.Truth.{when◌then◌else◌}
use Rattle.model.specs.Lists.{rows_at}
use Rattle.model.specs.Candidates.{candidates}
use Rattle.model.specs.Hierarchy.{candidate_count, permission_set, direct_permissions, direct_members, immediate_juniors}
use Rattle.model.specs.Quality.{Weights, quality, Tolerance}
use Rattle.model.specs.State.{State, roles_of, fresh}
use Rattle.model.specs.Machine.{state_after}
use Rattle.model.specs.Machine.Call.{eliminate, review}
use Rattle.text_crew.specs.Reader.{buffer_length, read_crew}
use Rattle.text_roles.specs.Lines.{line, lines_to, head_line, refused_text}

-- "weights 1, 1, 1, 1 and tolerance 1/1"
unfoldable pub plain_weights : Weights
plain_weights = record { per_role = 1; per_member = 1; per_permission = 1; per_link = 1 }

unfoldable pub plain_tolerance : Tolerance
plain_tolerance = record { numerator = 1; denominator = 1 }

-- the state that elimination and then review leave
unfoldable pub settled : State → State
settled st = state_after st (eliminate plain_weights plain_tolerance ∷ review plain_weights ∷ [])

-- the numbers that are ever printed so: the reader's, and mining's 4
abbrev pub Printable : ℕ → Type 0
Printable k = (k ≡ 2) ⊎ ((k ≡ 3) ⊎ ((k ≡ 4) ⊎ (k ≡ 10)))

-- ---- the whole

-- the line of role k in the building of the state's standing set
unfoldable pub role_line : State → ℕ → List ℕ
role_line st k =
    let ρ = roles_of st in
    let R = st.standing in
    line st.users st.permissions (candidate_count ρ) k (permission_set ρ k) (direct_permissions ρ R k) (direct_members ρ R k) (immediate_juniors ρ R k)

-- "then per standing role by number"
unfoldable pub roles_text : State → List ℕ
roles_text st =
    head_line (ones st.standing) (quality (roles_of st) plain_weights st.standing)
    ++ lines_to st.standing (role_line st) (candidate_count (roles_of st))

-- of a crew list that was read: more than 128 candidates are refused with 4
unfoldable pub listed : ℕ → ℕ → List ℕ → List ℕ
listed n m rows = when leb (length (candidates rows)) 128 then roles_text (settled (fresh n m rows)) else refused_text 4

-- of a text
unfoldable pub listing : List ℕ → List ℕ
listing text =
    let a = read_crew text (replicate buffer_length 0) in
    when eqb a.code 0 then listed a.n a.m (rows_at a.n a.words 0) else refused_text a.code
