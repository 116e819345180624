-- The record, word by word; building afresh; sound.
-- Assumes nothing.
use Rattle.std.specs.Prelude.{◌≡◌, Bool, List, [], ◌∷◌, ℕ, ◌+◌, ◌-◌, ◌*◌, ◌/◌, ◌%◌, ◌^◌, ◌≤◌, ◌<◌, eqb, leb, ltb, length, get_or}
use Rattle.sets.specs.Truth.{◌and◌, when◌then◌else◌, all}
use Rattle.sets.specs.Words.{word}
use Rattle.model.specs.Lists.{tabulate, set_at, rows_at}
use Rattle.model.specs.Hierarchy.{RoleRows, candidate_count, permission_set, direct_permissions, direct_members, immediate_juniors}
use Rattle.model.specs.Coverage.{all_covered}
use Rattle.model.specs.State.{State, most_users, most_permissions, most_candidates, roles_of, within_limits, rows_within}

-- "The record is lent as 2,056 words of 64 bits", and where each region starts
abbrev pub record_length : ℕ
record_length = 2056

abbrev pub crew_start : ℕ
crew_start = 8

abbrev pub sets_start : ℕ
sets_start = 520

abbrev pub permissions_start : ℕ
permissions_start = 1032

abbrev pub members_start : ℕ
members_start = 1544

abbrev pub juniors_start : ℕ
juniors_start = 1800

-- "word 0: n; 1: m; 2: c; 3, 6 and 7: zero; 4 and 5: the standing set of roles"
unfoldable pub header_word : State → ℕ → ℕ
header_word st i =
    get_or
    (st.users ∷ st.permissions ∷ candidate_count (roles_of st) ∷ 0 ∷ word st.standing 0 ∷ word st.standing 1 ∷ 0 ∷ 0 ∷ [])
    i 0

-- word i of a region that holds the set f k of each k, w words to a set
unfoldable pub region_word : ℕ → (ℕ → ℕ) → ℕ → ℕ
region_word w f i = word (f (i / w)) (i % w)

-- word i of the record built afresh from a state
unfoldable pub word_at : State → ℕ → ℕ
word_at st i =
    when ltb i crew_start then header_word st i
    else when ltb i sets_start then region_word 4 (λ u. get_or st.rows u 0) (i - crew_start)
    else when ltb i permissions_start then region_word 4 (permission_set (roles_of st)) (i - sets_start)
    else when ltb i members_start then region_word 4 (direct_permissions (roles_of st) st.standing) (i - permissions_start)
    else when ltb i juniors_start then region_word 2 (direct_members (roles_of st) st.standing) (i - members_start)
    else region_word 2 (immediate_juniors (roles_of st) st.standing) (i - juniors_start)

-- "Building afresh from a crew list and R"
unfoldable pub built : State → List ℕ
built st = tabulate record_length (word_at st)

-- ---- reading a record

-- the state that a record's header and crew rows hold
unfoldable pub state_of : List ℕ → State
state_of ws =
    record {
      users = get_or ws 0 0;
      permissions = get_or ws 1 0;
      rows = rows_at (get_or ws 0 0) ws crew_start;
      standing = set_at 2 ws 4;
    }

-- the rows of its c roles that a record's words hold
unfoldable pub role_rows_of : List ℕ → RoleRows
role_rows_of ws =
    record {
      juniors = λ k. when ltb k (get_or ws 2 0) then set_at 2 ws (juniors_start + 2 * k) else 0;
      permissions = λ k. when ltb k (get_or ws 2 0) then set_at 4 ws (permissions_start + 4 * k) else 0;
      members = λ k. when ltb k (get_or ws 2 0) then set_at 2 ws (members_start + 2 * k) else 0;
    }

-- a state that keeps the limits, whose standing roles are candidates and cover each crew grant
unfoldable pub state_sound : State → Bool
state_sound st =
    within_limits st.users st.permissions and eqb (length st.rows) st.users and rows_within st.permissions st.rows
    and leb (candidate_count (roles_of st)) most_candidates and ltb st.standing (2 ^ candidate_count (roles_of st))
    and all_covered (roles_of st) st.standing

-- "A record is sound when": its state is, and each of its words is what building afresh from that state gives
unfoldable pub sound : List ℕ → Bool
sound ws =
    eqb (length ws) record_length and state_sound (state_of ws) and all record_length (λ i. eqb (get_or ws i 0) (word_at (state_of ws) i))

-- the limits of 01, kept by a state: what every record that is built afresh is asked to keep
pub record Limits (st : State) : Type 0 where
  pub users_some : 1 ≤ st.users
  pub users_most : st.users ≤ most_users
  pub permissions_some : 1 ≤ st.permissions
  pub permissions_most : st.permissions ≤ most_permissions
  pub rows_count : length st.rows ≡ st.users
  pub rows_below : (u : ℕ) → u < st.users → get_or st.rows u 0 < 2 ^ st.permissions
  pub candidates_most : candidate_count (roles_of st) ≤ most_candidates
  pub standing_below : st.standing < 2 ^ candidate_count (roles_of st)
