-- The lines of a sound record are those of the state that it holds; elimination and review leave the settled state.
-- Assumes nothing.
use mathlib.Core.Path.{◌≡◌, refl, sym, ◌∙◌, ap}
use mathlib.Core.Bool.{So}
use mathlib.Core.List.{List, [], ◌∷◌, ◌++◌}
use Prim.Native.Nat.{ℕ, zero, suc, ◌+◌, ◌*◌, ◌≤◌, ◌<◌}
use native.Mathlib.Nat.{zero-add, lt_of_lt_of_le, lt-suc_self, lt_trans}
use native.Mathlib.Omega.{arith}
use Rattle.std.specs.Prelude.{Result, Ok, Err, IsOk}
use lib.Count.{ones}
use lib.ListN.{length, get_or}
use lib.Pow.{pow_mono}
use lib.Dec.{ltb}
use Rattle.sets.specs.Truth.{when◌then◌else◌}
use Rattle.sets.specs.Sets.{has}
use Rattle.sets.proofs.Truth.{when-true, ltb_iff}
use Rattle.model.specs.Lists.{set_at}
use Rattle.model.specs.Hierarchy.{candidate_count, permission_set, direct_permissions, direct_members, immediate_juniors, building, RoleRows}
use Rattle.model.specs.Quality.{weights_allowed, quality}
use Rattle.model.specs.State.{State, roles_of}
use Rattle.model.specs.Record.{built, state_of, sound, juniors_start, members_start, permissions_start, sets_start, Limits, role_rows_of}
use Rattle.model.specs.Machine.Call.{eliminate, review}
use Rattle.model.specs.Claim.{words_after}
use Rattle.model.specs.Calls.{Edited, Told, edit, quality_of}
use Rattle.model.proofs.Record.{sound_iff, read_users, read_permissions, read_count, read_set, rows_back}
use Rattle.model.proofs.Bounds.{weights_allowed_iff}
use Rattle.model.proofs.Conditions.{quality_conditions}
use Rattle.model.proofs.Refusals.{fit_then, weights_check}
use Rattle.model.proofs.Calls.{told_code}
use Rattle.model.proofs.Claim.{claim}
use Rattle.indexes.proofs.Sources.{narrow}
use Rattle.quality.specs.Given.{weights_of, tolerance_of}
use Rattle.stores.specs.Stores.{put_at}
use Rattle.refusals.specs.declared.Refusal.{Refusal}
use Rattle.refusals.proofs.Numbers.{some_number}
use Rattle.calls_edit.specs.declared.Done.{Done}
use Rattle.call_eliminate.specs.Results.{eliminate_result}
use Rattle.call_review.specs.Results.{review_result}
use Rattle.call_quality.specs.Results.{quality_result}
use Rattle.listing.specs.Listing.{plain_weights, plain_tolerance, settled, role_line, roles_text}
use Rattle.text_roles.specs.Lines.{line, lines_to, head_line}
use Rattle.text_roles.specs.Words.{Limited, words_line, words_lines}
use Rattle.text.proofs.Puts.{Put, put_then, put_same}
use Rattle.text_roles.proofs.Puts.{lines_most}

-- ---- elimination and review

-- the record as the calls leave it
eliminated_words : (e : Result Done Refusal) (ws : List ℕ) → (eliminate_result e ws).words ≡ ws
eliminated_words (Ok done) ws = refl
eliminated_words (Err r) ws = refl

reviewed_words : (e : Result Done Refusal) (ws : List ℕ) → (review_result e ws).words ≡ ws
reviewed_words (Ok done) ws = refl
reviewed_words (Err r) ws = refl

pub settle_is : (ws ws1 ws2 : List ℕ) (e : Result Done Refusal) (r : Result Done Refusal) → So (sound ws)
    → eliminate_result e ws1 ≡ edit ws (eliminate (weights_of 1 1 1 1) (tolerance_of 1 1)) → review_result r ws2 ≡ edit ws1 (review (weights_of 1 1 1 1))
    → ws2 ≡ built (settled (state_of ws))
unfolding weights_of tolerance_of plain_weights plain_tolerance settled words_after
settle_is ws ws1 ws2 e r h p q =
    let a : ws1 ≡ (edit ws (eliminate plain_weights plain_tolerance)).words = sym (eliminated_words e ws1) ∙ ap (λ (x : Edited). x.words) p in
    let b : ws2 ≡ (edit ws1 (review plain_weights)).words = sym (reviewed_words r ws2) ∙ ap (λ (x : Edited). x.words) q in
    b ∙ ap (λ (x : List ℕ). (edit x (review plain_weights)).words) a
    ∙ (claim ws h (eliminate plain_weights plain_tolerance ∷ review plain_weights ∷ [])).afresh

-- ---- a record's words

pub sound-limited : (ws : List ℕ) → So (sound ws) → Limited ws
unfolding state_of
sound-limited ws h =
    let s = (sound_iff ws).0 h in
    let c : get_or ws 2 0 ≡ candidate_count (roles_of (state_of ws)) = ap (λ (x : List ℕ). get_or x 2 0) s.3 ∙ read_count (state_of ws) s.1 in
    record { users = s.1.users_most; permissions = s.1.permissions_most; candidates = rw c s.1.candidates_most }

-- where the row of a role stands in the record
row_set : (ws : List ℕ) (k c : ℕ) (s : ℕ) → k < c → get_or ws 2 0 ≡ c → (when ltb k (get_or ws 2 0) then s else 0) ≡ s
row_set ws k c s l e = when-true (ltb k (get_or ws 2 0)) s 0 ((ltb_iff k (get_or ws 2 0)).1 (rw e l))

built-line : (st : State) → Limits st → (k : ℕ) → k < candidate_count (roles_of st) → words_line (built st) k ≡ role_line st k
unfolding words_line role_line role_rows_of building roles_of
built-line st lim k l =
    let few : k < 128 = lt_of_lt_of_le l lim.candidates_most in
    let c = read_count st lim in
    let b = rows_back st lim in
    let s : set_at 4 (built st) (sets_start + 4 * k) ≡ permission_set (roles_of st) k =
    read_set st lim k few (lt_of_lt_of_le ((narrow st lim).inside k l) (pow_mono lim.permissions_most)) in
    let p : set_at 4 (built st) (permissions_start + 4 * k) ≡ direct_permissions (roles_of st) st.standing k =
    sym (row_set (built st) k (candidate_count (roles_of st)) (set_at 4 (built st) (permissions_start + 4 * k)) l c) ∙ ap (λ (x : RoleRows). x.permissions k) b in
    let u : set_at 2 (built st) (members_start + 2 * k) ≡ direct_members (roles_of st) st.standing k =
    sym (row_set (built st) k (candidate_count (roles_of st)) (set_at 2 (built st) (members_start + 2 * k)) l c) ∙ ap (λ (x : RoleRows). x.members k) b in
    let j : set_at 2 (built st) (juniors_start + 2 * k) ≡ immediate_juniors (roles_of st) st.standing k =
    sym (row_set (built st) k (candidate_count (roles_of st)) (set_at 2 (built st) (juniors_start + 2 * k)) l c) ∙ ap (λ (x : RoleRows). x.juniors k) b in
    λ i. line (read_users st lim i) (read_permissions st lim i) (c i) k (s i) (p i) (u i) (j i)

lines_same : (R : ℕ) (f g : ℕ → List ℕ) (k : ℕ) → ((i : ℕ) → i < k → f i ≡ g i) → lines_to R f k ≡ lines_to R g k
unfolding lines_to
lines_same R f g zero e = refl
lines_same R f g (suc k) e =
    let a = lines_same R f g k (λ i l. e i (lt_trans l (lt-suc_self k))) in
    let b = e k (lt-suc_self k) in
    λ i. a i ++ (when has R k then b i else [])

held_standing : (ws : List ℕ) → set_at 2 ws 4 ≡ (state_of ws).standing
unfolding state_of
held_standing ws = refl

-- the lines of a sound record
pub sound_lines : (ws : List ℕ) → So (sound ws)
    → words_lines ws (get_or ws 2 0) ≡ lines_to (state_of ws).standing (role_line (state_of ws)) (candidate_count (roles_of (state_of ws)))
unfolding words_lines
sound_lines ws h =
    let s = (sound_iff ws).0 h in
    let st = state_of ws in
    let c : get_or ws 2 0 ≡ candidate_count (roles_of st) = ap (λ (x : List ℕ). get_or x 2 0) s.3 ∙ read_count st s.1 in
    let R : set_at 2 ws 4 ≡ st.standing = held_standing ws in
    (λ i. lines_to (R i) (words_line (s.3 i)) (c i)) ∙ lines_same st.standing (words_line (built st)) (role_line st) (candidate_count (roles_of st)) (λ k l. built-line st s.1 k l)

-- ---- the head

plain_allowed : So (weights_allowed (weights_of 1 1 1 1))
unfolding weights_of
plain_allowed = (weights_allowed_iff (weights_of 1 1 1 1)).1 (omega arith, omega arith, omega arith, omega arith)

-- of a sound record the quality is told
told : (ws : List ℕ) (r : Result ℕ Refusal) → So (sound ws) → quality_result r ≡ quality_of ws (weights_of 1 1 1 1) → (quality_result r).code ≡ 0
unfolding quality_of weights_of
told ws r h e = ap (λ (t : Told). t.code) e ∙ told_code _ _ ∙ fit_then ws _ h ∙ (weights_check (weights_of 1 1 1 1)).passes plain_allowed

pub quality_told : (ws : List ℕ) (r : Result ℕ Refusal) → So (sound ws) → quality_result r ≡ quality_of ws (weights_of 1 1 1 1) → IsOk r
quality_told ws (Ok q) h e = refl
quality_told ws (Err r) h e = absurd (some_number r (told ws (Err r) h e))

pub quality_is : (ws : List ℕ) (r : Result ℕ Refusal) (q : ℕ) → So (sound ws) → quality_result r ≡ quality_of ws (weights_of 1 1 1 1) → r ≡ Ok q
    → q ≡ quality (roles_of (state_of ws)) plain_weights (state_of ws).standing
unfolding weights_of plain_weights state_of
quality_is ws r q h e is =
    let f : quality_result (Ok q) ≡ quality_of ws (weights_of 1 1 1 1) = rw is at e in
    (quality_conditions ws (weights_of 1 1 1 1) (quality_result (Ok q)) f).condition2 (told ws (Ok q) h f)

pub count_is : (ws : List ℕ) (n s : ℕ) → n ≡ ones s → s ≡ set_at 2 ws 4 → n ≡ ones (state_of ws).standing
unfolding state_of
count_is ws n s e f = e ∙ ap ones f

-- ---- the whole

pub roles_put : (ws l l1 l2 : List ℕ) (r1 r2 n q : ℕ) → So (sound ws) → n ≡ ones (state_of ws).standing
    → q ≡ quality (roles_of (state_of ws)) plain_weights (state_of ws).standing
    → (r1 ≡ length (head_line n q)) × (l1 ≡ put_at l 0 (head_line n q)) × (r1 ≤ 48) → Put l1 r1 (words_lines ws (get_or ws 2 0)) l2 r2
    → (r2 ≡ length (roles_text (state_of ws))) × (l2 ≡ put_at l 0 (roles_text (state_of ws))) × (r2 ≤ 32768)
unfolding roles_text
roles_put ws l l1 l2 r1 r2 n q h e f a b =
    let st = state_of ws in
    let lim = sound-limited ws h in
    let w = put_then l l1 l2 0 r1 r2 (head_line n q) (words_lines ws (get_or ws 2 0)) (a.0 ∙ sym (zero-add (length (head_line n q))), a.1) b in
    let v = put_same l l2 0 r2 (head_line n q ++ words_lines ws (get_or ws 2 0)) (roles_text st) (λ i. head_line (e i) (f i) ++ sound_lines ws h i) w in
    (v.0 ∙ zero-add (length (roles_text st)), v.1, omega (arith, a.2, b.0, lines_most ws (get_or ws 2 0) lim, lim.candidates))
