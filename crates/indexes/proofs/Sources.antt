-- What the tables of a state within the limits give to the functions that read them.
-- Assumes nothing.
use mathlib.Core.Path.{◌≡◌, sym, ◌∙◌, ap}
use mathlib.Core.Bool.{So}
use mathlib.Core.Logic.{◌≢◌}
use mathlib.Core.List.{List}
use Prim.Native.Nat.{ℕ, ◌+◌, ◌*◌, ◌^◌, ◌<◌}
use native.Mathlib.Nat.{lt_of_lt_of_le, lt_irrefl}
use native.Mathlib.Omega.{arith}
use lib.Dec.{ltb}
use lib.Pow.{pow_pos}
use lib.ListN.{length, get_or}
use Rattle.sets.specs.Truth.{when◌then◌else◌}
use Rattle.sets.specs.Sets.{has, ◌∪◌, single, subset, collect}
use Rattle.sets.proofs.Truth.{either, ltb_iff, when-true}
use Rattle.sets.proofs.Members.{same_set}
use Rattle.sets.proofs.Order.{collect_iff, proper_iff}
use Rattle.sets.proofs.Words.{word-zero}
use Rattle.model.specs.Lists.{set_at, rows_at}
use Rattle.model.specs.Candidates.{candidates}
use Rattle.model.specs.Hierarchy.{candidate_count, permission_set, authorised_users}
use Rattle.model.specs.Indexes.{lower, roles_of_user}
use Rattle.model.specs.State.{State, roles_of}
use Rattle.model.proofs.Growing.{growing_place, listed_at}
use Rattle.model.proofs.Candidates.{candidates_growing, candidates_table, proper_lower, row_candidate, candidate_bound}
use Rattle.model.proofs.Lists.{length-rows_at, get_d_rows_at, set_at_words}
use Rattle.model.proofs.Reading.{user_iff}
use Rattle.model.specs.Record.{crew_start, Limits}
use Rattle.model.proofs.Shortcuts.{lower_iff, roles_of_user_iff, user_own, user_none}
use Rattle.tables.specs.Tables.{HoldsSets}
use Rattle.hierarchy.specs.Tables.{Numbered, Narrow}
use Rattle.tables.specs.Search.{Between}
use Rattle.indexes.specs.declared.index.Index.{Index}
use Rattle.indexes.specs.Index.{Indexed}
use Rattle.indexes.specs.Tables.{Source, SourceOf}

-- ---- states within the limits

pub numbered : (st : State) → Limits st → Numbered (roles_of st)
unfolding candidate_count permission_set roles_of
numbered st lim =
    record {
      few = lim.candidates_most;
      lower = proper_lower st.rows;
      distinct = λ j k lj lk e. growing_place (candidates_growing st.rows) j k lj lk e;
    }

pub narrow : (st : State) → Limits st → Narrow (roles_of st)
unfolding candidate_count permission_set roles_of
narrow st lim =
    record {
      few_users = lim.users_most;
      few_permissions = lim.permissions_most;
      inside = λ k l. candidate_bound st.rows (2 ^ st.permissions) (λ u lu. lim.rows_below u (rw lim.rows_count at lu)) (get_or (candidates st.rows) k 0) (listed_at (candidates st.rows) k l);
    }

pub nonempty : (st : State) (k : ℕ) → k < candidate_count (roles_of st) → permission_set (roles_of st) k ≢ 0
unfolding candidate_count permission_set roles_of
nonempty st k l = (candidates_table st.rows).nonempty (get_or (candidates st.rows) k 0) (listed_at (candidates st.rows) k l)

module _ (st : State) (crew : List ℕ) (n : ℕ) (table : List ℕ) (c : ℕ) (src : Source st crew n table c) where
  pub source_count : candidate_count (roles_of st) ≡ c
  unfolding candidate_count roles_of
  source_count = ap length src.sets ∙ length-rows_at c table 0

  pub source_set : (k : ℕ) → k < c → set_at 4 table (4 * k) ≡ permission_set (roles_of st) k
  unfolding permission_set roles_of
  source_set k l =
      let e : 0 + 4 * k ≡ 4 * k = omega arith in
      sym (ap (λ (xs : List ℕ). get_or xs k 0) src.sets ∙ get_d_rows_at c table 0 k l ∙ ap (set_at 4 table) e)

  pub source_row : (u : ℕ) → get_or crew u 0 ≡ get_or st.rows u 0
  source_row u = sym (ap (λ (xs : List ℕ). get_or xs u 0) src.rows)

  -- ---- the roles of a user

  module _ (u x : ℕ) (lu : u < n) (own : x ≡ get_or st.rows u 0) where
    user_in : u < (roles_of st).users
    unfolding roles_of
    user_in = rw src.users lu

    -- an empty row
    pub own_none : x ≡ 0 → roles_of_user (roles_of st) u ≡ 0
    unfolding roles_of
    own_none e = user_none (roles_of st) u (nonempty st) (sym own ∙ e)

    -- a row that is not empty is a candidate, so a search finds it
    pub own_missing : x ≢ 0 → (i : ℕ) → Between c (rows_at c table 0) x i → ⊥
    own_missing d i b =
        let few : u < length st.rows = rw (src.limits.rows_count ∙ src.users) lu in
        let r = row_candidate st.rows u few (λ e. d (own ∙ e)) in
        let lk : r.place < c = rw (length-rows_at c table 0) at (rw src.sets at r.below) in
        let same : get_or (rows_at c table 0) r.place 0 ≡ x = ap (λ (xs : List ℕ). get_or xs r.place 0) (sym src.sets) ∙ r.there ∙ sym own in
        either r.place i (λ l. lt_irrefl x (rw same at (b.before r.place l))) (λ l. lt_irrefl x (rw same at (b.after r.place l lk)))

    -- the role that a search finds is the user's own
    module _ (e : ℕ) (le : e < c) (found : get_or (rows_at c table 0) e 0 ≡ x) where
      pub own_role : permission_set (roles_of st) e ≡ get_or st.rows u 0
      own_role =
          let z : 0 + 4 * e ≡ 4 * e = omega arith in
          sym (source_set e le) ∙ ap (set_at 4 table) (sym z) ∙ sym (get_d_rows_at c table 0 e le) ∙ found ∙ own

      pub own_found : (low : List ℕ) → set_at 2 low (2 * e) ≡ lower (roles_of st) e → (s r : ℕ)
          → s ≡ set_at 2 low (2 * e) → r ≡ (when ltb e 128 then s ∪ single e else s) → r ≡ roles_of_user (roles_of st) u
      unfolding roles_of
      own_found low entry s r es er =
          let ρ = roles_of st in
          let lc : e < candidate_count ρ = rw source_count le in
          let few : e < 128 = lt_of_lt_of_le lc src.limits.candidates_most in
          er ∙ when-true (ltb e 128) (s ∪ single e) s ((ltb_iff e 128).1 few) ∙ ap (λ (y : ℕ). y ∪ single e) (es ∙ entry)
          ∙ sym (user_own ρ u e (numbered st src.limits).distinct user_in lc own_role)

  -- ---- the indexes

  -- of the sets below k, those that lie within S(k) are the lower ones
  pub low_found : (k : ℕ) → k < c → collect k (λ j. subset (set_at 4 table (4 * j)) (set_at 4 table (4 * k))) ≡ lower (roles_of st) k
  low_found k lk =
      let ρ = roles_of st in
      let n' = numbered st src.limits in
      let in_count : (j : ℕ) → j < c → j < candidate_count ρ = λ j l. rw source_count l in
      same_set (collect k (λ j. subset (set_at 4 table (4 * j)) (set_at 4 table (4 * k)))) (lower ρ k)
      (λ j t.
      let a = (collect_iff k (λ j. subset (set_at 4 table (4 * j)) (set_at 4 table (4 * k))) j).0 t in
      let lj : j < c = omega arith in
      let s : So (subset (permission_set ρ j) (permission_set ρ k)) = rw (source_set j lj, source_set k lk) at a.1 in
      (lower_iff ρ k j).1 (
        in_count j lj,
        (proper_iff (permission_set ρ j) (permission_set ρ k)).1
            (s, λ e. lt_irrefl j (let d = n'.distinct j k (in_count j lj) (in_count k lk) e in let b = a.0 in omega arith)),
      ))
      (λ j t.
      let a = (lower_iff ρ k j).0 t in
      let lj : j < c = rw source_count at a.0 in
      let b = n'.lower j k a.0 (in_count k lk) a.1 in
      (collect_iff k (λ j. subset (set_at 4 table (4 * j)) (set_at 4 table (4 * k))) j).1
      (b, rw (source_set j lj, source_set k lk) ((proper_iff (permission_set ρ j) (permission_set ρ k)).0 a.1).0))

  -- the users of a role are a column of the roles of the users
  users_found : (roles : List ℕ) → HoldsSets 2 n (roles_of_user (roles_of st)) roles → (k : ℕ) → k < c
      → collect n (λ u. has (set_at 2 roles (2 * u)) k) ≡ authorised_users (roles_of st) k
  unfolding roles_of
  users_found roles h k lk =
      let ρ = roles_of st in
      same_set (collect n (λ u. has (set_at 2 roles (2 * u)) k)) (authorised_users ρ k)
      (λ u t.
      let a = (collect_iff n (λ u. has (set_at 2 roles (2 * u)) k) u).0 t in
      ((roles_of_user_iff ρ u k).0 (rw (h u a.0) at a.1)).1)
      (λ u t.
      let lu : u < n = rw src.users at ((user_iff ρ k u).0 t).0 in
      (collect_iff n (λ u. has (set_at 2 roles (2 * u)) k) u).1 (lu, rw (h u lu) ((roles_of_user_iff ρ u k).1 (rw source_count lk, t))))

  pub users_held : (roles users : List ℕ) → HoldsSets 2 n (roles_of_user (roles_of st)) roles → HoldsSets 2 c (λ k. collect n (λ u. has (set_at 2 roles (2 * u)) k)) users
      → HoldsSets 2 c (authorised_users (roles_of st)) users
  users_held roles users hr hu k l = hu k l ∙ users_found roles hr k l

  pub indexed : (ix : Index) → HoldsSets 2 c (lower (roles_of st)) ix.lower → HoldsSets 2 n (roles_of_user (roles_of st)) ix.roles
      → HoldsSets 2 c (authorised_users (roles_of st)) ix.users → Indexed (roles_of st) ix
  unfolding roles_of
  indexed ix hl hr hu =
      record {
        lower_roles = λ k l. hl k (rw source_count at l);
        user_roles = λ u l. hr u (rw src.users at l);
        role_users = λ k l. hu k (rw source_count at l);
      }

-- the row of a user, in the record
pub row_in : (st : State) (ws : List ℕ) → SourceOf st ws → (u : ℕ) → u < get_or ws 0 0 → set_at 4 ws (crew_start + 4 * u) ≡ get_or st.rows u 0
row_in st ws src u l = sym (get_d_rows_at (get_or ws 0 0) ws crew_start u l) ∙ source_row st _ _ _ _ src u

-- words that are zero hold the empty set
pub set_at-zero : (w : ℕ) (ws : List ℕ) (at : ℕ) → ((j : ℕ) → j < w → get_or ws (at + j) 0 ≡ 0) → set_at w ws at ≡ 0
set_at-zero w ws at h = set_at_words w 0 ws at (pow_pos (64 * w)) (λ j l. h j l ∙ sym (word-zero j))
