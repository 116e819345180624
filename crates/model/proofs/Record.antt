-- The record, word by word: what stands in each region, that a record reads back as the state it was built from, and that sound means what the
-- paper says.
-- Assumes nothing.
use mathlib.Core.Path.{◌≡◌, refl, sym, ◌∙◌, ap, ap₂, fun_ext}
use mathlib.Core.Bool.{So}
use mathlib.Core.Logic.{◌↔◌}
use mathlib.Core.List.{List}
use Prim.Native.Nat.{ℕ, zero, suc, ◌+◌, ◌-◌, ◌*◌, ◌/◌, ◌%◌, ◌^◌, ◌<◌, ◌≤◌}
use native.Mathlib.Nat.{lt_of_lt_of_le}
use native.Mathlib.Omega.{arith}
use lib.Dec.{eqb, ltb}
use lib.Pow.{pow_mono, pow_pos}
use lib.ListN.{length, get_or, get_or-eq_default}
use lib.Seq.{ext_get_or}
use borrow.Author.Tests.{lt-ltb, le-ltb}
use Rattle.sets.specs.Truth.{◌and◌, when◌then◌else◌, all}
use Rattle.sets.specs.Sets.{has}
use Rattle.sets.specs.Words.{word}
use Rattle.sets.proofs.Members.{digit, has_above}
use Rattle.sets.proofs.Order.{collect_lt}
use Rattle.sets.proofs.Words.{word_lt}
use Rattle.sets.proofs.Truth.{So-not, and_iff, eqb_iff, all_iff, when-true, when-false, either, reflect}
use Rattle.model.specs.Lists.{set_at, rows_at}
use Rattle.model.specs.Hierarchy.{Roles, candidate_count, permission_set, authorised_users, senior, immediately_senior, immediate_juniors, direct_permissions, direct_members, building}
use Rattle.model.specs.Coverage.{all_covered}
use Rattle.model.specs.State.{State, most_users, most_permissions, most_candidates, roles_of, within_limits, rows_within}
use Rattle.model.specs.Record.{record_length, crew_start, sets_start, permissions_start, members_start, juniors_start, header_word, region_word, word_at, built, state_of, role_rows_of, state_sound, sound, Limits}
use Rattle.model.proofs.Direct.{direct_lt}
use Rattle.model.proofs.Building.{absent_juniors, absent_permissions, absent_members}
use Rattle.model.proofs.Lists.{length-tabulate, get_d_tabulate, tabulate_is, set_at_words, length-rows_at, get_d_rows_at}

-- ---- the regions

-- every word is in the header or in one of five regions, at an entry k and a word j of it
pub by_region {ℓ} : (P : ℕ → Type ℓ)
    → ((i : ℕ) → i < 8 → P i)
    → ((u j : ℕ) → u < 128 → j < 4 → P (crew_start + 4 * u + j))
    → ((k j : ℕ) → k < 128 → j < 4 → P (sets_start + 4 * k + j))
    → ((k j : ℕ) → k < 128 → j < 4 → P (permissions_start + 4 * k + j))
    → ((k j : ℕ) → k < 128 → j < 2 → P (members_start + 2 * k + j))
    → ((k j : ℕ) → k < 128 → j < 2 → P (juniors_start + 2 * k + j))
    → (i : ℕ) → i < record_length → P i
by_region P head crew sets permissions members juniors i h =
    either i 8 (λ l. head i l)
    (λ l8.
    either i 520
    (λ l. let e : 8 + 4 * ((i - 8) / 4) + (i - 8) % 4 ≡ i = omega arith in rw e at (crew ((i - 8) / 4) ((i - 8) % 4) (omega arith) (omega arith)))
    (λ l520.
    either i 1032
    (λ l. let e : 520 + 4 * ((i - 520) / 4) + (i - 520) % 4 ≡ i = omega arith in rw e at (sets ((i - 520) / 4) ((i - 520) % 4) (omega arith) (omega arith)))
    (λ l1032.
    either i 1544
    (λ l. let e : 1032 + 4 * ((i - 1032) / 4) + (i - 1032) % 4 ≡ i = omega arith in rw e at (permissions ((i - 1032) / 4) ((i - 1032) % 4) (omega arith) (omega arith)))
    (λ l1544.
    either i 1800
    (λ l. let e : 1544 + 2 * ((i - 1544) / 2) + (i - 1544) % 2 ≡ i = omega arith in rw e at (members ((i - 1544) / 2) ((i - 1544) % 2) (omega arith) (omega arith)))
    (λ l1800.
    let e : 1800 + 2 * ((i - 1800) / 2) + (i - 1800) % 2 ≡ i = omega arith in rw e at (juniors ((i - 1800) / 2) ((i - 1800) % 2) (omega arith) (omega arith)))))))

-- word j of entry k, at the place where the record has it
region4 : (f : ℕ → ℕ) (start k j : ℕ) → j < 4 → region_word 4 f (start + 4 * k + j - start) ≡ word (f k) j
unfolding region_word
region4 f start k j h =
    let a : (start + 4 * k + j - start) / 4 ≡ k = omega arith in
    let b : (start + 4 * k + j - start) % 4 ≡ j = omega arith in
    ap₂ (λ (x y : ℕ). word (f x) y) a b

region2 : (f : ℕ → ℕ) (start k j : ℕ) → j < 2 → region_word 2 f (start + 2 * k + j - start) ≡ word (f k) j
unfolding region_word
region2 f start k j h =
    let a : (start + 2 * k + j - start) / 2 ≡ k = omega arith in
    let b : (start + 2 * k + j - start) % 2 ≡ j = omega arith in
    ap₂ (λ (x y : ℕ). word (f x) y) a b

-- past a region's end, and inside it
skip : (i n a b : ℕ) → n ≤ i → (when ltb i n then a else b) ≡ b
skip i n a b h = when-false (ltb i n) a b (le-ltb i n h)

take_it : (i n a b : ℕ) → i < n → (when ltb i n then a else b) ≡ a
take_it i n a b h = when-true (ltb i n) a b (lt-ltb i n h)

module _ (st : State) where
  pub word_head : (i : ℕ) → i < 8 → word_at st i ≡ header_word st i
  unfolding word_at
  word_head i h = take_it i crew_start _ _ h

  pub word_crew : (u j : ℕ) → u < 128 → j < 4 → word_at st (crew_start + 4 * u + j) ≡ word (get_or st.rows u 0) j
  unfolding word_at
  word_crew u j lu lj =
      skip (crew_start + 4 * u + j) crew_start _ _ (omega arith) ∙ take_it (crew_start + 4 * u + j) sets_start _ _ (omega arith)
      ∙ region4 (λ u. get_or st.rows u 0) crew_start u j lj

  pub word_set : (k j : ℕ) → k < 128 → j < 4 → word_at st (sets_start + 4 * k + j) ≡ word (permission_set (roles_of st) k) j
  unfolding word_at
  word_set k j lk lj =
      skip (sets_start + 4 * k + j) crew_start _ _ (omega arith) ∙ skip (sets_start + 4 * k + j) sets_start _ _ (omega arith)
      ∙ take_it (sets_start + 4 * k + j) permissions_start _ _ (omega arith) ∙ region4 (permission_set (roles_of st)) sets_start k j lj

  pub word_permissions : (k j : ℕ) → k < 128 → j < 4
      → word_at st (permissions_start + 4 * k + j) ≡ word (direct_permissions (roles_of st) st.standing k) j
  unfolding word_at
  word_permissions k j lk lj =
      skip (permissions_start + 4 * k + j) crew_start _ _ (omega arith) ∙ skip (permissions_start + 4 * k + j) sets_start _ _ (omega arith)
      ∙ skip (permissions_start + 4 * k + j) permissions_start _ _ (omega arith)
      ∙ take_it (permissions_start + 4 * k + j) members_start _ _ (omega arith)
      ∙ region4 (direct_permissions (roles_of st) st.standing) permissions_start k j lj

  pub word_members : (k j : ℕ) → k < 128 → j < 2 → word_at st (members_start + 2 * k + j) ≡ word (direct_members (roles_of st) st.standing k) j
  unfolding word_at
  word_members k j lk lj =
      skip (members_start + 2 * k + j) crew_start _ _ (omega arith) ∙ skip (members_start + 2 * k + j) sets_start _ _ (omega arith)
      ∙ skip (members_start + 2 * k + j) permissions_start _ _ (omega arith) ∙ skip (members_start + 2 * k + j) members_start _ _ (omega arith)
      ∙ take_it (members_start + 2 * k + j) juniors_start _ _ (omega arith)
      ∙ region2 (direct_members (roles_of st) st.standing) members_start k j lj

  pub word_juniors : (k j : ℕ) → k < 128 → j < 2 → word_at st (juniors_start + 2 * k + j) ≡ word (immediate_juniors (roles_of st) st.standing k) j
  unfolding word_at
  word_juniors k j lk lj =
      skip (juniors_start + 2 * k + j) crew_start _ _ (omega arith) ∙ skip (juniors_start + 2 * k + j) sets_start _ _ (omega arith)
      ∙ skip (juniors_start + 2 * k + j) permissions_start _ _ (omega arith) ∙ skip (juniors_start + 2 * k + j) members_start _ _ (omega arith)
      ∙ skip (juniors_start + 2 * k + j) juniors_start _ _ (omega arith)
      ∙ region2 (immediate_juniors (roles_of st) st.standing) juniors_start k j lj

  pub built_length : length (built st) ≡ record_length
  unfolding built
  built_length = length-tabulate record_length (word_at st)

  pub built_word : (i : ℕ) → i < record_length → get_or (built st) i 0 ≡ word_at st i
  unfolding built
  built_word i h = get_d_tabulate record_length (word_at st) i h

-- ---- the paper's limits, each by its name

pub within_limits_iff : (n m : ℕ) → So (within_limits n m) ↔ ((1 ≤ n) × (n ≤ most_users) × (1 ≤ m) × (m ≤ most_permissions))
unfolding within_limits
within_limits_iff n m = (
  λ h.
      let x : (((1 ≤ n) × (n ≤ most_users)) × (1 ≤ m)) × (m ≤ most_permissions) = simp reflect at h in (x.0.0.0, x.0.0.1, x.0.1, x.1),
  λ f. simp reflect (((f.0, f.1), f.2), f.3),
)

pub rows_within_iff : (m : ℕ) (rows : List ℕ) → So (rows_within m rows) ↔ ((u : ℕ) → u < length rows → get_or rows u 0 < 2 ^ m)
unfolding rows_within
rows_within_iff m rows = (λ h. simp reflect at h, λ f. simp reflect f)

pub state_sound_iff : (st : State) → So (state_sound st) ↔ (Limits st × So (all_covered (roles_of st) st.standing))
unfolding state_sound
state_sound_iff st =
    let n = st.users in
    let m = st.permissions in
    let c = candidate_count (roles_of st) in (
      λ h.
          let x : (((((So (within_limits n m) × (length st.rows ≡ n)) × So (rows_within m st.rows)) × (c ≤ most_candidates)) × (st.standing < 2 ^ c))
          × So (all_covered (roles_of st) st.standing)) =
          simp reflect at h in
          let w = (within_limits_iff n m).0 x.0.0.0.0.0 in
          let e : length st.rows ≡ n = x.0.0.0.0.1 in (
            record {
              users_some = w.0;
              users_most = w.1;
              permissions_some = w.2;
              permissions_most = w.3;
              rows_count = e;
              rows_below = λ u l. (rows_within_iff m st.rows).0 x.0.0.0.1 u (rw e l);
              candidates_most = x.0.0.1;
              standing_below = x.0.1;
            },
            x.1,
          ),
      λ f.
          let l = f.0 in
          let kept = (within_limits_iff n m).1 (l.users_some, l.users_most, l.permissions_some, l.permissions_most) in
          let rows = (rows_within_iff m st.rows).1 (λ u b. l.rows_below u (rw l.rows_count at b)) in
          simp reflect (((((kept, l.rows_count), rows), l.candidates_most), l.standing_below), f.1),
    )

-- "A record is sound when", part by part
pub sound_iff : (ws : List ℕ)
    → So (sound ws) ↔ ((length ws ≡ record_length) × Limits (state_of ws) × So (all_covered (roles_of (state_of ws)) (state_of ws).standing) × (ws ≡ built (state_of ws)))
unfolding sound built
sound_iff ws =
    let st = state_of ws in
    let t3 = all record_length (λ i. eqb (get_or ws i 0) (word_at st i)) in (
      λ h.
          let a = (and_iff (eqb (length ws) record_length and state_sound st) t3).0 h in
          let b = (and_iff (eqb (length ws) record_length) (state_sound st)).0 a.0 in
          let e = (eqb_iff (length ws) record_length).0 b.0 in
          let s = (state_sound_iff st).0 b.1 in (
            e,
            s.0,
            s.1,
            tabulate_is record_length (word_at st) ws e
                (λ i l. (eqb_iff (get_or ws i 0) (word_at st i)).0 ((all_iff record_length (λ i. eqb (get_or ws i 0) (word_at st i))).0 a.1 i l)),
          ),
      λ f.
          (and_iff (eqb (length ws) record_length and state_sound st) t3).1 (
            (and_iff (eqb (length ws) record_length) (state_sound st)).1 ((eqb_iff (length ws) record_length).1 f.0, (state_sound_iff st).1 (f.1, f.2)),
            (all_iff record_length (λ i. eqb (get_or ws i 0) (word_at st i))).1
                (λ i l. (eqb_iff (get_or ws i 0) (word_at st i)).1 (ap (λ (x : List ℕ). get_or x i 0) f.3 ∙ get_d_tabulate record_length (word_at st) i l)),
          ),
    )

-- ---- bounds of the rows

pub immediate_juniors_lt : (ρ : Roles) (R k : ℕ) → immediate_juniors ρ R k < 2 ^ candidate_count ρ
unfolding immediate_juniors
immediate_juniors_lt ρ R k = collect_lt (candidate_count ρ) (λ j. immediately_senior ρ R k j)

pub direct_permissions_lt : (ρ : Roles) (R k : ℕ) → direct_permissions ρ R k < 2 ^ ρ.permissions
unfolding direct_permissions
direct_permissions_lt ρ R = direct_lt ρ.permissions (candidate_count ρ) R (λ j k. senior ρ R k j) (permission_set ρ)

pub direct_members_lt : (ρ : Roles) (R k : ℕ) → direct_members ρ R k < 2 ^ ρ.users
unfolding direct_members
direct_members_lt ρ R = direct_lt ρ.users (candidate_count ρ) R (senior ρ R) (authorised_users ρ)

-- ---- a record reads back as the state that it was built from

module _ (st : State) (lim : Limits st) where
  -- no row outside the crew list, no bit outside m
  pub row_below : (u : ℕ) → get_or st.rows u 0 < 2 ^ 256
  row_below u =
      either u st.users (λ l. lt_of_lt_of_le (lim.rows_below u l) (pow_mono lim.permissions_most))
      (λ l.
      let e : get_or st.rows u 0 ≡ 0 = get_or-eq_default st.rows 0 (rw lim.rows_count l) in
      rw e (pow_pos 256))

  pub standing_small : st.standing < 2 ^ 128
  standing_small = lt_of_lt_of_le lim.standing_below (pow_mono lim.candidates_most)

  pub read_users : get_or (built st) 0 0 ≡ st.users
  unfolding header_word
  read_users = built_word st 0 (omega arith) ∙ word_head st 0 (omega arith)

  pub read_permissions : get_or (built st) 1 0 ≡ st.permissions
  unfolding header_word
  read_permissions = built_word st 1 (omega arith) ∙ word_head st 1 (omega arith)

  pub read_count : get_or (built st) 2 0 ≡ candidate_count (roles_of st)
  unfolding header_word
  read_count = built_word st 2 (omega arith) ∙ word_head st 2 (omega arith)

  -- "3, 6 and 7: zero"
  pub read_zeros : (get_or (built st) 3 0 ≡ 0) × (get_or (built st) 6 0 ≡ 0) × (get_or (built st) 7 0 ≡ 0)
  unfolding header_word
  read_zeros = (
    built_word st 3 (omega arith) ∙ word_head st 3 (omega arith),
    built_word st 6 (omega arith) ∙ word_head st 6 (omega arith),
    built_word st 7 (omega arith) ∙ word_head st 7 (omega arith),
  )

  pub read_standing : set_at 2 (built st) 4 ≡ st.standing
  unfolding header_word
  read_standing = set_at_words 2 st.standing (built st) 4 standing_small (λ j l. built_word st (4 + j) (omega arith) ∙ word_head st (4 + j) (omega arith) ∙ marks j l)
    where
      marks : (j : ℕ) → j < 2 → header_word st (4 + j) ≡ word st.standing j
      marks j l = digit j l (λ (e : j ≡ 0). rw e refl) (λ (e : j ≡ 1). rw e refl)

  pub read_row : (u : ℕ) → u < 128 → set_at 4 (built st) (crew_start + 4 * u) ≡ get_or st.rows u 0
  read_row u l =
      set_at_words 4 (get_or st.rows u 0) (built st) (crew_start + 4 * u) (row_below u)
      (λ j b. built_word st (crew_start + 4 * u + j) (omega arith) ∙ word_crew st u j l b)

  pub read_set : (k : ℕ) → k < 128 → permission_set (roles_of st) k < 2 ^ 256 → set_at 4 (built st) (sets_start + 4 * k) ≡ permission_set (roles_of st) k
  read_set k l b =
      set_at_words 4 (permission_set (roles_of st) k) (built st) (sets_start + 4 * k) b
      (λ j lj. built_word st (sets_start + 4 * k + j) (omega arith) ∙ word_set st k j l lj)

  pub permissions_small : (k : ℕ) → direct_permissions (roles_of st) st.standing k < 2 ^ 256
  unfolding roles_of
  permissions_small k = lt_of_lt_of_le (direct_permissions_lt (roles_of st) st.standing k) (pow_mono lim.permissions_most)

  pub members_small : (k : ℕ) → direct_members (roles_of st) st.standing k < 2 ^ 128
  unfolding roles_of
  members_small k = lt_of_lt_of_le (direct_members_lt (roles_of st) st.standing k) (pow_mono lim.users_most)

  pub juniors_small : (k : ℕ) → immediate_juniors (roles_of st) st.standing k < 2 ^ 128
  juniors_small k = lt_of_lt_of_le (immediate_juniors_lt (roles_of st) st.standing k) (pow_mono lim.candidates_most)

  -- "a record built from a state within the limits reads back as that state"
  pub state_back : state_of (built st) ≡ st
  unfolding state_of
  state_back =
      let rows_back : rows_at (get_or (built st) 0 0) (built st) crew_start ≡ st.rows =
      rw read_users
      (ext_get_or 0 (rows_at st.users (built st) crew_start) st.rows (length-rows_at st.users (built st) crew_start ∙ sym lim.rows_count)
      (λ u b.
      let l : u < st.users = rw (length-rows_at st.users (built st) crew_start) at b in
      get_d_rows_at st.users (built st) crew_start u l ∙ read_row u (lt_of_lt_of_le l lim.users_most))) in
      λ i. record { users = read_users i; permissions = read_permissions i; rows = rows_back i; standing = read_standing i }

  -- and its rows as the building
  pub rows_back : role_rows_of (built st) ≡ building (roles_of st) st.standing
  unfolding role_rows_of building
  rows_back =
      let ρ = roles_of st in
      let R = st.standing in
      let small : (k : ℕ) → k < candidate_count ρ → k < 128 = λ k l. lt_of_lt_of_le l lim.candidates_most in
      let absent : (k : ℕ) → candidate_count ρ ≤ k → So (has R k) → ⊥ = λ k l h. So-not (has_above (candidate_count ρ) R k lim.standing_below l) h in
      let back : (k w start : ℕ) (f : ℕ → ℕ) → f k < 2 ^ (64 * w) → ((So (has R k) → ⊥) → f k ≡ 0)
      → ((j : ℕ) → k < 128 → j < w → get_or (built st) (start + w * k + j) 0 ≡ word (f k) j)
      → (when ltb k (get_or (built st) 2 0) then set_at w (built st) (start + w * k) else 0) ≡ f k =
      λ k w start f b z h.
      rw read_count
      (either k (candidate_count ρ) (λ l. take_it k (candidate_count ρ) _ _ l ∙ set_at_words w (f k) (built st) (start + w * k) b (λ j lj. h j (small k l) lj))
      (λ l. skip k (candidate_count ρ) _ _ l ∙ sym (z (absent k l)))) in
      λ i.
      record {
        juniors =
            fun_ext
            (λ k.
            back k 2 juniors_start (immediate_juniors ρ R) (juniors_small k) (absent_juniors ρ R k)
            (λ j l lj. built_word st (juniors_start + 2 * k + j) (omega arith) ∙ word_juniors st k j l lj)) i;
        permissions =
            fun_ext
            (λ k.
            back k 4 permissions_start (direct_permissions ρ R) (permissions_small k) (absent_permissions ρ R k)
            (λ j l lj. built_word st (permissions_start + 4 * k + j) (omega arith) ∙ word_permissions st k j l lj)) i;
        members =
            fun_ext
            (λ k.
            back k 2 members_start (direct_members ρ R) (members_small k) (absent_members ρ R k)
            (λ j l lj. built_word st (members_start + 2 * k + j) (omega arith) ∙ word_members st k j l lj)) i;
      }

  -- "and is sound"
  pub built_sound : So (all_covered (roles_of st) st.standing) → So (sound (built st))
  built_sound all =
      let e = state_back in
      (sound_iff (built st)).1 (built_length st, rw e lim, rw e all, ap built (sym e))

head_fits : (st : State) → Limits st → (i : ℕ) → header_word st i < 2 ^ 64
unfolding header_word
head_fits st lim zero = omega (arith, lim.users_most)
head_fits st lim (suc zero) = omega (arith, lim.permissions_most)
head_fits st lim (suc (suc zero)) = omega (arith, lim.candidates_most)
head_fits st lim (suc (suc (suc zero))) = omega arith
head_fits st lim (suc (suc (suc (suc zero)))) = word_lt st.standing 0
head_fits st lim (suc (suc (suc (suc (suc zero))))) = word_lt st.standing 1
head_fits st lim (suc (suc (suc (suc (suc (suc zero)))))) = omega arith
head_fits st lim (suc (suc (suc (suc (suc (suc (suc zero))))))) = omega arith
head_fits st lim (suc (suc (suc (suc (suc (suc (suc (suc i)))))))) = omega arith

-- each word of a record that is built afresh is a word
pub word_fits : (st : State) → Limits st → (i : ℕ) → i < record_length → word_at st i < 2 ^ 64
word_fits st lim =
    by_region (λ i. word_at st i < 2 ^ 64) (λ i l. rw (word_head st i l) (head_fits st lim i))
    (λ u j lu lj. rw (word_crew st u j lu lj) (word_lt (get_or st.rows u 0) j))
    (λ k j lk lj. rw (word_set st k j lk lj) (word_lt (permission_set (roles_of st) k) j))
    (λ k j lk lj. rw (word_permissions st k j lk lj) (word_lt (direct_permissions (roles_of st) st.standing k) j))
    (λ k j lk lj. rw (word_members st k j lk lj) (word_lt (direct_members (roles_of st) st.standing k) j))
    (λ k j lk lj. rw (word_juniors st k j lk lj) (word_lt (immediate_juniors (roles_of st) st.standing k) j))

-- a sound record is what is built from its own state
pub sound-built : (ws : List ℕ) → So (sound ws) → ws ≡ built (state_of ws)
sound-built ws h = ((sound_iff ws).0 h).3
