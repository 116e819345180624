-- A record with its header, its crew rows and its candidates.
-- Assumes nothing.
use mathlib.Core.Path.{◌≡◌, refl, sym, ◌∙◌, ap}
use mathlib.Core.Logic.{◌⊎◌, ⊎_elim}
use mathlib.Core.List.{List, [], ◌∷◌}
use Prim.Native.Nat.{ℕ, ◌+◌, ◌*◌, ◌^◌, ◌≤◌, ◌<◌}
use native.Mathlib.Nat.{lt_of_lt_of_le}
use native.Mathlib.Omega.{arith}
use lib.ListN.{length, get_or, take, drop, get_or-eq_default}
use lib.Pow.{pow_mono}
use lib.Seq.{ext_get_or}
use Rattle.sets.specs.Words.{word}
use Rattle.sets.proofs.Truth.{either}
use Rattle.sets.proofs.Members.{digit}
use Rattle.sets.proofs.Words.{word-zero}
use Rattle.model.specs.Lists.{set_at, rows_at}
use Rattle.model.specs.Candidates.{candidates}
use Rattle.model.specs.Hierarchy.{candidate_count, permission_set}
use Rattle.model.specs.Record.{record_length, crew_start, sets_start, header_word, word_at, built, Limits}
use Rattle.model.specs.State.{State, roles_of}
use Rattle.model.proofs.Candidates.{candidates_growing}
use Rattle.model.proofs.Lists.{length-rows_at, get_d_rows_at, set_at_words}
use Rattle.model.proofs.Record.{row_below, standing_small, built_length, built_word, word_head, word_crew, word_set}
use Rattle.stores.specs.Stores.{put_at}
use Rattle.stores.proofs.Stores.{length-put_at, put_at-below, put_at_above, put_at_in}
use Rattle.tables.proofs.Parts.{set_at_part}
use Rattle.mining.specs.Mining.{Written}
use Rattle.indexes.specs.Tables.{FillsFrom, SourceOf}
use Rattle.indexes.proofs.Sources.{narrow}
use Rattle.rows.specs.Partway.{Headed, WithoutRows}
use Rattle.rows_check.proofs.Rows.{word_of}
use Rattle.records.specs.Records.{OnlyCandidates, Described}

-- the header's eight words
pub header_is : (st : State) (n m c r : ℕ) → st.users ≡ n → st.permissions ≡ m → candidate_count (roles_of st) ≡ c → st.standing ≡ r
    → (i : ℕ) → i < 8 → get_or (n ∷ m ∷ c ∷ 0 ∷ word r 0 ∷ word r 1 ∷ 0 ∷ 0 ∷ []) i 0 ≡ header_word st i
unfolding header_word
header_is st n m c r en em ec er i l = rw (sym en, sym em, sym ec, sym er) refl

-- ---- the candidates, written into a record of zeros

pub only_candidates : (ws table xs : List ℕ) → length ws ≡ record_length → ((i : ℕ) → get_or ws i 0 ≡ 0) → Written table xs
    → OnlyCandidates (put_at ws sets_start table) xs
only_candidates ws table xs size zero w =
    let lt : length table ≡ 512 = w.size in
    record {
      size = length-put_at ws sets_start table ∙ size;
      sets = λ k j lk lj.
          let e : sets_start + 4 * k + j ≡ sets_start + (4 * k + j) = omega arith in
          rw e (put_at_in ws sets_start table (4 * k + j) (omega arith) (omega arith) ∙ w.words k j lk lj);
      rest = λ i far.
          ⊎_elim (λ l. put_at-below ws sets_start table i l ∙ zero i) (λ l. put_at_above ws sets_start table i (omega arith) ∙ zero i) far;
    }

-- ---- the header and the crew rows

module _ (st : State) (ws rows crew : List ℕ) (n m c r : ℕ) (d : Described st crew n m c r) (o : OnlyCandidates ws (candidates st.rows))
    (rows_length : length rows ≡ 4 * n) (words : (i : ℕ) → get_or rows i 0 < 2 ^ 64) (are : rows_at n rows 0 ≡ crew) where
  abbrev head : List ℕ
  head = n ∷ m ∷ c ∷ 0 ∷ word r 0 ∷ word r 1 ∷ 0 ∷ 0 ∷ []

  abbrev first : List ℕ
  first = put_at ws 0 (n ∷ m ∷ c ∷ 0 ∷ word r 0 ∷ word r 1 ∷ 0 ∷ 0 ∷ [])

  few : n ≤ 128
  few = rw d.users at d.limits.users_most

  first_length : length first ≡ record_length
  first_length = length-put_at ws 0 head ∙ o.size

  -- behind the header and the rows all is as it was
  behind : (i : ℕ) → 8 + 4 * n ≤ i → get_or (put_at first crew_start rows) i 0 ≡ get_or ws i 0
  behind i l = put_at_above first crew_start rows i (rw rows_length l) ∙ put_at_above ws 0 head i (omega arith)

  row_word_lem : (u j : ℕ) → u < 128 → j < 4 → get_or (put_at first crew_start rows) (crew_start + 4 * u + j) 0 ≡ word (get_or st.rows u 0) j
  row_word_lem u j lu lj =
      either u n
      (λ l.
      let x : crew_start + 4 * u + j ≡ crew_start + (4 * u + j) = omega arith in
      let y : 4 * u + j ≡ 0 + 4 * u + j = omega arith in
      let inside : 4 * u + j < length rows = rw rows_length (omega arith) in
      rw x (put_at_in first crew_start rows (4 * u + j) (rw (rows_length, first_length) (omega arith)) inside)
      ∙ ap (λ (i : ℕ). get_or rows i 0) y
      ∙ word_of 4 rows (0 + 4 * u) j words lj ∙ ap (λ (s : ℕ). word s j) (sym (ap (λ (l : List ℕ). get_or l u 0) (d.rows ∙ sym are) ∙ get_d_rows_at n rows 0 u l)))
      (λ l.
      let far : length st.rows ≤ u = rw (d.limits.rows_count ∙ d.users) l in
      behind (crew_start + 4 * u + j) (omega arith) ∙ o.rest (crew_start + 4 * u + j) (◌⊎◌.inl (omega arith)) ∙ sym (word-zero j)
      ∙ ap (λ (s : ℕ). word s j) (sym (get_or-eq_default st.rows 0 far)))

  pub begun : WithoutRows st (put_at (put_at ws 0 (n ∷ m ∷ c ∷ 0 ∷ word r 0 ∷ word r 1 ∷ 0 ∷ 0 ∷ [])) crew_start rows)
  unfolding permission_set roles_of
  begun =
      let b = few in
      record {
        headed = record {
          size = length-put_at first crew_start rows ∙ first_length;
          head = λ i l.
              put_at-below first crew_start rows i l ∙ in_head i l ∙ header_is st n m c r d.users d.permissions d.count d.standing i l;
          crew = row_word_lem;
          sets = λ k j lk lj. behind (sets_start + 4 * k + j) (omega arith) ∙ o.sets k j lk lj;
        };
        zero = λ i far l. behind i (omega arith) ∙ o.rest i (◌⊎◌.inr far);
      }
    where
      in_head : (i : ℕ) → i < 8 → get_or first i 0 ≡ get_or head i 0
      in_head i l = let z : 0 + i ≡ i = omega arith in rw z at (put_at_in ws 0 head i (rw o.size (omega arith)) l)

-- ---- what such a record gives to the functions that fill tables

module _ (st : State) (lim : Limits st) (ws : List ℕ) (h : Headed st ws) where
  pub head_users : get_or ws 0 0 ≡ st.users
  unfolding header_word
  head_users = h.head 0 (omega arith)

  pub head_count : get_or ws 2 0 ≡ candidate_count (roles_of st)
  unfolding header_word
  head_count = h.head 2 (omega arith)

  pub head_standing : set_at 2 ws 4 ≡ st.standing
  unfolding header_word
  head_standing = set_at_words 2 st.standing ws 4 (standing_small st lim) (λ j l. h.head (4 + j) (omega arith) ∙ marks j l)
    where
      marks : (j : ℕ) → j < 2 → header_word st (4 + j) ≡ word st.standing j
      marks j l = digit j l (λ (e : j ≡ 0). rw e refl) (λ (e : j ≡ 1). rw e refl)

  head_rows : st.rows ≡ rows_at (get_or ws 0 0) ws crew_start
  head_rows =
      sym (rw head_users
      (ext_get_or 0 (rows_at st.users ws crew_start) st.rows (length-rows_at st.users ws crew_start ∙ sym lim.rows_count)
      (λ u b.
      let l : u < st.users = rw (length-rows_at st.users ws crew_start) at b in
      let small : u < 128 = lt_of_lt_of_le l lim.users_most in
      get_d_rows_at st.users ws crew_start u l ∙ set_at_words 4 (get_or st.rows u 0) ws (crew_start + 4 * u) (row_below st lim u) (λ j lj. h.crew u j small lj))))

  head_sets : candidates st.rows ≡ rows_at (get_or ws 2 0) (take 512 (drop sets_start ws)) 0
  unfolding candidate_count permission_set roles_of
  head_sets =
      let xs = candidates st.rows in
      let table = take 512 (drop sets_start ws) in
      sym (rw head_count
      (ext_get_or 0 (rows_at (length xs) table 0) xs (length-rows_at (length xs) table 0)
      (λ k b.
      let l : k < length xs = rw (length-rows_at (length xs) table 0) at b in
      let few = lim.candidates_most in
      let z : 0 + 4 * k ≡ 4 * k = omega arith in
      get_d_rows_at (length xs) table 0 k l ∙ ap (set_at 4 table) z ∙ set_at_part 4 sets_start 512 ws (4 * k) (omega arith)
      ∙ set_at_words 4 (get_or xs k 0) ws (sets_start + 4 * k) (lt_of_lt_of_le ((narrow st lim).inside k l) (pow_mono lim.permissions_most)) (λ j lj. h.sets k j (omega arith) lj))))

  pub headed_source : SourceOf st ws
  headed_source = record { limits = lim; users = sym head_users; rows = head_rows; sets = head_sets }

  pub headed_fills : FillsFrom ws
  headed_fills =
      record {
        few_users = rw head_users lim.users_most;
        few_candidates = rw head_count lim.candidates_most;
        grows = rw (sym head_sets) (candidates_growing st.rows);
      }

-- a record that is built afresh has all that
pub built_headed : (st : State) (ws : List ℕ) → ws ≡ built st → Headed st ws
built_headed st ws e =
    let was : (i : ℕ) → i < record_length → get_or ws i 0 ≡ word_at st i = λ i l. ap (λ (l : List ℕ). get_or l i 0) e ∙ built_word st i l in
    record {
      size = ap length e ∙ built_length st;
      head = λ i l. was i (omega arith) ∙ word_head st i l;
      crew = λ u j lu lj. was (crew_start + 4 * u + j) (omega arith) ∙ word_crew st u j lu lj;
      sets = λ k j lk lj. was (sets_start + 4 * k + j) (omega arith) ∙ word_set st k j lk lj;
    }
