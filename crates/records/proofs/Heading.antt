-- A record's header, crew rows and candidates, held against those of the state that it holds.
-- Assumes nothing.
use mathlib.Core.Path.{◌≡◌, refl, sym, ◌∙◌, ap}
use mathlib.Core.Bool.{So}
use mathlib.Core.List.{List, [], ◌∷◌}
use Prim.Native.Nat.{ℕ, ◌+◌, ◌-◌, ◌*◌, ◌/◌, ◌%◌, ◌^◌, ◌≤◌, ◌<◌}
use native.Mathlib.Omega.{arith}
use lib.Dec.{eqb}
use lib.ListN.{length, get_or, get_or-eq_default}
use Rattle.sets.specs.Truth.{all}
use Rattle.sets.specs.Words.{word}
use Rattle.sets.proofs.Truth.{all_iff, eqb_iff}
use Rattle.sets.proofs.Members.{digit}
use Rattle.model.specs.Lists.{elems, set_at, rows_at}
use Rattle.model.specs.Candidates.{candidates}
use Rattle.model.specs.Hierarchy.{candidate_count, permission_set}
use Rattle.model.specs.Record.{record_length, crew_start, sets_start, header_word, state_of}
use Rattle.model.specs.State.{State, roles_of}
use Rattle.model.proofs.Lists.{get_d_elems, length-rows_at, get_d_rows_at}
use Rattle.mining.specs.Mining.{Written}
use Rattle.rows.specs.Partway.{Headed}
use Rattle.rows_check.proofs.Rows.{word_of, region_of, region_none, behind4}
use Rattle.records.specs.Records.{UnusedZero}

-- eight words that are those of a state's header
header_words : (st : State) (a b c d e f g h : ℕ) → a ≡ st.users → b ≡ st.permissions → c ≡ candidate_count (roles_of st) → d ≡ 0
    → e ≡ word st.standing 0 → f ≡ word st.standing 1 → g ≡ 0 → h ≡ 0
    → (i : ℕ) → get_or (a ∷ b ∷ c ∷ d ∷ e ∷ f ∷ g ∷ h ∷ []) i 0 ≡ header_word st i
unfolding header_word
header_words st a b c d e f g h ea eb ec ed ee ef eg eh i = rw (ea, eb, ec, ed, ee, ef, eg, eh) refl

module _ (ws table : List ℕ) (c : ℕ) (fits : (i : ℕ) → get_or ws i 0 < 2 ^ 64) (full : length ws ≡ record_length) (few : get_or ws 0 0 ≤ 128)
    (count : c ≡ length (candidates (state_of ws).rows)) (w : Written table (candidates (state_of ws).rows)) where
  abbrev n : ℕ
  n = get_or ws 0 0

  counted : candidate_count (roles_of (state_of ws)) ≡ c
  unfolding roles_of candidate_count
  counted = sym count

  no_row : (u : ℕ) → get_or ws 0 0 ≤ u → get_or (state_of ws).rows u 0 ≡ 0
  unfolding state_of
  no_row u l = get_or-eq_default (rows_at n ws crew_start) 0 (rw (length-rows_at n ws crew_start) l)

  same_row : (u : ℕ) → u < get_or ws 0 0 → set_at 4 ws (crew_start + 4 * u) ≡ get_or (state_of ws).rows u 0
  unfolding state_of
  same_row u l = sym (get_d_rows_at n ws crew_start u l)

  -- the parts tell that the record is in order before its rows
  pub headed_of : get_or ws 2 0 ≡ c → UnusedZero ws (get_or ws 0 0) → So (all (length table) (λ i. eqb (get_or ws (sets_start + i) 0) (get_or table i 0)))
      → Headed (state_of ws) ws
  unfolding elems state_of roles_of permission_set
  headed_of ec z same =
      record {
        size = full;
        head = head_is;
        crew = region_of 4 crew_start n sets_start (λ u. get_or (state_of ws).rows u 0) ws fits refl same_row no_row z.behind;
        sets = sets_are;
      }
    where
      head_is : (i : ℕ) → i < 8 → get_or ws i 0 ≡ header_word (state_of ws) i
      head_is i l =
          let e : 0 + i ≡ i = omega arith in
          ap (λ (k : ℕ). get_or ws k 0) (sym e) ∙ sym (get_d_elems ws 0 8 i l)
          ∙ header_words (state_of ws) n (get_or ws 1 0) (get_or ws 2 0) (get_or ws 3 0) (get_or ws 4 0) (get_or ws 5 0) (get_or ws 6 0) (get_or ws 7 0) refl refl (ec ∙ sym counted)
          (z.third.each 3 (omega arith) (omega arith)) (word_of 2 ws 4 0 fits (omega arith)) (word_of 2 ws 4 1 fits (omega arith))
          (z.last.each 6 (omega arith) (omega arith)) (z.last.each 7 (omega arith) (omega arith)) i

      sets_are : (k j : ℕ) → k < 128 → j < 4 → get_or ws (sets_start + 4 * k + j) 0 ≡ word (permission_set (roles_of (state_of ws)) k) j
      sets_are k j lk lj =
          let e : sets_start + (4 * k + j) ≡ sets_start + 4 * k + j = omega arith in
          let inside : 4 * k + j < length table = rw w.size (omega arith) in
          ap (λ (i : ℕ). get_or ws i 0) (sym e) ∙ (eqb_iff _ _).0 ((all_iff (length table) _).0 same (4 * k + j) inside) ∙ w.words k j lk lj

  module _ (h : Headed (state_of ws) ws) where
    pub headed_count : get_or ws 2 0 ≡ c
    unfolding header_word
    headed_count = h.head 2 (omega arith) ∙ counted

    pub headed_unused : UnusedZero ws (get_or ws 0 0)
    unfolding header_word
    headed_unused =
        record {
          third = record { each = λ i a b. let e : i ≡ 3 = omega arith in rw e (h.head 3 (omega arith)) };
          last = record {
            each = λ i a b. digit (i - 6) (omega arith)
                (λ (d : i - 6 ≡ 0). let e : i ≡ 6 = omega arith in rw e (h.head 6 (omega arith)))
                (λ (d : i - 6 ≡ 1). let e : i ≡ 7 = omega arith in rw e (h.head 7 (omega arith)));
          };
          behind = region_none 4 crew_start n sets_start (λ u. get_or (state_of ws).rows u 0) ws (behind4 crew_start n) no_row h.crew;
        }

    pub headed_table : So (all (length table) (λ i. eqb (get_or ws (sets_start + i) 0) (get_or table i 0)))
    unfolding roles_of permission_set
    headed_table =
        (all_iff (length table) _).1
        (λ i l.
        let b : i < 512 = rw w.size at l in
        let e : 4 * (i / 4) + i % 4 ≡ i = omega arith in
        let e' : sets_start + 4 * (i / 4) + i % 4 ≡ sets_start + i = omega arith in
        (eqb_iff _ _).1
        (ap (λ (k : ℕ). get_or ws k 0) (sym e') ∙ h.sets (i / 4) (i % 4) (omega arith) (omega arith) ∙ sym (w.words (i / 4) (i % 4) (omega arith) (omega arith)) ∙ ap (λ (k : ℕ). get_or table k 0) e))
