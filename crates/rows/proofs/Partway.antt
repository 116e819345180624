-- A record rewritten row by row: its start, the store of one row, and its end.
-- Assumes nothing.
use mathlib.Core.Path.{◌≡◌, refl, sym, ◌∙◌, ap}
use mathlib.Core.Bool.{So}
use mathlib.Core.List.{List}
use Prim.Native.Nat.{ℕ, ◌+◌, ◌-◌, ◌*◌, ◌≤◌, ◌<◌}
use native.Mathlib.Omega.{arith}
use lib.ListN.{length, get_or}
use Rattle.sets.specs.Sets.{has, ◌∖◌, single}
use Rattle.sets.specs.Words.{word}
use Rattle.sets.proofs.Truth.{either}
use Rattle.sets.proofs.Members.{digit}
use Rattle.sets.proofs.Words.{word-zero}
use Rattle.model.specs.Hierarchy.{immediate_juniors, direct_permissions, direct_members, building, RoleRows}
use Rattle.model.specs.Record.{record_length, crew_start, sets_start, permissions_start, members_start, juniors_start, header_word, word_at, built}
use Rattle.model.specs.State.{State, roles_of, standing_now}
use Rattle.model.proofs.Lists.{tabulate_is}
use Rattle.model.proofs.Building.{absent_juniors, absent_permissions, absent_members}
use Rattle.model.proofs.Altered.{same_head}
use Rattle.model.proofs.Record.{by_region, word_head, word_crew, word_set, word_permissions, word_members, word_juniors, built_length, built_word}
use Rattle.stores.specs.Stores.{put_at}
use Rattle.tables.specs.Stores.{words_of}
use Rattle.stores.proofs.Stores.{length-put_at, put_at-below, put_at_above}
use Rattle.tables.proofs.Stores.{length-words_of, stored_word}
use Rattle.rows.specs.Partway.{still, Headed, Partway, Differ, WithoutRows}
use Rattle.rows.proofs.Regions.{still_all, still_done, still_other, still-none, region_stored, region_before, region_after}

-- ---- one row

module _ (old : RoleRows) (st : State) (s p t k x : ℕ) (ws : List ℕ) (lk : k < 128) (q : Partway old st s p t ws) where
  headed_kept : (at v : ℕ) → permissions_start ≤ at → Headed st (put_at ws at (words_of v x))
  headed_kept at v l =
      let h = q.headed in
      record {
        size = length-put_at ws at (words_of v x) ∙ h.size;
        head = λ i li. put_at-below ws at (words_of v x) i (omega arith) ∙ h.head i li;
        crew = region_before 4 crew_start _ ws at v x (omega arith) h.crew;
        sets = region_before 4 sets_start _ ws at v x (omega arith) h.sets;
      }

  room : (n : ℕ) → n ≤ record_length → n ≤ length ws
  room n l = rw q.headed.size l

  pub juniors_stored : x ≡ immediate_juniors (roles_of st) st.standing k
      → Partway old st (s ∖ single k) p t (put_at ws (juniors_start + 2 * k) (words_of 2 x))
  juniors_stored e =
      let at = juniors_start + 2 * k in
      let new = immediate_juniors (roles_of st) st.standing in
      record {
        headed = headed_kept at 2 (omega arith);
        permissions = region_before 4 permissions_start _ ws at 2 x (omega arith) q.permissions;
        members = region_before 2 members_start _ ws at 2 x (omega arith) q.members;
        juniors =
            region_stored 2 juniors_start k x _ (still (s ∖ single k) old.juniors new) ws (room record_length (omega arith)) lk q.juniors
            (still_done s old.juniors new k ∙ sym e) (still_other s old.juniors new k);
      }

  pub permissions_stored : x ≡ direct_permissions (roles_of st) st.standing k
      → Partway old st s (p ∖ single k) t (put_at ws (permissions_start + 4 * k) (words_of 4 x))
  permissions_stored e =
      let at = permissions_start + 4 * k in
      let new = direct_permissions (roles_of st) st.standing in
      record {
        headed = headed_kept at 4 (omega arith);
        permissions =
            region_stored 4 permissions_start k x _ (still (p ∖ single k) old.permissions new) ws (room members_start (omega arith)) lk q.permissions
            (still_done p old.permissions new k ∙ sym e) (still_other p old.permissions new k);
        members = region_after 2 members_start _ ws at 4 x (omega arith) q.members;
        juniors = region_after 2 juniors_start _ ws at 4 x (omega arith) q.juniors;
      }

  pub members_stored : x ≡ direct_members (roles_of st) st.standing k
      → Partway old st s p (t ∖ single k) (put_at ws (members_start + 2 * k) (words_of 2 x))
  members_stored e =
      let at = members_start + 2 * k in
      let new = direct_members (roles_of st) st.standing in
      record {
        headed = headed_kept at 2 (omega arith);
        permissions = region_before 4 permissions_start _ ws at 2 x (omega arith) q.permissions;
        members =
            region_stored 2 members_start k x _ (still (t ∖ single k) old.members new) ws (room juniors_start (omega arith)) lk q.members
            (still_done t old.members new k ∙ sym e) (still_other t old.members new k);
        juniors = region_after 2 juniors_start _ ws at 2 x (omega arith) q.juniors;
      }

-- ---- the start of a change: the standing set is stored

pub marks : (st : State) (R j : ℕ) → j < 2 → header_word (standing_now st R) (4 + j) ≡ word R j
unfolding header_word standing_now
marks st R j l = digit j l (λ (e : j ≡ 0). rw e refl) (λ (e : j ≡ 1). rw e refl)

module _ (st : State) (R s t : ℕ) (ws : List ℕ) (e : ws ≡ built st) where
  was : (i : ℕ) → i < record_length → get_or ws i 0 ≡ word_at st i
  was i l = ap (λ (l : List ℕ). get_or l i 0) e ∙ built_word st i l

  size : length ws ≡ record_length
  size = ap length e ∙ built_length st

  new_head : (i : ℕ) → i < 8 → get_or (put_at ws 4 (words_of 2 R)) i 0 ≡ header_word (standing_now st R) i
  new_head i l =
      either i 4
      (λ b.
      put_at-below ws 4 (words_of 2 R) i b ∙ was i (omega arith) ∙ word_head st i l
      ∙ same_head st R i (λ (d : i ≡ 4). let z : ⊥ = omega arith in z) (λ (d : i ≡ 5). let z : ⊥ = omega arith in z))
      (λ b.
      either i 6
      (λ b6.
      let d : i ≡ 4 + (i - 4) = omega arith in
      rw d (stored_word ws 4 2 R (i - 4) (rw size (omega arith)) (omega arith) ∙ sym (marks st R (i - 4) (omega arith))))
      (λ b6.
      put_at_above ws 4 (words_of 2 R) i (rw (length-words_of 2 R) (omega arith)) ∙ was i (omega arith) ∙ word_head st i l
      ∙ same_head st R i (λ (d : i ≡ 4). let z : ⊥ = omega arith in z) (λ (d : i ≡ 5). let z : ⊥ = omega arith in z)))

  pub started : Differ (roles_of st) st.standing R s t
      → Partway (building (roles_of st) st.standing) (standing_now st R) s s t (put_at ws 4 (words_of 2 R))
  unfolding standing_now roles_of building
  started d =
      let ρ = roles_of st in
      let Q = st.standing in
      record {
        headed =
            record {
              size = length-put_at ws 4 (words_of 2 R) ∙ size;
              head = new_head;
              crew = region_after 4 crew_start _ ws 4 2 R (omega arith) (λ u j lu lj. was (crew_start + 4 * u + j) (omega arith) ∙ word_crew st u j lu lj);
              sets = region_after 4 sets_start _ ws 4 2 R (omega arith) (λ k j lk lj. was (sets_start + 4 * k + j) (omega arith) ∙ word_set st k j lk lj);
            };
        permissions =
            region_after 4 permissions_start _ ws 4 2 R (omega arith)
            (λ k j lk lj.
            was (permissions_start + 4 * k + j) (omega arith) ∙ word_permissions st k j lk lj
            ∙ ap (λ (x : ℕ). word x j) (still_all s (direct_permissions ρ Q) (direct_permissions ρ R) d.permissions k));
        members =
            region_after 2 members_start _ ws 4 2 R (omega arith)
            (λ k j lk lj.
            was (members_start + 2 * k + j) (omega arith) ∙ word_members st k j lk lj
            ∙ ap (λ (x : ℕ). word x j) (still_all t (direct_members ρ Q) (direct_members ρ R) d.members k));
        juniors =
            region_after 2 juniors_start _ ws 4 2 R (omega arith)
            (λ k j lk lj.
            was (juniors_start + 2 * k + j) (omega arith) ∙ word_juniors st k j lk lj
            ∙ ap (λ (x : ℕ). word x j) (still_all s (immediate_juniors ρ Q) (immediate_juniors ρ R) d.juniors k));
      }

-- ---- the start of a record built afresh: no role has a row

abbrev pub no_rows : RoleRows
no_rows = record { juniors = λ k. 0; permissions = λ k. 0; members = λ k. 0 }

pub begun : (st : State) (ws : List ℕ) → WithoutRows st ws → Partway no_rows st st.standing st.standing st.standing ws
begun st ws b =
    let ρ = roles_of st in
    let R = st.standing in
    let clear : (f : ℕ → ℕ) → ((k : ℕ) → (So (has R k) → ⊥) → f k ≡ 0) → (k j : ℕ) → 0 ≡ word (still R (λ k. 0) f k) j =
    λ f none k j. sym (word-zero j) ∙ ap (λ (x : ℕ). word x j) (still_all R (λ k. 0) f (λ k d. sym (none k d)) k) in
    record {
      headed = b.headed;
      permissions = λ k j lk lj. b.zero (permissions_start + 4 * k + j) (omega arith) (omega arith) ∙ clear (direct_permissions ρ R) (absent_permissions ρ R) k j;
      members = λ k j lk lj. b.zero (members_start + 2 * k + j) (omega arith) (omega arith) ∙ clear (direct_members ρ R) (absent_members ρ R) k j;
      juniors = λ k j lk lj. b.zero (juniors_start + 2 * k + j) (omega arith) (omega arith) ∙ clear (immediate_juniors ρ R) (absent_juniors ρ R) k j;
    }

-- ---- the end: nothing is old

pub finished : (old : RoleRows) (st : State) (ws : List ℕ) → Partway old st 0 0 0 ws → ws ≡ built st
unfolding built
finished old st ws q =
    let ρ = roles_of st in
    let R = st.standing in
    let h = q.headed in
    let now : (f g : ℕ → ℕ) (k j : ℕ) → word (still 0 f g k) j ≡ word (g k) j = λ f g k j. ap (λ (x : ℕ). word x j) (still-none f g k) in
    tabulate_is record_length (word_at st) ws h.size
    (by_region (λ i. get_or ws i 0 ≡ word_at st i) (λ i l. h.head i l ∙ sym (word_head st i l))
    (λ u j lu lj. h.crew u j lu lj ∙ sym (word_crew st u j lu lj)) (λ k j lk lj. h.sets k j lk lj ∙ sym (word_set st k j lk lj))
    (λ k j lk lj. q.permissions k j lk lj ∙ now old.permissions (direct_permissions ρ R) k j ∙ sym (word_permissions st k j lk lj))
    (λ k j lk lj. q.members k j lk lj ∙ now old.members (direct_members ρ R) k j ∙ sym (word_members st k j lk lj))
    (λ k j lk lj. q.juniors k j lk lj ∙ now old.juniors (immediate_juniors ρ R) k j ∙ sym (word_juniors st k j lk lj)))
