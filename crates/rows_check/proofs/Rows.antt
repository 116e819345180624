-- A record whose rows are those of the building is the one that is built afresh.
-- Assumes nothing.
use mathlib.Core.Path.{◌≡◌, refl, sym, ◌∙◌, ap}
use mathlib.Core.Bool.{So}
use mathlib.Core.List.{List}
use Prim.Native.Nat.{ℕ, suc, ◌+◌, ◌-◌, ◌*◌, ◌/◌, ◌%◌, ◌^◌, ◌≤◌, ◌<◌}
use native.Mathlib.Nat.{mul-suc, mul-le-mul_left}
use native.Mathlib.Omega.{arith}
use lib.ListN.{length, get_or, take, drop, get_or-eq_default}
use Rattle.sets.specs.Sets.{has, collect}
use Rattle.sets.specs.Words.{word}
use Rattle.sets.proofs.Truth.{So-not, either}
use Rattle.sets.proofs.Members.{digit, has_above}
use Rattle.sets.proofs.Words.{word_value, word-zero}
use Rattle.model.specs.Lists.{elems, set_at}
use Rattle.model.specs.Hierarchy.{Roles, candidate_count, immediate_juniors, direct_permissions, direct_members}
use Rattle.model.specs.Record.{record_length, permissions_start, members_start, juniors_start, header_word, word_at, built, Limits}
use Rattle.model.specs.State.{State, roles_of}
use Rattle.model.proofs.Building.{absent_juniors, absent_permissions, absent_members}
use Rattle.model.proofs.Lists.{length_elems, get_d_elems, set_at_words}
use Rattle.model.proofs.Record.{permissions_small, members_small, juniors_small, standing_small, immediate_juniors_lt, word_permissions, word_members, word_juniors, built_word}
use Rattle.tables.specs.Tables.{Filled, ZeroFrom}
use Rattle.hierarchy.specs.Tables.{Numbered}
use Rattle.indexes.specs.declared.index.Index.{Index}
use Rattle.indexes.specs.Index.{LowerRoles, Indexed}
use Rattle.indexes.proofs.Sources.{numbered}
use Rattle.rows.specs.Linked.{juniors_in, Linked}
use Rattle.rows.specs.Partway.{still, Region, Headed, Target}
use Rattle.rows.proofs.Regions.{still-none, region_read}
use Rattle.rows.proofs.Partway.{no_rows, finished}
use Rattle.rows.proofs.Linking.{columns_turned}
use Rattle.rows.proofs.Rewriting.{target_below}
use Rattle.rows_check.specs.Held.{UpperHeld, LowerHeld, NoneBehind}

-- ---- a region, by its entries and by its words

-- word j of the set that stands at a place
pub word_of : (w : ℕ) (ws : List ℕ) (at j : ℕ) → ((i : ℕ) → get_or ws i 0 < 2 ^ 64) → j < w → get_or ws (at + j) 0 ≡ word (set_at w ws at) j
unfolding set_at
word_of w ws at j fits l =
    sym (get_d_elems ws at w j l)
    ∙ sym (word_value (elems ws at w) j
    (λ i.
    either i w (λ b. rw (get_d_elems ws at w i b) (fits (at + i)))
    (λ b.
    let far : length (elems ws at w) ≤ i = rw (length_elems ws at w) b in
    rw (get_or-eq_default (elems ws at w) 0 far) (omega arith))))

-- c entries are those of f, and behind them, where f has nothing, all is zero
pub region_of : (w start c end : ℕ) (f : ℕ → ℕ) (ws : List ℕ) → ((i : ℕ) → get_or ws i 0 < 2 ^ 64) → end ≡ start + w * 128
    → ((k : ℕ) → k < c → set_at w ws (start + w * k) ≡ f k) → ((k : ℕ) → c ≤ k → f k ≡ 0) → ZeroFrom ws (start + w * c) end → Region w start f ws
region_of w start c end f ws fits ends held none zero k j lk lj =
    either k c (λ l. word_of w ws (start + w * k) j fits lj ∙ ap (λ (x : ℕ). word x j) (held k l))
    (λ l.
    let from : w * c ≤ w * k = mul-le-mul_left w l in
    let to : w * suc k ≤ w * 128 = mul-le-mul_left w lk in
    zero.each (start + w * k + j) (omega arith) (omega (arith, mul-suc w k)) ∙ sym (word-zero j) ∙ ap (λ (x : ℕ). word x j) (sym (none k l)))

-- a word behind c entries of a region belongs to an entry behind them
abbrev pub Behind : ℕ → ℕ → ℕ → ℕ → Type 0
Behind w start c i = (k : ℕ) × (j : ℕ) × (k < 128) × (j < w) × (c ≤ k) × (i ≡ start + w * k + j)

behind2 : (start c i : ℕ) → start + 2 * c ≤ i → i < start + 256 → Behind 2 start c i
behind2 start c i a b = ((i - start) / 2, (i - start) % 2, omega arith, omega arith, omega arith, omega arith)

pub behind4 : (start c i : ℕ) → start + 4 * c ≤ i → i < start + 512 → Behind 4 start c i
behind4 start c i a b = ((i - start) / 4, (i - start) % 4, omega arith, omega arith, omega arith, omega arith)

pub region_none : (w start c end : ℕ) (f : ℕ → ℕ) (ws : List ℕ) → ((i : ℕ) → start + w * c ≤ i → i < end → Behind w start c i)
    → ((k : ℕ) → c ≤ k → f k ≡ 0) → Region w start f ws → ZeroFrom ws (start + w * c) end
region_none w start c end f ws split none h =
    record {
      each = λ i a b.
          let s = split i a b in
          let place : i ≡ start + w * s.0 + s.1 = s.5 in
          rw place (h s.0 s.1 s.2 s.3 ∙ ap (λ (x : ℕ). word x s.1) (none s.0 s.4) ∙ word-zero s.1);
    }

-- ---- the rows of a building

module _ (st : State) (lim : Limits st) (ws : List ℕ) where
  abbrev c : ℕ
  c = candidate_count (roles_of st)

  abbrev juniors : ℕ → ℕ
  juniors = immediate_juniors (roles_of st) st.standing

  abbrev permissions : ℕ → ℕ
  permissions = direct_permissions (roles_of st) st.standing

  abbrev members : ℕ → ℕ
  members = direct_members (roles_of st) st.standing

  -- a role past the candidates does not stand
  absent : (k : ℕ) → c ≤ k → So (has st.standing k) → ⊥
  absent k l = So-not (has_above c st.standing k lim.standing_below l)

  no_juniors : (k : ℕ) → c ≤ k → juniors k ≡ 0
  no_juniors k l = absent_juniors (roles_of st) st.standing k (absent k l)

  no_permissions : (k : ℕ) → c ≤ k → permissions k ≡ 0
  no_permissions k l = absent_permissions (roles_of st) st.standing k (absent k l)

  no_members : (k : ℕ) → c ≤ k → members k ≡ 0
  no_members k l = absent_members (roles_of st) st.standing k (absent k l)

  -- ---- a record that is built afresh holds them

  module _ (e : ws ≡ built st) where
    was : (i : ℕ) → i < record_length → get_or ws i 0 ≡ word_at st i
    was i l = ap (λ (l : List ℕ). get_or l i 0) e ∙ built_word st i l

    was_permissions : Region 4 permissions_start permissions ws
    was_permissions k j lk lj = was (permissions_start + 4 * k + j) (omega arith) ∙ word_permissions st k j lk lj

    was_members : Region 2 members_start members ws
    was_members k j lk lj = was (members_start + 2 * k + j) (omega arith) ∙ word_members st k j lk lj

    was_juniors : Region 2 juniors_start juniors ws
    was_juniors k j lk lj = was (juniors_start + 2 * k + j) (omega arith) ∙ word_juniors st k j lk lj

    few : (k : ℕ) → k < c → k < 128
    few k l = let m = lim.candidates_most in omega arith

    pub built_upper : (k : ℕ) → k < candidate_count (roles_of st) → UpperHeld st ws k
    built_upper k l =
        record {
          juniors = region_read 2 juniors_start k juniors ws (few k l) (juniors_small st lim k) was_juniors;
          permissions = region_read 4 permissions_start k permissions ws (few k l) (permissions_small st lim k) was_permissions;
        }

    pub built_lower : (k : ℕ) → k < candidate_count (roles_of st) → LowerHeld st ws k
    built_lower k l = region_read 2 members_start k members ws (few k l) (members_small st lim k) was_members

    pub built_behind : NoneBehind ws (candidate_count (roles_of st))
    built_behind =
        record {
          permissions = region_none 4 permissions_start c members_start permissions ws (behind4 permissions_start c) no_permissions was_permissions;
          members = region_none 2 members_start c juniors_start members ws (behind2 members_start c) no_members was_members;
          juniors = region_none 2 juniors_start c record_length juniors ws (behind2 juniors_start c) no_juniors was_juniors;
        }

  -- ---- a record that holds them is built afresh

  module _ (fits : (i : ℕ) → get_or ws i 0 < 2 ^ 64) (none : NoneBehind ws (candidate_count (roles_of st))) (uppers : (k : ℕ) → k < candidate_count (roles_of st) → UpperHeld st ws k) where
    now_juniors : Region 2 juniors_start juniors ws
    now_juniors = region_of 2 juniors_start c record_length juniors ws fits refl (λ k l. (uppers k l).juniors) no_juniors none.juniors

    pub juniors_held : (R : ℕ) → st.standing ≡ R → (k : ℕ) → k < 128 → juniors_in ws k ≡ immediate_juniors (roles_of st) R k
    juniors_held R same k l =
        region_read 2 juniors_start k juniors ws l (juniors_small st lim k) now_juniors ∙ ap (λ (S : ℕ). immediate_juniors (roles_of st) S k) same

    -- the columns of its juniors are the seniors
    pub seniors_linked : (index : Index) (R n : ℕ) (before seniors : List ℕ) → Target st R index → candidate_count (roles_of st) ≡ n → ((i : ℕ) → get_or before i 0 ≡ 0)
        → Filled 2 n (λ j. collect n (λ i. has (set_at 2 (take 256 (drop juniors_start ws)) (2 * i)) j)) before seniors → length seniors ≡ 256 → Linked ws seniors
    seniors_linked index R n before seniors to count zero filled size =
        record {
          size = size;
          turned =
              columns_turned (roles_of st) R lim.candidates_most (target_below st R index to) ws (juniors_held R to.standing)
              (immediate_juniors_lt (roles_of st) R) before seniors zero (rw count filled);
        }

    pub rows_built : Headed st ws → ((k : ℕ) → k < candidate_count (roles_of st) → LowerHeld st ws k) → ws ≡ built st
    rows_built h lowers =
        let now : (f : ℕ → ℕ) (k j : ℕ) → word (f k) j ≡ word (still 0 (λ i. 0) f k) j = λ f k j. ap (λ (x : ℕ). word x j) (sym (still-none (λ i. 0) f k)) in
        let now-permissions : Region 4 permissions_start permissions ws =
        region_of 4 permissions_start c members_start permissions ws fits refl (λ k l. (uppers k l).permissions) no_permissions none.permissions in
        let now-members : Region 2 members_start members ws = region_of 2 members_start c juniors_start members ws fits refl lowers no_members none.members in
        finished no_rows st ws
        (record {
          headed = h;
          permissions = λ k j lk lj. now-permissions k j lk lj ∙ now permissions k j;
          members = λ k j lk lj. now-members k j lk lj ∙ now members k j;
          juniors = λ k j lk lj. now_juniors k j lk lj ∙ now juniors k j;
        })

-- the juniors that are computed from the index
pub juniors_computed : (st : State) (R : ℕ) (index : Index) → Target st R index → (i js : ℕ)
    → ((ρ : Roles) → Numbered ρ → LowerRoles ρ index → R < 2 ^ candidate_count ρ → js ≡ immediate_juniors ρ R i) → js ≡ immediate_juniors (roles_of st) st.standing i
juniors_computed st R index to i js juniors =
    juniors (roles_of st) (numbered st to.limits) to.indexed.lower_roles (target_below st R index to) ∙ ap (λ (S : ℕ). immediate_juniors (roles_of st) S i) (sym to.standing)

-- ---- what the header tells

module _ (st : State) (ws : List ℕ) (h : Headed st ws) where
  pub count_told : candidate_count (roles_of st) ≡ get_or ws 2 0
  unfolding header_word
  count_told = sym (h.head 2 (omega arith))

  pub standing_told : Limits st → (index : Index) (R : ℕ) → R ≡ set_at 2 ws 4 → Indexed (roles_of st) index → Target st R index
  unfolding header_word
  standing_told lim index R e ix =
      let held : set_at 2 ws 4 ≡ st.standing = set_at_words 2 st.standing ws 4 (standing_small st lim) (λ j l. h.head (4 + j) (omega arith) ∙ marks j l) in
      record { limits = lim; standing = sym (e ∙ held); indexed = ix }
    where
      marks : (j : ℕ) → j < 2 → header_word st (4 + j) ≡ word st.standing j
      marks j l = digit j l (λ (d : j ≡ 0). rw d refl) (λ (d : j ≡ 1). rw d refl)
