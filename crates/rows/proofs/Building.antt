-- A record built afresh: its rows, and the seniors read down the columns of its juniors.
-- Assumes nothing.
use mathlib.Core.Path.{◌≡◌, sym, ◌∙◌, subst}
use mathlib.Core.List.{List}
use Prim.Native.Nat.{ℕ, ◌+◌, ◌*◌}
use native.Mathlib.Omega.{arith}
use lib.ListN.{length, get_or, take, drop}
use Rattle.sets.specs.Sets.{has, collect}
use Rattle.model.specs.Lists.{set_at}
use Rattle.model.specs.Hierarchy.{candidate_count, RoleRows}
use Rattle.model.specs.Record.{juniors_start, header_word, built, Limits}
use Rattle.model.specs.State.{State, roles_of}
use Rattle.model.proofs.Lists.{set_at_words}
use Rattle.model.proofs.Record.{standing_small, immediate_juniors_lt}
use Rattle.model.proofs.Steps.{now_same}
use Rattle.tables.specs.Tables.{Filled}
use Rattle.indexes.specs.declared.index.Index.{Index}
use Rattle.indexes.specs.Index.{Indexed}
use Rattle.rows.specs.Linked.{Linked}
use Rattle.rows.specs.Partway.{Partway, WithoutRows, Target}
use Rattle.rows.proofs.Partway.{no_rows, marks, begun, finished}
use Rattle.rows.proofs.Linking.{columns_turned}
use Rattle.rows.proofs.Rewriting.{target_below, now_juniors}

module _ (st : State) (lim : Limits st) (index : Index) (first : List ℕ) (b : WithoutRows st first) (ix : Indexed (roles_of st) index) where
  count_told : candidate_count (roles_of st) ≡ get_or first 2 0
  unfolding header_word
  count_told = sym (b.headed.head 2 (omega arith))

  standing_told : set_at 2 first 4 ≡ st.standing
  standing_told =
      set_at_words 2 st.standing first 4 (standing_small st lim)
      (λ j l. b.headed.head (4 + j) (omega arith) ∙ rw (now_same st) at (marks st st.standing j l))

  pub rows_built : (R : ℕ) (second third before seniors : List ℕ) → R ≡ set_at 2 first 4
      → ((old : RoleRows) (st : State) (t : ℕ) → Target st R index → candidate_count (roles_of st) ≡ get_or first 2 0 → Partway old st R R t first → Partway old st 0 0 t second)
      → ((i : ℕ) → get_or before i 0 ≡ 0)
      → Filled 2 (get_or first 2 0) (λ j. collect (get_or first 2 0) (λ i. has (set_at 2 (take 256 (drop juniors_start second)) (2 * i)) j)) before seniors
      → length seniors ≡ 256
      → ((old : RoleRows) (st : State) (p : ℕ) → Target st R index → candidate_count (roles_of st) ≡ get_or first 2 0 → Linked second seniors → Partway old st 0 p R second → Partway old st 0 p 0 third × Linked third seniors)
      → (third ≡ built st) × Linked third seniors
  rows_built R second third before seniors e_r uppers zero filled size lowers =
      let ρ = roles_of st in
      let same : st.standing ≡ R = sym (e_r ∙ standing_told) in
      let to : Target st R index = record { limits = lim; standing = same; indexed = ix } in
      let q = uppers no_rows st R to count_told (subst (λ (S : ℕ). Partway no_rows st S S S first) same (begun st first b)) in
      let turned = columns_turned ρ R lim.candidates_most (target_below st R index to) second (now_juniors no_rows st 0 R R index second to q)
      (immediate_juniors_lt ρ R) before seniors zero (rw count_told filled) in
      let done = lowers no_rows st 0 to count_told (record { size = size; turned = turned }) q in
      (finished no_rows st third done.0, done.1)
