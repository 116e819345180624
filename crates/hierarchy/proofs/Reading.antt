-- The sets and the rows of a record that is built afresh, read as sets.
-- Assumes nothing.
use mathlib.Core.Path.{◌≡◌, ◌∙◌}
use Prim.Native.Nat.{ℕ, ◌+◌, ◌*◌, ◌<◌}
use native.Mathlib.Nat.{lt_of_lt_of_le}
use native.Mathlib.Omega.{arith}
use lib.ListN.{take, drop}
use lib.Pow.{pow_mono}
use Rattle.model.specs.Lists.{set_at}
use Rattle.model.specs.Hierarchy.{candidate_count, permission_set, immediate_juniors, direct_permissions, direct_members}
use Rattle.model.specs.Record.{sets_start, permissions_start, members_start, juniors_start, built, Limits}
use Rattle.model.specs.State.{State, roles_of}
use Rattle.model.proofs.Lists.{set_at_words}
use Rattle.model.proofs.Record.{built_word, read_set, word_permissions, word_members, word_juniors, permissions_small, members_small, juniors_small}
use Rattle.tables.specs.Tables.{HoldsSets}
use Rattle.tables.proofs.Parts.{set_at_part}
use Rattle.hierarchy.specs.Tables.{Narrow}

-- the sets of all candidates, as a table
pub read_sets : (st : State) → Limits st → Narrow (roles_of st) → HoldsSets 4 (candidate_count (roles_of st)) (permission_set (roles_of st)) (take 512 (drop sets_start (built st)))
read_sets st lim w k l =
    let few = lim.candidates_most in
    set_at_part 4 sets_start 512 (built st) (4 * k) (omega arith) ∙ read_set st lim k (omega arith) (lt_of_lt_of_le (w.inside k l) (pow_mono w.few_permissions))

module _ (st : State) (lim : Limits st) (k : ℕ) (lk : k < 128) where
  pub read_permissions_of : set_at 4 (built st) (permissions_start + 4 * k) ≡ direct_permissions (roles_of st) st.standing k
  read_permissions_of =
      set_at_words 4 (direct_permissions (roles_of st) st.standing k) (built st) (permissions_start + 4 * k) (permissions_small st lim k)
      (λ j lj. built_word st (permissions_start + 4 * k + j) (omega arith) ∙ word_permissions st k j lk lj)

  pub read_members_of : set_at 2 (built st) (members_start + 2 * k) ≡ direct_members (roles_of st) st.standing k
  read_members_of =
      set_at_words 2 (direct_members (roles_of st) st.standing k) (built st) (members_start + 2 * k) (members_small st lim k)
      (λ j lj. built_word st (members_start + 2 * k + j) (omega arith) ∙ word_members st k j lk lj)

  pub read_juniors_of : set_at 2 (built st) (juniors_start + 2 * k) ≡ immediate_juniors (roles_of st) st.standing k
  read_juniors_of =
      set_at_words 2 (immediate_juniors (roles_of st) st.standing k) (built st) (juniors_start + 2 * k) (juniors_small st lim k)
      (λ j lj. built_word st (juniors_start + 2 * k + j) (omega arith) ∙ word_juniors st k j lk lj)
