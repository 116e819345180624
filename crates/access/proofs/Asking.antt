-- The code's own steps on a sound record.
-- Assumes nothing.
use mathlib.Core.Path.{◌≡◌, sym, ◌∙◌, ap, ap₂}
use mathlib.Core.Bool.{Bool, So}
use mathlib.Core.List.{List}
use Prim.Native.Nat.{ℕ, ◌*◌, ◌^◌, ◌≤◌, ◌<◌}
use native.Mathlib.Nat.{lt_of_lt_of_le}
use native.Mathlib.Omega.{arith}
use lib.ListN.{get_or, take, drop}
use Rattle.sets.specs.Truth.{◌and◌, any}
use Rattle.sets.specs.Sets.{has, collect}
use Rattle.sets.proofs.Truth.{same_test, and_iff, any_of, any_is, any_same}
use Rattle.sets.proofs.Members.{item_below}
use Rattle.sets.proofs.Order.{collect_same, collect_lt}
use Rattle.model.specs.Lists.{set_at}
use Rattle.model.specs.Hierarchy.{candidate_count, RoleRows}
use Rattle.model.specs.Chains.{link, reached, direct_roles, roles_reached, may}
use Rattle.model.specs.State.{roles_of}
use Rattle.model.specs.Record.{state_of, sound, juniors_start, members_start, permissions_start, role_rows_of}
use Rattle.model.proofs.Building.{building_below, link_senior, senior_lower}
use Rattle.model.proofs.Chains.{reached_lt, RoleRowsBelow}
use Rattle.model.proofs.Steps.{limits_ordered}
use Rattle.model.proofs.Claim.{sound_fit}
use Rattle.model.proofs.Sound.{row_juniors, row_permissions, row_members, sound_count, sound_few, sound_rows, sound_below}
use Rattle.tables.specs.Tables.{HoldsSets}
use Rattle.tables.proofs.Parts.{set_at_part}
use Rattle.access.specs.Reach.{Downward}

module _ (ws : List ℕ) (h : So (sound ws)) where
  pub sound_downward : Downward (get_or ws 2 0) (role_rows_of ws)
  sound_downward =
      let ρ = roles_of (state_of ws) in
      let R = (state_of ws).standing in
      let o = limits_ordered (state_of ws) (sound_fit ws h).limits in
      rw (sound_count ws h, sound_rows ws h)
      (record { ends = (building_below ρ R o).ends; lower = λ k j l. senior_lower ρ R o k j (link_senior ρ R o k j l) })

  -- the code's own steps: the direct roles of u, what these reach, and whether one of that has p
  pub may_found : (u p direct found : ℕ) (r : Bool)
      → direct ≡ collect (get_or ws 2 0) (λ k. has (set_at 2 (take 256 (drop members_start ws)) (2 * k)) u)
      → ((b : RoleRows) (c : ℕ) → c ≤ 128 → HoldsSets 2 c b.juniors (take 256 (drop juniors_start ws)) → Downward c b → direct < 2 ^ c → found ≡ reached (link b) c direct)
      → r ≡ any 128 (λ j. has found j and has (set_at 4 (take 512 (drop permissions_start ws)) (4 * j)) p)
      → r ≡ may (candidate_count (roles_of (state_of ws))) (role_rows_of ws) u p
  unfolding may roles_reached direct_roles
  may_found u p direct found r ed ef er =
      let c = get_or ws 2 0 in
      let b = role_rows_of ws in
      let few = sound_few ws h in
      let down = sound_downward in
      let own : direct ≡ direct_roles c b u =
      ed
      ∙ collect_same c (λ k. has (set_at 2 (take 256 (drop members_start ws)) (2 * k)) u) (λ k. has (b.members k) u)
      (λ k l. ap (λ (x : ℕ). has x u) (set_at_part 2 members_start 256 ws (2 * k) (omega arith) ∙ sym (row_members ws k l))) in
      let small : direct < 2 ^ c = rw own (collect_lt c (λ k. has (b.members k) u)) in
      let to : found ≡ reached (link b) c direct =
      ef b c few (λ k l. set_at_part 2 juniors_start 256 ws (2 * k) (omega arith) ∙ sym (row_juniors ws k l)) down small in
      let all : found ≡ roles_reached c b u = to ∙ ap (reached (link b) c) own in
      let f : ℕ → Bool = λ j. has found j and has (set_at 4 (take 512 (drop permissions_start ws)) (4 * j)) p in
      let g : ℕ → Bool = λ j. has (roles_reached c b u) j and has (b.permissions j) p in
      let same : (j : ℕ) → j < c → f j ≡ g j =
      λ j l.
      ap₂ (λ (x y : ℕ). has x j and has y p) all (set_at_part 4 permissions_start 512 ws (4 * j) (omega arith) ∙ sym (row_permissions ws j l)) in
      let inside : RoleRowsBelow c b = rw (sound_count ws h) (sound_below ws h) in
      let below : (j : ℕ) → So (f j) → j < c =
      λ j x.
      item_below c (reached (link b) c direct) j (reached_lt c b inside direct small)
      (rw to at ((and_iff (has found j) (has (set_at 4 (take 512 (drop permissions_start ws)) (4 * j)) p)).0 x).0) in
      rw (sym (sound_count ws h))
      (er
      ∙ same_test (any 128 f) (any c f) (λ x. let w = any_is 128 f x in any_of c f w.0 (below w.0 w.2) w.2)
      (λ x. let w = any_is c f x in any_of 128 f w.0 (lt_of_lt_of_le w.1 few) w.2)
      ∙ any_same c f g same)
