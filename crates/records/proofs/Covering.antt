-- Coverage, user by user.
-- Assumes nothing.
use mathlib.Core.Path.{◌≡◌, refl, sym, ◌∙◌, ap, ap₂, subst}
use mathlib.Core.Bool.{Bool, true, So}
use mathlib.Core.Logic.{◌↔◌, ⊎_elim}
use mathlib.Core.List.{List}
use Prim.Native.Nat.{ℕ, ◌*◌, ◌^◌, ◌≤◌, ◌<◌}
use native.Mathlib.Nat.{lt_of_lt_of_le}
use lib.Dec.{eqb}
use lib.ListN.{get_or}
use Rattle.sets.specs.Truth.{◌and◌, ◌implies◌, all}
use Rattle.sets.specs.Sets.{has, ◌∩◌}
use Rattle.sets.proofs.Truth.{same_test, So-not, and_iff, implies_iff, all_iff, eqb_iff, find}
use Rattle.sets.proofs.Members.{has-zero, item_below, empty_of}
use Rattle.sets.proofs.Order.{∩-iff, ∩-lt, subset_iff}
use Rattle.model.specs.Lists.{set_at}
use Rattle.model.specs.Hierarchy.{candidate_count, permission_set}
use Rattle.model.specs.Coverage.{grant, covered, all_covered}
use Rattle.model.specs.Indexes.{maximal, roles_of_user}
use Rattle.model.specs.State.{State, roles_of}
use Rattle.model.proofs.Reading.{covered_iff, covers_iff}
use Rattle.model.proofs.Shortcuts.{maximal_iff, roles_of_user_iff, maximal_above}
use Rattle.hierarchy.specs.Tables.{less_all}
use Rattle.hierarchy.proofs.Sieving.{less_all_iff}
use Rattle.indexes.specs.declared.index.Index.{Index}
use Rattle.indexes.specs.Index.{Indexed}
use Rattle.indexes.specs.Tables.{Source}
use Rattle.indexes.proofs.Sources.{numbered, source_set, source_count}
use Rattle.records.specs.Records.{user_roles, each_grant_covered}

pub users_test : (st : State) → all_covered (roles_of st) st.standing ≡ all st.users (each_grant_covered st)
unfolding all_covered each_grant_covered roles_of
users_test st = refl

module _ (st : State) (crew : List ℕ) (n : ℕ) (table : List ℕ) (c : ℕ) (src : Source st crew n table c) where
  user_roles_lem : (u k : ℕ) → So (has (user_roles st u) k) ↔ (So (has (roles_of_user (roles_of st) u) k) × So (has st.standing k))
  unfolding user_roles
  user_roles_lem u k = ∩-iff (roles_of_user (roles_of st) u) st.standing k

  pub user_roles_lt : (u : ℕ) → user_roles st u < 2 ^ candidate_count (roles_of st)
  unfolding user_roles
  user_roles_lt u = ∩-lt (candidate_count (roles_of st)) (roles_of_user (roles_of st) u) st.standing src.limits.standing_below

  -- what it takes, permission by permission
  grants_covered_lem : (u : ℕ) → ((p : ℕ) → So (has (get_or st.rows u 0) p) → (k : ℕ) × So (has (user_roles st u) k) × So (has (permission_set (roles_of st) k) p)) → So (each_grant_covered st u)
  unfolding each_grant_covered grant roles_of
  grants_covered_lem u f =
      let ρ = roles_of st in
      (all_iff st.permissions (λ p. grant ρ u p implies covered ρ st.standing u p)).1
      (λ p lp.
      (implies_iff (grant ρ u p) (covered ρ st.standing u p)).1
      (λ g.
      let w = f p g in
      let r = (user_roles_lem u w.0).0 w.1 in
      let k = (roles_of_user_iff ρ u w.0).0 r.0 in
      (covered_iff ρ st.standing u p).1 (w.0, k.0, r.1, (covers_iff ρ w.0 u p).1 (k.1, w.2))))

  covered_grants : (u : ℕ) → u < n → So (each_grant_covered st u) → (p : ℕ) → So (has (get_or st.rows u 0) p) → (k : ℕ) × So (has (user_roles st u) k) × So (has (permission_set (roles_of st) k) p)
  unfolding each_grant_covered grant roles_of
  covered_grants u lu h p g =
      let ρ = roles_of st in
      let test : ℕ → Bool = λ p. grant ρ u p implies covered ρ st.standing u p in
      let lp = item_below st.permissions (get_or st.rows u 0) p (src.limits.rows_below u (rw src.users lu)) g in
      let w = (covered_iff ρ st.standing u p).0 ((implies_iff (grant ρ u p) (covered ρ st.standing u p)).0 ((all_iff st.permissions test).0 h p lp) g) in
      let cv = (covers_iff ρ w.0 u p).0 w.3 in
      (w.0, (user_roles_lem u w.0).1 ((roles_of_user_iff ρ u w.0).1 (w.1, cv.0), w.2), cv.1)

  -- a user without standing roles
  pub empty_test : (u x s : ℕ) → u < n → x ≡ get_or st.rows u 0 → s ≡ user_roles st u → s ≡ 0 → eqb x 0 ≡ each_grant_covered st u
  empty_test u x s lu own es none =
      same_test (eqb x 0) (each_grant_covered st u)
      (λ h. grants_covered_lem u (λ p g. absurd (So-not (has-zero p) (rw (sym own ∙ (eqb_iff x 0).0 h) at g))))
      (λ h.
      (eqb_iff x 0).1
      (empty_of x
      (λ p t.
      let w = covered_grants u lu h p (rw own at t) in
      So-not (has-zero w.0) (rw (sym es ∙ none) at w.1))))

  -- a role of the user that is the whole row
  pub whole_test : (u x s k y : ℕ) → x ≡ get_or st.rows u 0 → s ≡ user_roles st u → So (has s k) → y ≡ set_at 4 table (4 * k) → y ≡ x → true ≡ each_grant_covered st u
  whole_test u x s k y own es t ey same =
      let there : So (has (user_roles st u) k) = rw es at t in
      let few : k < c = rw source_count' at ((roles_of_user_iff (roles_of st) u k).0 ((user_roles_lem u k).0 there).0).0 in
      let set : permission_set (roles_of st) k ≡ get_or st.rows u 0 = sym (source_set st crew n table c src k few) ∙ sym ey ∙ same ∙ own in
      sym (grants_covered_lem u (λ p g. (k, there, rw set g)))
    where
      source_count' : candidate_count (roles_of st) ≡ c
      source_count' = source_count st crew n table c src

  -- nothing of the row is left without the maximal roles' sets exactly when each grant is covered
  pub user_test : (u x js : ℕ) → u < n → x ≡ get_or st.rows u 0 → js ≡ maximal (roles_of st) (user_roles st u)
      → eqb (less_all 4 table x js) 0 ≡ each_grant_covered st u
  user_test u x js lu own ej =
      let ρ = roles_of st in
      let s = user_roles st u in
      let left = less_all 4 table x js in
      let small : (j : ℕ) → So (has (maximal ρ s) j) → j < c = λ j t. rw source_count' at ((maximal_iff ρ s j).0 t).0 in
      same_test (eqb left 0) (each_grant_covered st u)
      (λ h.
      let none : left ≡ 0 = (eqb_iff left 0).0 h in
      grants_covered_lem u
      (λ p g.
      ⊎_elim
      (λ (w : (j : ℕ) × (j < 128) × So (has js j and has (set_at 4 table (4 * j)) p)).
      let a = (and_iff (has js w.0) (has (set_at 4 table (4 * w.0)) p)).0 w.2 in
      let jm : So (has (maximal ρ s) w.0) = rw ej at a.0 in
      (w.0, ((maximal_iff ρ s w.0).0 jm).1, rw (source_set st crew n table c src w.0 (small w.0 jm)) at a.1))
      (λ f.
      let lp = item_below st.permissions (get_or st.rows u 0) p (src.limits.rows_below u (rw src.users lu)) g in
      absurd
      (So-not (has-zero p)
      (rw none at
      ((less_all_iff 4 table x js p).1
      (lt_of_lt_of_le lp src.limits.permissions_most, rw own g, λ j l y z. f j l ((and_iff (has js j) (has (set_at 4 table (4 * j)) p)).1 (y, z)))))))
      (find 128 (λ j. has js j and has (set_at 4 table (4 * j)) p))))
      (λ h.
      (eqb_iff left 0).1
      (empty_of left
      (λ p t.
      let a = (less_all_iff 4 table x js p).0 t in
      let w = covered_grants u lu h p (rw own at a.1) in
      let up = maximal_above ρ s (user_roles_lt u) (numbered st src.limits).lower w.0 w.1 in
      let lj = small up.0 up.1 in
      a.2 up.0 (lt_of_lt_of_le lj few) (subst (λ (y : ℕ). So (has y up.0)) (sym ej) up.1)
      (rw (source_set st crew n table c src up.0 lj) ((subset_iff (permission_set ρ w.0) (permission_set ρ up.0)).0 up.2 p w.2)))))
    where
      source_count' : candidate_count (roles_of st) ≡ c
      source_count' = source_count st crew n table c src

      few : c ≤ 128
      few = rw source_count' at src.limits.candidates_most

pub users_counted : (st : State) (crew : List ℕ) (n : ℕ) (table : List ℕ) (c : ℕ) → Source st crew n table c
    → all_covered (roles_of st) st.standing ≡ all n (each_grant_covered st)
users_counted st crew n table c src = users_test st ∙ ap (λ (k : ℕ). all k (each_grant_covered st)) src.users

pub own_roles_are : (st : State) (n : ℕ) → st.users ≡ n → (index : Index) → Indexed (roles_of st) index
    → (u x s r : ℕ) → u < n → x ≡ set_at 2 index.roles (2 * u) → s ≡ x ∩ r → r ≡ st.standing → s ≡ user_roles st u
unfolding user_roles roles_of
own_roles_are st n users index ix u x s r lu ex es er = es ∙ ap₂ ◌∩◌ (ex ∙ ix.user_roles u (rw users lu)) er
