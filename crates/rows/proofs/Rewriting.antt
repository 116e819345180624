-- What one turn of each loop stores, and what it leaves of the immediate juniors.
-- Assumes nothing.
use mathlib.Core.Path.{◌≡◌, refl, sym, ◌∙◌, ap, subst}
use mathlib.Core.Bool.{Bool, true}
use mathlib.Core.Logic.{◌≢◌}
use mathlib.Core.List.{List}
use Prim.Native.Nat.{ℕ, suc, ◌+◌, ◌*◌, ◌^◌, ◌<◌}
use native.Mathlib.Nat.{lt_of_lt_of_le}
use native.Mathlib.Numerals.{add-one}
use native.Mathlib.Omega.{arith}
use lib.ListN.{length, take, drop}
use lib.Pow.{pow_mono}
use Rattle.sets.specs.Sets.{◌∖◌, single, collect}
use Rattle.sets.specs.Words.{word}
use Rattle.sets.proofs.Truth.{below_suc}
use Rattle.sets.proofs.Members.{item_below, same_set, empty_of}
use Rattle.sets.proofs.Order.{∖-iff, single_iff, collect_iff, collect-zero}
use Rattle.sets.proofs.Words.{∖-zero}
use Rattle.model.specs.Lists.{set_at}
use Rattle.model.specs.Hierarchy.{Roles, candidate_count, permission_set, immediate_juniors, direct_permissions, direct_members, RoleRows}
use Rattle.model.specs.Record.{sets_start, permissions_start, members_start, juniors_start}
use Rattle.model.specs.State.{State, roles_of}
use Rattle.model.proofs.Lists.{set_at_same}
use Rattle.model.proofs.Record.{juniors_small}
use Rattle.stores.specs.Stores.{put_at}
use Rattle.tables.specs.Stores.{words_of}
use Rattle.tables.specs.Tables.{HoldsSets}
use Rattle.hierarchy.specs.Tables.{Numbered, Narrow, immediate_seniors}
use Rattle.indexes.specs.declared.index.Index.{Index}
use Rattle.indexes.specs.Index.{LowerRoles, RoleUsers}
use Rattle.indexes.proofs.Sources.{numbered, narrow}
use Rattle.rows.specs.Linked.{Turned, juniors_in, Linked}
use Rattle.rows.specs.Partway.{still, Headed, Partway, Target}
use Rattle.rows.proofs.Regions.{still_other, still-none, region_holds, region_read}
use Rattle.rows.proofs.Partway.{juniors_stored, permissions_stored, members_stored}
use Rattle.rows.proofs.Linking.{linked_same, seniors_held}

pub target_below : (st : State) (R : ℕ) (index : Index) → Target st R index → R < 2 ^ candidate_count (roles_of st)
target_below st R index to = subst (λ (S : ℕ). S < 2 ^ candidate_count (roles_of st)) to.standing to.limits.standing_below

-- ---- one row as it is computed from what a record holds, whoever stores it or compares it

module _ (st : State) (R : ℕ) (index : Index) (ws : List ℕ) (to : Target st R index) where
  abbrev ρ : Roles
  ρ = roles_of st

  below : R < 2 ^ candidate_count (roles_of st)
  below = target_below st R index to

  pub upper_computed : (i js ps : ℕ)
      → ((ρ : Roles) → Numbered ρ → LowerRoles ρ index → R < 2 ^ candidate_count ρ → js ≡ immediate_juniors ρ R i)
      → ((ρ : Roles) → Numbered ρ → Narrow ρ → HoldsSets 4 (candidate_count ρ) (permission_set ρ) (take 512 (drop sets_start ws)) → R < 2 ^ candidate_count ρ → js ≡ immediate_juniors ρ R i → ps ≡ direct_permissions ρ R i)
      → Headed st ws → (js ≡ immediate_juniors (roles_of st) st.standing i) × (ps ≡ direct_permissions (roles_of st) st.standing i)
  upper_computed i js ps juniors permissions h =
      let n = numbered st to.limits in
      let w = narrow st to.limits in
      let same = sym to.standing in
      let ej = juniors ρ n to.indexed.lower_roles below in
      let sets = region_holds 4 sets_start (candidate_count ρ) 512 (permission_set ρ) ws refl n.few
      (λ k l. lt_of_lt_of_le (w.inside k l) (pow_mono w.few_permissions)) h.sets in
      let ep = permissions ρ n w sets below ej in
      (ej ∙ ap (λ (S : ℕ). immediate_juniors ρ S i) same, ep ∙ ap (λ (S : ℕ). direct_permissions ρ S i) same)

  pub lower_computed : (j is ms : ℕ) (seniors : List ℕ) → j < 128 → is ≡ set_at 2 seniors (2 * j) → is < 2 ^ 128
      → ((ρ : Roles) → Numbered ρ → Narrow ρ → RoleUsers ρ index → R < 2 ^ candidate_count ρ → is ≡ immediate_seniors ρ R j → ms ≡ direct_members ρ R j)
      → Linked ws seniors → ((i : ℕ) → i < 128 → juniors_in ws i ≡ immediate_juniors (roles_of st) R i) → ms ≡ direct_members (roles_of st) st.standing j
  lower_computed j is ms seniors lj ei small members l held =
      let n = numbered st to.limits in
      let above = seniors_held ρ R n.few below ws held seniors j is l lj ei small in
      members ρ n (narrow st to.limits) to.indexed.role_users below above ∙ ap (λ (S : ℕ). direct_members ρ S j) (sym to.standing)

module _ (old : RoleRows) (st : State) (p t R : ℕ) (index : Index) (ws : List ℕ) (to : Target st R index) where
  pub upper_rewritten : (s i js ps : ℕ) (mid after : List ℕ) → i < 128
      → ((ρ : Roles) → Numbered ρ → LowerRoles ρ index → R < 2 ^ candidate_count ρ → js ≡ immediate_juniors ρ R i)
      → ((ρ : Roles) → Numbered ρ → Narrow ρ → HoldsSets 4 (candidate_count ρ) (permission_set ρ) (take 512 (drop sets_start ws)) → R < 2 ^ candidate_count ρ → js ≡ immediate_juniors ρ R i → ps ≡ direct_permissions ρ R i)
      → mid ≡ put_at ws (juniors_start + 2 * i) (words_of 2 js) → after ≡ put_at mid (permissions_start + 4 * i) (words_of 4 ps)
      → Partway old st s p t ws → Partway old st (s ∖ single i) (p ∖ single i) t after
  upper_rewritten s i js ps mid after li juniors permissions em ea q =
      let e = upper_computed st R index ws to i js ps juniors permissions q.headed in
      let first : Partway old st (s ∖ single i) p t mid = rw em (juniors_stored old st s p t i js ws li q e.0) in
      rw ea (permissions_stored old st (s ∖ single i) p t i ps mid li first e.1)

  -- once no role has its old juniors, the record holds those of the standing set
  pub now_juniors : Partway old st 0 p t ws → (i : ℕ) → i < 128 → juniors_in ws i ≡ immediate_juniors (roles_of st) R i
  now_juniors q i li =
      let new = immediate_juniors (roles_of st) st.standing in
      region_read 2 juniors_start i new ws li (juniors_small st to.limits i)
      (λ k j lk lj. q.juniors k j lk lj ∙ ap (λ (x : ℕ). word x j) (still-none old.juniors new k))
      ∙ ap (λ (S : ℕ). immediate_juniors (roles_of st) S i) to.standing

  pub lower_rewritten : (j is ms : ℕ) (seniors after : List ℕ) → j < 128 → is ≡ set_at 2 seniors (2 * j) → is < 2 ^ 128
      → ((ρ : Roles) → Numbered ρ → Narrow ρ → RoleUsers ρ index → R < 2 ^ candidate_count ρ → is ≡ immediate_seniors ρ R j → ms ≡ direct_members ρ R j)
      → after ≡ put_at ws (members_start + 2 * j) (words_of 2 ms)
      → Linked ws seniors → Partway old st 0 p t ws → Partway old st 0 p (t ∖ single j) after
  lower_rewritten j is ms seniors after lj ei small members ea l q =
      rw ea (members_stored old st 0 p t j ms ws lj q (lower_computed st R index ws to j is ms seniors lj ei small members l (now_juniors q)))

-- ---- what is left of the juniors: entries that are old, or new, in both records

module _ (old : RoleRows) (st : State) (s p t s' p' t' : ℕ) (ws ws' : List ℕ) (q : Partway old st s p t ws) (q' : Partway old st s' p' t' ws') where
  juniors_kept : (i : ℕ) → i < 128
      → still s' old.juniors (immediate_juniors (roles_of st) st.standing) i ≡ still s old.juniors (immediate_juniors (roles_of st) st.standing) i
      → juniors_in ws' i ≡ juniors_in ws i
  juniors_kept i li e =
      set_at_same 2 ws' ws (juniors_start + 2 * i) (juniors_start + 2 * i)
      (λ j lj. q'.juniors i j li lj ∙ ap (λ (x : ℕ). word x j) e ∙ sym (q.juniors i j li lj))

-- no role's juniors were rewritten
pub linked_still : (old : RoleRows) (st : State) (s p t p' t' : ℕ) (ws ws' seniors : List ℕ) → Partway old st s p t ws → Partway old st s p' t' ws'
    → Linked ws seniors → Linked ws' seniors
linked_still old st s p t p' t' ws ws' seniors q q' =
    linked_same ws ws' seniors (λ i li. juniors_kept old st s p t s p' t' ws ws' q q' i li refl)

-- those of i were, and the table was altered with them
pub linked_upper : (old : RoleRows) (st : State) (s p t p' t' i had has' : ℕ) (ws ws' seniors seniors' : List ℕ)
    → Partway old st s p t ws → Partway old st (s ∖ single i) p' t' ws' → had ≡ juniors_in ws i → has' ≡ juniors_in ws' i
    → ((f g : ℕ → ℕ) → Turned f seniors → had ≡ f i → has' ≡ g i → ((a : ℕ) → a < 128 → a ≢ i → g a ≡ f a) → Turned g seniors')
    → length seniors' ≡ 256 → Linked ws seniors → Linked ws' seniors'
linked_upper old st s p t p' t' i had has' ws ws' seniors seniors' q q' eh eh' relink size l =
    let new = immediate_juniors (roles_of st) st.standing in
    record {
      size = size;
      turned = relink (juniors_in ws) (juniors_in ws') l.turned eh eh'
          (λ a la d. juniors_kept old st s p t (s ∖ single i) p' t' ws ws' q q' a la (still_other s old.juniors new i a d));
    }

-- ---- all roles, by number

-- the roles of R from number k on
unfoldable pub from : ℕ → ℕ → ℕ
from R k = R ∖ collect k (λ i. true)

pub from_start : (R : ℕ) → R ≡ from R 0
unfolding from
from_start R = sym (ap (λ (x : ℕ). R ∖ x) (collect-zero (λ i. true)) ∙ ∖-zero R)

pub from_more : (R k : ℕ) → from R k ∖ single k ≡ from R (k + 1)
unfolding from
from_more R k =
    let all : ℕ → Bool = λ i. true in
    rw (add-one k)
    (same_set ((R ∖ collect k all) ∖ single k) (R ∖ collect (suc k) all)
    (λ i t.
    let a = (∖-iff (R ∖ collect k all) (single k) i).0 t in
    let b = (∖-iff R (collect k all) i).0 a.0 in
    (∖-iff R (collect (suc k) all) i).1
    (b.0, λ x. below_suc i k ((collect_iff (suc k) all i).0 x).0 (λ (e : i ≡ k). a.1 ((single_iff k i).1 (sym e))) (λ l. b.1 ((collect_iff k all i).1 (l, refl)))))
    (λ i t.
    let a = (∖-iff R (collect (suc k) all) i).0 t in
    (∖-iff (R ∖ collect k all) (single k) i).1 (
      (∖-iff R (collect k all) i).1 (a.0, λ x. let l = ((collect_iff k all i).0 x).0 in a.1 ((collect_iff (suc k) all i).1 (omega arith, refl))),
      λ x. let e : k ≡ i = (single_iff k i).0 x in a.1 ((collect_iff (suc k) all i).1 (omega arith, refl)),
    )))

-- all candidates are passed
pub from_all : (st : State) (R k : ℕ) (index : Index) → Target st R index → candidate_count (roles_of st) ≡ k → from R k ≡ 0
unfolding from
from_all st R k index to e =
    let b : R < 2 ^ k = rw e at (target_below st R index to) in
    let all = collect k (λ i. true) in
    empty_of (R ∖ all) (λ i t. let a = (∖-iff R all i).0 t in a.1 ((collect_iff k (λ i. true) i).1 (item_below k R i b a.0, refl)))
