-- Samples put in one by one; all users are met.
-- Assumes nothing.
use mathlib.Core.Path.{◌≡◌, refl, sym, ◌∙◌, ap}
use mathlib.Core.Bool.{Bool, So}
use mathlib.Core.Logic.{◌↔◌, ◌⊎◌, ⊎_elim}
use mathlib.Core.List.{List}
use Prim.Native.Nat.{ℕ, ◌+◌, ◌-◌, ◌*◌, ◌^◌, ◌≤◌, ◌<◌}
use native.Mathlib.Numerals.{add-one}
use native.Mathlib.Omega.{arith}
use lib.Count.{ones, ones-le}
use lib.Dec.{eqb}
use lib.ListN.{length}
use Rattle.sets.specs.Truth.{isnt}
use Rattle.sets.specs.Sets.{has, ◌∪◌, ◌∖◌, single, subset}
use Rattle.sets.proofs.Truth.{by_test, So-not, either, equal_or, isnt_iff, eqb_iff}
use Rattle.sets.proofs.Members.{has-zero, same_set, item_of}
use Rattle.sets.proofs.Order.{∪-iff, ∖-iff, ∪-lt, single_iff, subset_iff, collect_iff, disjoint_iff}
use Rattle.sets.proofs.Counts.{ones_disjoint, ones_without, ones_some}
use Rattle.model.specs.Lists.{set_at}
use Rattle.model.specs.Hierarchy.{Roles, candidate_count, authorised_users}
use Rattle.model.specs.Indexes.{roles_of_user}
use Rattle.model.proofs.Reading.{user_iff}
use Rattle.model.proofs.Shortcuts.{roles_of_user_iff}
use Rattle.stores.specs.Stores.{put_at}
use Rattle.tables.specs.Stores.{words_of}
use Rattle.tables.proofs.Stores.{stored_back, stored_before}
use Rattle.indexes.specs.declared.index.Index.{Index}
use Rattle.indexes.specs.Index.{Indexed}
use Rattle.edit_work.specs.Work.{entries, users_with_roles, SamplesOf}

-- ---- the roles of one more user: sample j has them, and there are no new ones but j

sample_put : (users u : ℕ) (roles : ℕ → ℕ) (count count' j : ℕ) (found found' : ℕ → ℕ) → SamplesOf users roles count found → count ≤ count' → j < count'
    → ((i : ℕ) → i < count → found' i ≡ found i) → ((i : ℕ) → count ≤ i → i < count' → i ≡ j) → found' j ≡ roles u
    → SamplesOf (users ∪ single u) roles count' found'
sample_put users u roles count count' j found found' s more lj kept only e =
    record {
      user_of = λ i l.
          either i count
          (λ b. let w = s.user_of i b in (w.0, (∪-iff users (single u) w.0).1 (◌⊎◌.inl w.1), kept i b ∙ w.2))
          (λ b. let d : i ≡ j = only i b l in (u, (∪-iff users (single u) u).1 (◌⊎◌.inr ((single_iff u u).1 refl)), rw d e));
      sample_of = λ v t.
          ⊎_elim (λ x. let w = s.sample_of v x in let l = w.1 in (w.0, omega arith, kept w.0 w.1 ∙ w.2))
          (λ x. let d : u ≡ v = (single_iff u v).0 x in (j, lj, rw d at e)) ((∪-iff users (single u) v).0 t);
    }

-- the same as the last one
pub sample_again : (users u : ℕ) (roles : ℕ → ℕ) (count x last : ℕ) (t : Bool) (table : List ℕ) → 0 < count → last ≡ set_at 2 table (2 * count - 2)
    → t ≡ eqb last x → So t → x ≡ roles u → SamplesOf users roles count (entries table) → SamplesOf (users ∪ single u) roles count (entries table)
sample_again users u roles count x last t table some e test holds same s =
    let at : 2 * (count - 1) ≡ 2 * count - 2 = omega arith in
    sample_put users u roles count count (count - 1) (entries table) (entries table) s (omega arith) (omega arith) (λ i l. refl)
    (λ i l h. absurd (let z : ⊥ = omega arith in z)) (ap (set_at 2 table) at ∙ sym e ∙ (eqb_iff last x).0 (sym test ∙ holds) ∙ same)

-- another one
pub sample_more : (users u : ℕ) (roles : ℕ → ℕ) (count x : ℕ) (table : List ℕ) → length table ≡ 256 → count < 128 → x < 2 ^ 128 → x ≡ roles u
    → SamplesOf users roles count (entries table) → SamplesOf (users ∪ single u) roles (count + 1) (entries (put_at table (2 * count) (words_of 2 x)))
sample_more users u roles count x table size room small e s =
    sample_put users u roles count (count + 1) count (entries table) (entries (put_at table (2 * count) (words_of 2 x))) s (omega arith) (omega arith)
    (λ i l. stored_before table (2 * count) 2 x (2 * i) 2 (omega arith)) (λ i l h. omega arith) (stored_back table (2 * count) 2 x (omega arith) small ∙ e)

-- ---- the users of a set, one by one: those not in `rest` are met

met_more : (met users rest u : ℕ) → So (subset rest users) → So (has rest u) → met ∪ (users ∖ rest) ∪ single u ≡ met ∪ (users ∖ (rest ∖ single u))
met_more met users rest u within there =
    same_set (met ∪ (users ∖ rest) ∪ single u) (met ∪ (users ∖ (rest ∖ single u)))
    (λ v t.
    (∪-iff met (users ∖ (rest ∖ single u)) v).1
    (⊎_elim
    (λ x.
    ⊎_elim (λ y. ◌⊎◌.inl y)
    (λ y. let a = (∖-iff users rest v).0 y in ◌⊎◌.inr ((∖-iff users (rest ∖ single u) v).1 (a.0, λ z. a.1 ((∖-iff rest (single u) v).0 z).0)))
    ((∪-iff met (users ∖ rest) v).0 x))
    (λ x.
    let d : u ≡ v = (single_iff u v).0 x in
    ◌⊎◌.inr ((∖-iff users (rest ∖ single u) v).1 ((subset_iff rest users).0 within v (rw d at there), λ z. ((∖-iff rest (single u) v).0 z).1 x)))
    ((∪-iff (met ∪ (users ∖ rest)) (single u) v).0 t)))
    (λ v t.
    (∪-iff (met ∪ (users ∖ rest)) (single u) v).1
    (⊎_elim (λ x. ◌⊎◌.inl ((∪-iff met (users ∖ rest) v).1 (◌⊎◌.inl x)))
    (λ x.
    let a = (∖-iff users (rest ∖ single u) v).0 x in
    by_test (has rest v)
    (λ y.
    equal_or u v (λ d. ◌⊎◌.inr ((single_iff u v).1 d)) (λ d. absurd (a.1 ((∖-iff rest (single u) v).1 (y, λ z. d ((single_iff u v).0 z))))))
    (λ y. ◌⊎◌.inl ((∪-iff met (users ∖ rest) v).1 (◌⊎◌.inr ((∖-iff users rest v).1 (a.0, So-not y))))))
    ((∪-iff met (users ∖ (rest ∖ single u)) v).0 t)))

-- what holds after some of these users
pub record Adding (roles : ℕ → ℕ) (users start : ℕ) (before : List ℕ) (table : List ℕ) (found rest : ℕ) : Type 0 where
  pub within : So (subset rest users)
  pub few : found + ones rest ≤ start + ones users
  pub samples : (met : ℕ) → SamplesOf met roles start (entries before) → SamplesOf (met ∪ (users ∖ rest)) roles found (entries table)

pub adding_start : (roles : ℕ → ℕ) (users start : ℕ) (table : List ℕ) → Adding roles users start table table start users
adding_start roles users start table =
    record {
      within = (subset_iff users users).1 (λ i t. t);
      few = omega arith;
      samples = λ met s.
          let e : met ∪ (users ∖ users) ≡ met =
          same_set (met ∪ (users ∖ users)) met
          (λ v t. ⊎_elim (λ x. x) (λ x. let a = (∖-iff users users v).0 x in absurd (a.1 a.0)) ((∪-iff met (users ∖ users) v).0 t))
          (λ v t. (∪-iff met (users ∖ users) v).1 (◌⊎◌.inl t)) in
          rw e s;
    }

-- there is room for the next one
pub adding_room : (roles : ℕ → ℕ) (users start : ℕ) (before table : List ℕ) (found rest u : ℕ) → Adding roles users start before table found rest
    → start + ones users ≤ 128 → So (has rest u) → found < 128
adding_room roles users start before table found rest u inv room there = let a = inv.few in let b = ones_some rest u there in omega arith

pub adding_more : (roles : ℕ → ℕ) (users start : ℕ) (before table : List ℕ) (found rest u x found' rest' : ℕ) (table' : List ℕ)
    → Adding roles users start before table found rest → So (has rest u) → x ≡ roles u
    → (found' ≤ found + 1)
    × ((met v : ℕ) (f : ℕ → ℕ) → SamplesOf met f found (entries table) → x ≡ f v → SamplesOf (met ∪ single v) f found' (entries table'))
    → rest' ≡ rest ∖ single u → Adding roles users start before table' found' rest'
adding_more roles users start before table found rest u x found' rest' table' inv there e put er =
    record {
      within = (subset_iff rest' users).1 (λ i t. (subset_iff rest users).0 inv.within i ((∖-iff rest (single u) i).0 (rw er at t)).0);
      few =
          let a = put.0 in
          let b = inv.few in
          let d : ones rest' + 1 ≡ ones rest = rw (er, add-one) (ones_without rest u there) in
          omega arith;
      samples = λ met s. rw (er, ← met_more met users rest u inv.within there) (put.1 (met ∪ (users ∖ rest)) u roles (inv.samples met s) e);
    }

pub adding_all : (roles : ℕ → ℕ) (users start : ℕ) (before table : List ℕ) (found rest : ℕ) → Adding roles users start before table found rest → rest ≡ 0
    → (found ≤ start + ones users)
    × ((met : ℕ) → SamplesOf met roles start (entries before) → SamplesOf (met ∪ users) roles found (entries table))
adding_all roles users start before table found rest inv e =
    let whole : users ∖ rest ≡ users =
    same_set (users ∖ rest) users (λ i t. ((∖-iff users rest i).0 t).0) (λ i t. (∖-iff users rest i).1 (t, λ x. So-not (has-zero i) (rw e at x))) in (
      let a = inv.few in omega arith,
      λ met s. rw whole at (inv.samples met s),
    )

-- ---- role by role, from the last down: whoever has a role from k on is met

pub record Meeting (index : Index) (c : ℕ) (table : List ℕ) (count met k : ℕ) : Type 0 where
  pub left : k ≤ c
  pub few : count ≤ ones met
  pub small : met < 2 ^ 128
  pub samples : SamplesOf met (entries index.roles) count (entries table)
  pub holder : (u : ℕ) → So (has met u) → (j : ℕ) × (j < c) × So (has (entries index.users j) u)
  pub done : (u j : ℕ) → k ≤ j → j < c → So (has (entries index.users j) u) → So (has met u)

pub meeting_start : (index : Index) (c : ℕ) (table : List ℕ) (met : ℕ) → met ≡ 0 → met < 2 ^ 128 → Meeting index c table 0 met c
meeting_start index c table met e small =
    let none : (u : ℕ) → So (has met u) → ⊥ = λ u t. So-not (has-zero u) (rw e at t) in
    record {
      left = omega arith;
      few = omega arith;
      small = small;
      samples = record { user_of = λ i l. absurd (let z : ⊥ = omega arith in z); sample_of = λ u t. absurd (none u t) };
      holder = λ u t. absurd (none u t);
      done = λ u j l h t. absurd (let z : ⊥ = omega arith in z);
    }

module _ (index : Index) (c : ℕ) (table : List ℕ) (count met k x users : ℕ) (some : 0 < k) (inv : Meeting index c table count met k)
    (ex : x ≡ entries index.users (k - 1)) (eu : users ≡ x ∖ met) (narrow : users < 2 ^ 128) where
  met_count : ones (met ∪ users) ≡ ones met + ones users
  met_count =
      ones_disjoint met users ((disjoint_iff met users).1 (λ u t h. ((∖-iff x met u).0 (rw eu at h)).1 t))

  -- there is room for all of them
  pub meeting_room : count + ones users ≤ 128
  meeting_room =
      let a = inv.few in
      let b = ones-le 128 (met ∪ users) (∪-lt 128 met users inv.small narrow) in
      let e = met_count in
      omega arith

  pub meeting_more : (table' : List ℕ) (count' met' : ℕ)
      → (count' ≤ count + ones users)
      × ((m : ℕ) → SamplesOf m (entries index.roles) count (entries table) → SamplesOf (m ∪ users) (entries index.roles) count' (entries table'))
      → met' ≡ met ∪ users → Meeting index c table' count' met' (k - 1)
  meeting_more table' count' met' put em =
      let lk = inv.left in
      record {
        left = omega arith;
        few = let a = inv.few in let b = put.0 in let e : ones met' ≡ ones met + ones users = rw em met_count in omega arith;
        small = rw em (∪-lt 128 met users inv.small narrow);
        samples = rw em (put.1 met inv.samples);
        holder = λ u t.
            ⊎_elim (λ y. inv.holder u y) (λ y. (k - 1, omega arith, rw ex at ((∖-iff x met u).0 (rw eu at y)).0)) ((∪-iff met users u).0 (rw em at t));
        done = λ u j l h t.
            rw em
            ((∪-iff met users u).1
            (by_test (has met u) (λ y. ◌⊎◌.inl y)
            (λ y.
            equal_or j (k - 1) (λ (d : j ≡ k - 1). ◌⊎◌.inr (rw eu ((∖-iff x met u).1 (rw ex (rw d at t), So-not y))))
            (λ d. ◌⊎◌.inl (inv.done u j (omega arith) h t)))));
      }

-- ---- the users that have a role

pub with_roles_iff : (ρ : Roles) (u : ℕ) → So (has (users_with_roles ρ) u) ↔ ((k : ℕ) × So (has (roles_of_user ρ u) k))
unfolding users_with_roles
with_roles_iff ρ u =
    let test : ℕ → Bool = λ u. isnt (eqb (roles_of_user ρ u) 0) in (
      λ t.
          let a = (collect_iff ρ.users test u).0 t in
          item_of (roles_of_user ρ u) (λ e. (isnt_iff (eqb (roles_of_user ρ u) 0)).0 a.1 ((eqb_iff (roles_of_user ρ u) 0).1 e)),
      λ w.
          (collect_iff ρ.users test u).1 (
            ((user_iff ρ w.0 u).0 ((roles_of_user_iff ρ u w.0).0 w.1).1).0,
            (isnt_iff (eqb (roles_of_user ρ u) 0)).1
                (λ e. let z : roles_of_user ρ u ≡ 0 = (eqb_iff (roles_of_user ρ u) 0).0 e in So-not (has-zero w.0) (rw z at w.1)),
          ),
    )

-- all users are met that have a role
module _ (index : Index) (c : ℕ) (table : List ℕ) (count met k : ℕ) (few : c ≤ 128) (last : k ≡ 0) (inv : Meeting index c table count met k) where
  module _ (ρ : Roles) (e : candidate_count ρ ≡ c) (ix : Indexed ρ index) where
    users_read : (j : ℕ) → j < c → entries index.users j ≡ authorised_users ρ j
    users_read j l = ix.role_users j (rw e l)

    -- a user that is met is a user of some role
    met_user : (u : ℕ) → So (has met u) → (j : ℕ) × (j < c) × So (has (authorised_users ρ j) u)
    met_user u t = let w = inv.holder u t in (w.0, w.1, rw (users_read w.0 w.1) at w.2)

    roles_read : (u : ℕ) → So (has met u) → entries index.roles u ≡ roles_of_user ρ u
    roles_read u t =
        let w = met_user u t in
        ix.user_roles u ((user_iff ρ w.0 u).0 w.2).0

    met_users : met ≡ users_with_roles ρ
    met_users =
        same_set met (users_with_roles ρ)
        (λ u t. let w = met_user u t in (with_roles_iff ρ u).1 (w.0, (roles_of_user_iff ρ u w.0).1 (rw e w.1, w.2)))
        (λ u t.
        let w = (with_roles_iff ρ u).0 t in
        let a = (roles_of_user_iff ρ u w.0).0 w.1 in
        let l : w.0 < c = rw e at a.0 in
        inv.done u w.0 (omega arith) l (rw (users_read w.0 l) a.1))

    met_samples : SamplesOf met (roles_of_user ρ) count (entries table)
    met_samples =
        record {
          user_of = λ i l. let w = inv.samples.user_of i l in (w.0, w.1, w.2 ∙ roles_read w.0 w.1);
          sample_of = λ u t. let w = inv.samples.sample_of u t in (w.0, w.1, w.2 ∙ roles_read u t);
        }

  pub meeting_all : (count ≤ 128)
      × ((ρ : Roles) → candidate_count ρ ≡ c → Indexed ρ index → SamplesOf (users_with_roles ρ) (roles_of_user ρ) count (entries table))
  meeting_all =
      let a = inv.few in
      let b = ones-le 128 met inv.small in
      (omega arith, λ ρ e ix. rw (met_users ρ e ix) at (met_samples ρ e ix))
