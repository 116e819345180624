-- The own roles, met user by user; and the roles below a role that is nobody's row, from those that users share.
-- Assumes nothing.
use mathlib.Core.Path.{◌≡◌, refl, sym, ◌∙◌, ap}
use mathlib.Core.Bool.{Bool, So}
use mathlib.Core.Logic.{◌↔◌, ◌≢◌, ◌⊎◌, ⊎_elim}
use mathlib.Core.List.{List}
use Prim.Native.Nat.{ℕ, ◌+◌, ◌*◌, ◌^◌, ◌≤◌, ◌<◌}
use native.Mathlib.Nat.{not-suc-le-zero, lt_of_lt_of_le}
use native.Mathlib.Numerals.{add-one}
use native.Mathlib.Omega.{arith}
use lib.Dec.{ltb}
use lib.ListN.{length, get_or}
use Rattle.sets.specs.Truth.{when◌then◌else◌, ◌implies◌, all}
use Rattle.sets.specs.Sets.{has, ◌∩◌, ◌∪◌, ◌∖◌, single, subset, collect}
use Rattle.sets.proofs.Truth.{by_test, So-not, implies_iff, all_iff, below_suc, equal_or, ltb_iff, when-true}
use Rattle.sets.proofs.Members.{same_set, has-zero, empty_of}
use Rattle.sets.proofs.Order.{collect_iff, ∩-iff, ∪-iff, ∖-iff, single_iff, subset_iff, proper_iff}
use Rattle.model.specs.Lists.{set_at}
use Rattle.model.specs.Hierarchy.{candidate_count, permission_set, authorised_users}
use Rattle.model.specs.Indexes.{lower, roles_of_user}
use Rattle.model.specs.State.{State, roles_of}
use Rattle.model.proofs.Reading.{user_iff}
use Rattle.model.specs.Record.{Limits}
use Rattle.model.proofs.Shortcuts.{lower_iff, roles_of_user_iff}
use Rattle.model.proofs.Intervals.{shared-lower, someone}
use Rattle.stores.specs.Stores.{put_at}
use Rattle.tables.specs.Stores.{words_of}
use Rattle.tables.specs.Tables.{HoldsSets}
use Rattle.tables.proofs.Stores.{stored_back}
use Rattle.tables.proofs.Tables.{beside, HeldBut}
use Rattle.indexes.specs.Tables.{Source, Owned, shared_by}
use Rattle.indexes.proofs.Sources.{numbered, nonempty, source_count, low_found}

-- ---- own roles

pub own_start : (st : State) (low : List ℕ) (roles users : ℕ) → roles ≡ 0 → Owned st 0 low roles users
own_start st low roles users e =
    record {
      entries = λ f t. absurd (So-not (has-zero f) (rw e at t));
      spoken = λ f t. absurd (So-not (has-zero f) (rw e at t));
      passed = λ u l. absurd (not-suc-le-zero l);
    }

-- one user more
pub own_more : (st : State) (u : ℕ) (low : List ℕ) (roles users : ℕ) → Owned st u low roles users
    → (get_or st.rows u 0 ≡ 0) ⊎ ((e : ℕ) × So (has roles e) × (permission_set (roles_of st) e ≡ get_or st.rows u 0)) → Owned st (u + 1) low roles users
own_more st u low roles users h fact =
    record {
      entries = h.entries;
      spoken = h.spoken;
      passed = λ v l. below_suc v u (rw (add-one u) at l) (λ (same : v ≡ u). rw same fact) (λ b. h.passed v b);
    }

-- one own role more
pub own_learnt : (st : State) (crew : List ℕ) (n : ℕ) (table : List ℕ) (c : ℕ) → Source st crew n table c → (low : List ℕ) (roles users i e u x roles' users' : ℕ)
    → Owned st i low roles users → length low ≡ 256 → e < 128 → u < 128 → e < c → u < n → permission_set (roles_of st) e ≡ get_or st.rows u 0
    → x ≡ collect e (λ j. subset (set_at 4 table (4 * j)) (set_at 4 table (4 * e))) → x < 2 ^ 128
    → roles' ≡ (when ltb e 128 then roles ∪ single e else roles) → users' ≡ (when ltb u 128 then users ∪ single u else users)
    → Owned st i (put_at low (2 * e) (words_of 2 x)) roles' users' × So (has roles' e)
own_learnt st crew n table c src low roles users i e u x roles' users' h size le lu lc ln own ex small er eu =
    let more : roles' ≡ roles ∪ single e = er ∙ when-true (ltb e 128) (roles ∪ single e) roles ((ltb_iff e 128).1 le) in
    let others : users' ≡ users ∪ single u = eu ∙ when-true (ltb u 128) (users ∪ single u) users ((ltb_iff u 128).1 lu) in
    let old : (f : ℕ) → f ≢ e → So (has roles' f) → So (has roles f) =
    λ f d t. ⊎_elim (λ q. q) (λ q. absurd (d (sym ((single_iff e f).0 q)))) ((∪-iff roles (single e) f).0 (rw more at t)) in
    let there : So (has roles' e) = rw more ((∪-iff roles (single e) e).1 (◌⊎◌.inr ((single_iff e e).1 refl))) in (
      record {
        entries = λ f t.
            equal_or f e
            (λ (same : f ≡ e). rw same (rw (source_count st crew n table c src) lc, stored_back low (2 * e) 2 x (omega arith) small ∙ ex ∙ low_found st crew n table c src e lc))
            (λ d. let k = h.entries f (old f d t) in (k.0, beside low e x f d ∙ k.1));
        spoken = λ f t.
            equal_or f e
            (λ (same : f ≡ e). (u, rw others ((∪-iff users (single u) u).1 (◌⊎◌.inr ((single_iff u u).1 refl))), rw src.users ln, rw same (sym own)))
            (λ d. let w = h.spoken f (old f d t) in (w.0, rw others ((∪-iff users (single u) w.0).1 (◌⊎◌.inl w.1)), w.2, w.3));
        passed = λ v l.
            ⊎_elim (λ z. ◌⊎◌.inl z) (λ w. ◌⊎◌.inr (w.0, rw more ((∪-iff roles (single e) w.0).1 (◌⊎◌.inl w.1)), w.2)) (h.passed v l);
      },
      there,
    )

-- ---- what users share

pub shared_iff : (ws : List ℕ) (us j : ℕ)
    → So (has (shared_by ws us) j) ↔ ((j < 128) × ((u : ℕ) → u < 128 → So (has us u) → So (has (set_at 2 ws (2 * u)) j)))
unfolding shared_by
shared_iff ws us j =
    let inner : ℕ → ℕ → Bool = λ j u. has us u implies has (set_at 2 ws (2 * u)) j in (
      λ h.
          let a = (collect_iff 128 (λ j. all 128 (inner j)) j).0 h in
          (a.0, λ u l x. (implies_iff (has us u) (has (set_at 2 ws (2 * u)) j)).0 ((all_iff 128 (inner j)).0 a.1 u l) x),
      λ f. (collect_iff 128 (λ j. all 128 (inner j)) j).1 (f.0, (all_iff 128 (inner j)).1 (λ u l. (implies_iff (has us u) (has (set_at 2 ws (2 * u)) j)).1 (f.1 u l))),
    )

-- what is left of all roles when the roles of the users us but those of rest were met
abbrev pub Sharing : List ℕ → ℕ → ℕ → ℕ → Type 0
Sharing ws us left rest = (j : ℕ) → So (has left j) ↔ ((j < 128) × ((u : ℕ) → u < 128 → So (has us u) → (So (has rest u) → ⊥) → So (has (set_at 2 ws (2 * u)) j)))

pub sharing_start : (ws : List ℕ) (us left : ℕ) → left ≡ collect 128 (λ i. ltb i 128) → Sharing ws us left us
sharing_start ws us left e j = (
  λ h. let a = (collect_iff 128 (λ i. ltb i 128) j).0 (rw e at h) in (a.0, λ u l x d. absurd (d x)),
  λ f. rw e ((collect_iff 128 (λ i. ltb i 128) j).1 (f.0, (ltb_iff j 128).1 f.0)),
)

pub sharing_more : (ws : List ℕ) (us left rest u x left' rest' : ℕ) → Sharing ws us left rest → u < 128 → So (has us u) → x ≡ set_at 2 ws (2 * u) → left' ≡ left ∩ x → rest' ≡ rest ∖ single u
    → Sharing ws us left' rest'
sharing_more ws us left rest u x left' rest' h lu hu ex el er j = (
  λ t.
      let a = (∩-iff left x j).0 (rw el at t) in
      let b = (h j).0 a.0 in (
        b.0,
        λ v lv hv d.
            equal_or v u (λ (same : v ≡ u). rw same (rw ex at a.1))
            (λ other. b.1 v lv hv (λ y. d (rw er ((∖-iff rest (single u) v).1 (y, λ q. other (sym ((single_iff u v).0 q))))))),
      ),
  λ f.
      rw el
      ((∩-iff left x j).1 (
        (h j).1 (f.0, λ v lv hv d. f.1 v lv hv (λ y. d ((∖-iff rest (single u) v).0 (rw er at y)).0)),
        rw ex (f.1 u lu hu (λ y. ((∖-iff rest (single u) u).0 (rw er at y)).1 ((single_iff u u).1 refl))),
      )),
)

pub sharing_end : (ws : List ℕ) (us left rest : ℕ) → Sharing ws us left rest → rest ≡ 0 → left ≡ shared_by ws us
sharing_end ws us left rest h e =
    same_set left (shared_by ws us)
    (λ j t. let a = (h j).0 t in (shared_iff ws us j).1 (a.0, λ u l x. a.1 u l x (λ y. So-not (has-zero u) (rw e at y))))
    (λ j t. let a = (shared_iff ws us j).0 t in (h j).1 (a.0, λ u l x d. a.1 u l x))

-- ---- the roles below a role

module _ (st : State) (lim : Limits st) (low roles users : List ℕ) (known some : ℕ) (h : Owned st st.users low known some)
    (hr : HoldsSets 2 st.users (roles_of_user (roles_of st)) roles) (k : ℕ) (lk : k < candidate_count (roles_of st)) (e : set_at 2 users (2 * k) ≡ authorised_users (roles_of st) k) where
  -- each user of the role has the row of one that is asked
  speaks : (u : ℕ) → So (has (authorised_users (roles_of st) k) u) → (v : ℕ) × So (has some v) × (get_or st.rows v 0 ≡ get_or st.rows u 0) × (v < st.users)
  unfolding roles_of
  speaks u t =
      let a = (user_iff (roles_of st) k u).0 t in
      ⊎_elim
      (λ (z : get_or st.rows u 0 ≡ 0).
      absurd (nonempty st k lk (empty_of (permission_set (roles_of st) k) (λ p q. So-not (has-zero p) (rw z at ((subset_iff (permission_set (roles_of st) k) (get_or st.rows u 0)).0 a.1 p q))))))
      (λ w. let s = h.spoken w.0 w.1 in (s.0, s.1, s.3 ∙ w.2, s.2))
      (h.passed u a.0)

  asked : (v : ℕ) → v < st.users → So (has some v) → So (subset (permission_set (roles_of st) k) (get_or st.rows v 0)) → So (has (set_at 2 users (2 * k) ∩ some) v)
  unfolding roles_of
  asked v l t s = (∩-iff (set_at 2 users (2 * k)) some v).1 (rw e ((user_iff (roles_of st) k v).1 (l, s)), t)

  small : (v : ℕ) → v < st.users → v < 128
  small v l = lt_of_lt_of_le l lim.users_most

  pub shared_is : (x : ℕ) → x ≡ shared_by roles (set_at 2 users (2 * k) ∩ some) ∖ single k → x ≡ lower (roles_of st) k
  unfolding roles_of
  shared_is x ex =
      let ρ = roles_of st in
      let us = set_at 2 users (2 * k) ∩ some in
      let b = permission_set ρ k in
      ex
      ∙ same_set (shared_by roles us ∖ single k) (lower ρ k)
      (λ j t.
      let a = (∖-iff (shared_by roles us) (single k) j).0 t in
      let all = ((shared_iff roles us j).0 a.0).1 in
      let holds : (v : ℕ) → v < st.users → So (has us v) → So (has (roles_of_user ρ v) j) = λ v l y. rw (hr v l) at (all v (small v l) y) in
      let one = someone st lim k lk in
      let w = speaks one.0 one.1 in
      let within : So (subset b (get_or st.rows w.0 0)) = rw w.2 ((user_iff ρ k one.0).0 one.1).1 in
      let lj : j < candidate_count ρ = ((roles_of_user_iff ρ w.0 j).0 (holds w.0 w.3 (asked w.0 w.3 w.1 within))).0 in
      let inside = shared-lower st lim k lk some speaks j lj (λ v l y s. ((user_iff ρ j v).0 ((roles_of_user_iff ρ v j).0 (holds v l (asked v l y s))).1).1) in
      (lower_iff ρ k j).1 (lj, (proper_iff (permission_set ρ j) b).1 (inside, λ same. a.1 ((single_iff k j).1 (sym ((numbered st lim).distinct j k lj lk same))))))
      (λ j t.
      let a = (lower_iff ρ k j).0 t in
      let p = (proper_iff (permission_set ρ j) b).0 a.1 in
      (∖-iff (shared_by roles us) (single k) j).1 (
        (shared_iff roles us j).1 (
          lt_of_lt_of_le a.0 lim.candidates_most,
          λ u l y.
              let m = (user_iff ρ k u).0 (rw e at ((∩-iff (set_at 2 users (2 * k)) some u).0 y).0) in
              rw (hr u m.0) ((roles_of_user_iff ρ u j).1 (
                a.0,
                (user_iff ρ j u).1 (
                  m.0,
                  (subset_iff (permission_set ρ j) (get_or st.rows u 0)).1
                      (λ q g. (subset_iff b (get_or st.rows u 0)).0 m.1 q ((subset_iff (permission_set ρ j) b).0 p.0 q g)),
                ),
              )),
        ),
        λ q. p.1 (ap (permission_set ρ) (sym ((single_iff k j).0 q))),
      ))

-- ---- filled role by role

-- the set of all c roles
abbrev pub every_role : ℕ → ℕ
every_role c = collect 128 (λ i. ltb i c)

pub every_iff : (c : ℕ) → c ≤ 128 → (i : ℕ) → So (has (every_role c) i) ↔ (i < c)
every_iff c lc i = (
  λ t. (ltb_iff i c).0 ((collect_iff 128 (λ i. ltb i c) i).0 t).1,
  λ l. (collect_iff 128 (λ i. ltb i c) i).1 (lt_of_lt_of_le l lc, (ltb_iff i c).1 l),
)

-- at the start the own roles have their entries
pub lowered_start : (st : State) (n : ℕ) (low : List ℕ) (known users every rest : ℕ) → Owned st n low known users → rest ≡ every ∖ known → HeldBut every rest (lower (roles_of st)) low
lowered_start st n low known users every rest h er i t d =
    by_test (has known i) (λ k. (h.entries i k).1) (λ k. absurd (d (rw er ((∖-iff every known i).1 (t, So-not k)))))

-- the roles to do are candidates
pub to_do : (c every known rest : ℕ) → c ≤ 128 → every ≡ every_role c → rest ≡ every ∖ known → (i : ℕ) → So (has rest i) → i < c
to_do c every known rest lc ea er i t = (every_iff c lc i).0 (rw ea at ((∖-iff every known i).0 (rw er at t)).0)
