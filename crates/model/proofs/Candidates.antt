-- Mining: its tables grow, hold exactly the nonempty intersections of rows, and do not depend on the rows' order. What mining may skip.
-- Assumes nothing.
use mathlib.Core.Path.{◌≡◌, refl, sym, ◌∙◌, ap}
use mathlib.Core.Bool.{Bool, false, So}
use mathlib.Core.Logic.{◌↔◌, ◌≢◌, ◌⊎◌, ⊎_elim}
use mathlib.Core.List.{List, [], ◌∷◌, ◌++◌}
use Prim.Native.Nat.{ℕ, zero, suc, ◌^◌, ◌≤◌, ◌<◌}
use native.Mathlib.Nat.{le_refl, le_step, lt-suc_self, le_trans}
use native.Mathlib.Omega.{arith}
use lib.Dec.{eqb}
use lib.ListN.{length, get_or, take, drop, take-append-drop}
use lib.Seq.{take-suc, take-length}
use borrow.Author.Tests.{eqb-true, eq-eqb, ne_eqb}
use Rattle.sets.specs.Truth.{◌and◌, ◌or◌, ◌implies◌, when◌then◌else◌, any, all}
use Rattle.sets.specs.Sets.{has, ◌∩◌, ◌∖◌, single, subset, proper_subset, collect}
use Rattle.sets.proofs.Truth.{by_test, or_iff, same_test, not-So, So-not, reflect, equal_or, when-true, when-false}
use Rattle.sets.proofs.Members.{has-zero, below_power, same_set, item_below, below_of_items, item_of, has_above}
use Rattle.sets.proofs.Order.{∩-iff, ∖-iff, ∖-lt, single_iff, subset_iff, subset_refl, subset-≤, proper_iff, proper-<, proper_subset_lem, collect_lt, collect_iff, zero-∩, ∩-comm}
use Rattle.model.specs.Candidates.{place, admit, admit_meets, add_row, mined_to, candidates, Intersection, Listed, Growing, Table}
use Rattle.model.proofs.Growing.{Among, listed_at, listed-none, listed-first, listed_later, listed_cons, growing_none, growing_later, growing_place, among_length, among_equal, place_new, place_old, place_iff, place_growing, place-listed, place-length}

∩-zero : (a : ℕ) → a ∩ 0 ≡ 0
∩-zero a = ∩-comm a 0 ∙ zero-∩ a

-- ---- admitting a set

admit_cases : (C : List ℕ → Type 0) (x : ℕ) (xs : List ℕ) → (x ≡ 0 → C xs) → (x ≢ 0 → C (place x xs)) → C (admit x xs)
unfolding admit
admit_cases C x xs empty other =
    equal_or x 0 (λ e. rw (when-true (eqb x 0) _ _ (eq-eqb x 0 e)) (empty e)) (λ d. rw (when-false (eqb x 0) _ _ (ne_eqb x 0 d)) (other d))

pub admit_empty : (xs : List ℕ) → admit 0 xs ≡ xs
admit_empty xs = admit_cases (λ l. l ≡ xs) 0 xs (λ e. refl) (λ d. absurd (d refl))

pub admit-place : (x : ℕ) (xs : List ℕ) → x ≢ 0 → admit x xs ≡ place x xs
admit-place x xs h = admit_cases (λ l. l ≡ place x xs) x xs (λ e. absurd (h e)) (λ d. refl)

pub admit-listed : {x : ℕ} {xs : List ℕ} → Growing xs → Listed xs x → admit x xs ≡ xs
admit-listed {x} {xs} g l = admit_cases (λ t. t ≡ xs) x xs (λ e. refl) (λ d. place-listed g l)

-- a set that is empty or listed is admitted without change
pub admit-idle : {x : ℕ} {xs : List ℕ} → Growing xs → (x ≡ 0) ⊎ Listed xs x → admit x xs ≡ xs
admit-idle {x} {xs} g = ⊎_elim (λ (e : x ≡ 0). rw e (admit_empty xs)) (admit-listed g)

pub admit_growing : (x : ℕ) (xs : List ℕ) → Growing xs → Growing (admit x xs)
admit_growing x xs g = admit_cases Growing x xs (λ e. g) (λ d. place_growing x xs g)

pub admit_new : (x : ℕ) (xs : List ℕ) → x ≢ 0 → Listed (admit x xs) x
admit_new x xs h = rw (admit-place x xs h) (place_new x xs)

pub admit_old : (x : ℕ) (xs : List ℕ) → Among xs (admit x xs)
admit_old x xs z l = admit_cases (λ t. Listed t z) x xs (λ e. l) (λ d. place_old x xs z l)

pub admit_is : (x : ℕ) (xs : List ℕ) (z : ℕ) → Listed (admit x xs) z → ((z ≡ x) × (z ≢ 0)) ⊎ Listed xs z
admit_is x xs z =
    admit_cases (λ t. Listed t z → ((z ≡ x) × (z ≢ 0)) ⊎ Listed xs z) x xs (λ e l. ◌⊎◌.inr l)
    (λ d l. ⊎_elim (λ (e : z ≡ x). ◌⊎◌.inl (e, rw e d)) ◌⊎◌.inr ((place_iff x xs z).0 l))

pub admit-length : (x : ℕ) (xs : List ℕ) → (length (admit x xs) ≡ length xs) ⊎ (length (admit x xs) ≡ suc (length xs))
admit-length x xs =
    admit_cases (λ t. (length t ≡ length xs) ⊎ (length t ≡ suc (length xs))) x xs (λ e. ◌⊎◌.inl refl) (λ d. place-length x xs)

-- ---- what an intersection can add

-- the intersection of r and x is empty, is r, or is x
unfoldable pub idle : ℕ → ℕ → Bool
idle r x = eqb (r ∩ x) 0 or eqb (r ∩ x) r or eqb (r ∩ x) x

idle_cases {ℓ} : {C : Type ℓ} (r x : ℕ) → So (idle r x) → (r ∩ x ≡ 0 → C) → (r ∩ x ≡ r → C) → (r ∩ x ≡ x → C) → C
unfolding idle
idle_cases r x h empty row set =
    let m = r ∩ x in
    ⊎_elim (λ t. ⊎_elim (λ e. empty (eqb-true m 0 e)) (λ e. row (eqb-true m r e)) ((or_iff (eqb m 0) (eqb m r)).0 t))
    (λ e. set (eqb-true m x e)) ((or_iff (eqb m 0 or eqb m r) (eqb m x)).0 h)

pub idle_empty : (r x : ℕ) → r ∩ x ≡ 0 → So (idle r x)
unfolding idle
idle_empty r x e =
    let m = r ∩ x in
    (or_iff (eqb m 0 or eqb m r) (eqb m x)).1 (◌⊎◌.inl ((or_iff (eqb m 0) (eqb m r)).1 (◌⊎◌.inl (eq-eqb m 0 e))))

-- an idle one adds nothing to a table that has x, and r unless it is empty; any other is placed
module _ {table : List ℕ} (r x : ℕ) (g : Growing table) (row : (r ≡ 0) ⊎ Listed table r) (set : Listed table x) where
  pub admit_meet_idle : So (idle r x) → admit (r ∩ x) table ≡ table
  admit_meet_idle h =
      admit-idle g
      (idle_cases r x h ◌⊎◌.inl (λ e. ⊎_elim (λ z. ◌⊎◌.inl (e ∙ z)) (λ l. ◌⊎◌.inr (rw e l)) row) (λ e. ◌⊎◌.inr (rw e set)))

  pub admit_meet : admit (r ∩ x) table ≡ (when idle r x then table else place (r ∩ x) table)
  admit_meet =
      by_test (idle r x) (λ t. admit_meet_idle t ∙ sym (when-true _ _ _ t))
      (λ t. admit-place (r ∩ x) table (λ e. So-not t (idle_empty r x e)) ∙ sym (when-false _ _ _ t))

  pub meets_skip : So (idle r x) → (xs : List ℕ) → admit_meets r (x ∷ xs) table ≡ admit_meets r xs table
  unfolding admit_meets
  meets_skip h xs = rw (admit_meet_idle h)

-- ---- admitting the intersections of a row with the sets of a list

-- y is such an intersection, and not empty
pub record Met (r : ℕ) (xs : List ℕ) (y : ℕ) : Type 0 where
  pub other : ℕ
  pub listed : Listed xs other
  pub meet : y ≡ r ∩ other
  pub nonempty : y ≢ 0

pub meets_growing : (r : ℕ) (xs table : List ℕ) → Growing table → Growing (admit_meets r xs table)
unfolding admit_meets
meets_growing r [] table g = g
meets_growing r (x ∷ xs) table g = meets_growing r xs (admit (r ∩ x) table) (admit_growing (r ∩ x) table g)

pub meets_old : (r : ℕ) (xs table : List ℕ) → Among table (admit_meets r xs table)
unfolding admit_meets
meets_old r [] table z l = l
meets_old r (x ∷ xs) table z l = meets_old r xs (admit (r ∩ x) table) z (admit_old (r ∩ x) table z l)

pub meets_new : (r : ℕ) (xs table : List ℕ) (y : ℕ) → Met r xs y → Listed (admit_meets r xs table) y
unfolding admit_meets
meets_new r [] table y m = absurd (listed-none m.listed)
meets_new r (x ∷ xs) table y m =
    listed_cons m.listed
    (λ e.
    let q : y ≡ r ∩ x = m.meet ∙ ap (λ (z : ℕ). r ∩ z) e in
    meets_old r xs (admit (r ∩ x) table) y (rw q (admit_new (r ∩ x) table (rw q at m.nonempty))))
    (λ l. meets_new r xs (admit (r ∩ x) table) y (record { other = m.other; listed = l; meet = m.meet; nonempty = m.nonempty }))

pub meets_is : (r : ℕ) (xs table : List ℕ) (y : ℕ) → Listed (admit_meets r xs table) y → Listed table y ⊎ Met r xs y
unfolding admit_meets
meets_is r [] table y l = ◌⊎◌.inl l
meets_is r (x ∷ xs) table y l =
    ⊎_elim
    (λ l. ⊎_elim (λ k. ◌⊎◌.inr (record { other = x; listed = listed-first refl; meet = k.0; nonempty = k.1 })) ◌⊎◌.inl (admit_is (r ∩ x) table y l))
    (λ m. ◌⊎◌.inr (record { other = m.other; listed = listed_later m.listed; meet = m.meet; nonempty = m.nonempty }))
    (meets_is r xs (admit (r ∩ x) table) y l)

-- intersections that are all empty or listed change nothing
pub meets_idle : (r : ℕ) (xs table : List ℕ) → ((x : ℕ) → Listed xs x → admit (r ∩ x) table ≡ table) → admit_meets r xs table ≡ table
unfolding admit_meets
meets_idle r [] table h = refl
meets_idle r (x ∷ xs) table h = rw (h x (listed-first refl)) (meets_idle r xs table (λ z l. h z (listed_later l)))

pub meets_append : (r : ℕ) (xs ys table : List ℕ) → admit_meets r (xs ++ ys) table ≡ admit_meets r ys (admit_meets r xs table)
unfolding admit_meets
meets_append r [] ys table = refl
meets_append r (x ∷ xs) ys table = meets_append r xs ys (admit (r ∩ x) table)

pub meets_length : (r : ℕ) (xs table : List ℕ) → length table ≤ length (admit_meets r xs table)
unfolding admit_meets
meets_length r [] table = le_refl (length table)
meets_length r (x ∷ xs) table =
    let k = meets_length r xs (admit (r ∩ x) table) in
    ⊎_elim (λ e. omega arith) (λ e. omega arith) (admit-length (r ∩ x) table)

-- ---- one more row

pub add_growing : (r : ℕ) (xs : List ℕ) → Growing xs → Growing (add_row r xs)
unfolding add_row
add_growing r xs g = meets_growing r xs (admit r xs) (admit_growing r xs g)

pub add_old : (r : ℕ) (xs : List ℕ) → Among xs (add_row r xs)
unfolding add_row
add_old r xs z l = meets_old r xs (admit r xs) z (admit_old r xs z l)

pub add_row_lem : (r : ℕ) (xs : List ℕ) → r ≢ 0 → Listed (add_row r xs) r
unfolding add_row
add_row_lem r xs h = meets_old r xs (admit r xs) r (admit_new r xs h)

pub add_meet : (r : ℕ) (xs : List ℕ) (y : ℕ) → Met r xs y → Listed (add_row r xs) y
unfolding add_row
add_meet r xs y m = meets_new r xs (admit r xs) y m

pub add_is : (r : ℕ) (xs : List ℕ) (y : ℕ) → Listed (add_row r xs) y → Listed xs y ⊎ (((y ≡ r) × (y ≢ 0)) ⊎ Met r xs y)
unfolding add_row
add_is r xs y l =
    ⊎_elim (λ k. ⊎_elim (λ e. ◌⊎◌.inr (◌⊎◌.inl e)) ◌⊎◌.inl (admit_is r xs y k)) (λ m. ◌⊎◌.inr (◌⊎◌.inr m)) (meets_is r xs (admit r xs) y l)

-- ---- intersections of the first n rows

-- each of the first n rows is one of the first n' others
abbrev pub RowsAmong : List ℕ → ℕ → List ℕ → ℕ → Type 0
RowsAmong rows n rows' n' = (u : ℕ) → u < n → (v : ℕ) × (v < n') × (get_or rows' v 0 ≡ get_or rows u 0)

-- the users that a test gives
meet_of : (rows : List ℕ) (n x : ℕ) (f : ℕ → Bool) (u : ℕ) → u < n → So (f u)
    → ((p : ℕ) → So (has x p) → (v : ℕ) → v < n → So (f v) → So (has (get_or rows v 0) p))
    → ((p : ℕ) → ((v : ℕ) → v < n → So (f v) → So (has (get_or rows v 0) p)) → So (has x p)) → Intersection rows n x
meet_of rows n x f u h s to back =
    record {
      users = collect n f;
      within = collect_lt n f;
      nonempty = λ e. So-not (has-zero u) (rw e at ((collect_iff n f u).1 (h, s)));
      exactly = λ p. (λ t v k. let c = (collect_iff n f v).0 k in to p t v c.0 c.1, λ k. back p (λ v l t. k v ((collect_iff n f v).1 (l, t))));
    }

user_below : {rows : List ℕ} {n x : ℕ} (m : Intersection rows n x) (u : ℕ) → So (has m.users u) → u < n
user_below {n = n} m u t = item_below n m.users u m.within t

someone : {rows : List ℕ} {n x : ℕ} (m : Intersection rows n x) → (u : ℕ) × So (has m.users u)
someone m = item_of m.users m.nonempty

-- a set without its top item is smaller
shrink : (n s : ℕ) → s < 2 ^ suc n → has s n ≡ false → s < 2 ^ n
shrink n s h t = below_of_items n s (λ i l. equal_or i n (λ (e : i ≡ n). rw e t) (λ d. has_above (suc n) s i h (omega arith)))

pub meet_row : (rows : List ℕ) (n u : ℕ) → u < n → Intersection rows n (get_or rows u 0)
meet_row rows n u h =
    meet_of rows n (get_or rows u 0) (eqb u) u h (eq-eqb u u refl)
    (λ p t v l e. let q : u ≡ v = eqb-true u v e in rw q at t) (λ p k. k u h (eq-eqb u u refl))

pub meet-∩ : {rows : List ℕ} {n x y : ℕ} → Intersection rows n x → Intersection rows n y → Intersection rows n (x ∩ y)
meet-∩ {rows} {n} {x} {y} a b =
    let w = someone a in
    let both : ℕ → Bool = λ u. has a.users u or has b.users u in
    let one : (u : ℕ) → So (both u) ↔ (So (has a.users u) ⊎ So (has b.users u)) = λ u. or_iff (has a.users u) (has b.users u) in
    meet_of rows n (x ∩ y) both w.0 (user_below a w.0 w.1) ((one w.0).1 (◌⊎◌.inl w.1))
    (λ p t v l s. let k = (∩-iff x y p).0 t in ⊎_elim ((a.exactly p).0 k.0 v) ((b.exactly p).0 k.1 v) ((one v).0 s))
    (λ p k.
    (∩-iff x y p).1 (
      (a.exactly p).1 (λ v s. k v (user_below a v s) ((one v).1 (◌⊎◌.inl s))),
      (b.exactly p).1 (λ v s. k v (user_below b v s) ((one v).1 (◌⊎◌.inr s))),
    ))

-- an intersection of rows is one of any rows that these are among
pub meet_more : {rows rows' : List ℕ} {n n' x : ℕ} → RowsAmong rows n rows' n' → Intersection rows n x → Intersection rows' n' x
meet_more {rows} {rows'} {n} {n'} {x} f m =
    let w = someone m in
    let o = f w.0 (user_below m w.0 w.1) in
    let same : ℕ → Bool = λ v. any n (λ u. has m.users u and eqb (get_or rows u 0) (get_or rows' v 0)) in
    let make : (u v : ℕ) → So (has m.users u) → get_or rows' v 0 ≡ get_or rows u 0 → So (same v) =
    λ u v t e. simp reflect (u, user_below m u t, (t, sym e)) in
    meet_of rows' n' x same o.0 o.1 (make w.0 o.0 w.1 o.2)
    (λ p t v l s.
    let k : (u : ℕ) × (u < n) × (So (has m.users u) × (get_or rows u 0 ≡ get_or rows' v 0)) = simp reflect at s in
    rw k.2.1 at ((m.exactly p).0 t k.0 k.2.0))
    (λ p k. (m.exactly p).1 (λ u t. let q = f u (user_below m u t) in rw q.2 at (k q.0 q.1 (make u q.0 t q.2))))

-- and lies within a row
pub meet_within : {rows : List ℕ} {n x : ℕ} → Intersection rows n x → (u : ℕ) × (u < n) × So (subset x (get_or rows u 0))
meet_within {rows} {n} {x} m =
    let w = someone m in
    (w.0, user_below m w.0 w.1, (subset_iff x (get_or rows w.0 0)).1 (λ p t. (m.exactly p).0 t w.0 w.1))

-- any nonempty set of users has its intersection
meet_made : (rows : List ℕ) (n users : ℕ) → users < 2 ^ n → users ≢ 0
    → (x : ℕ) × ((p : ℕ) → So (has x p) ↔ ((u : ℕ) → So (has users u) → So (has (get_or rows u 0) p)))
meet_made rows n users h d =
    let w = item_of users d in
    let b = get_or rows w.0 0 in
    let common : ℕ → Bool = λ p. all n (λ u. has users u implies has (get_or rows u 0) p) in
    let to : (p : ℕ) → So (has (collect b common) p) → (u : ℕ) → So (has users u) → So (has (get_or rows u 0) p) =
    λ p t u k.
    let f : (v : ℕ) → v < n → So (has users v) → So (has (get_or rows v 0) p) = simp reflect at ((collect_iff b common p).0 t).1 in
    f u (item_below n users u h k) k in
    let back : (p : ℕ) → ((u : ℕ) → So (has users u) → So (has (get_or rows u 0) p)) → So (has (collect b common) p) =
    λ p k. (collect_iff b common p).1 (item_below b b p (below_power b) (k w.0 w.1), simp reflect (λ u l. k u)) in
    (collect b common, λ p. (to p, back p))

-- the users of an intersection that has the last of suc n rows, but that one
module _ {rows : List ℕ} {n x : ℕ} (m : Intersection rows (suc n) x) (last : So (has m.users n)) where
  abbrev others : ℕ
  others = m.users ∖ single n

  others_lt : others < 2 ^ n
  others_lt =
      shrink n others (∖-lt (suc n) m.users (single n) m.within)
      (not-So (has others n) (λ q. ((∖-iff m.users (single n) n).0 q).1 ((single_iff n n).1 refl)))

  from_both : (p : ℕ) → So (has (get_or rows n 0) p) → ((u : ℕ) → So (has others u) → So (has (get_or rows u 0) p)) → So (has x p)
  from_both p s f =
      (m.exactly p).1
      (λ u k. equal_or u n (λ (e : u ≡ n). rw e s) (λ d. f u ((∖-iff m.users (single n) u).1 (k, λ q. d (sym ((single_iff n u).0 q))))))

  alone : others ≡ 0 → x ≡ get_or rows n 0
  alone e =
      same_set x (get_or rows n 0) (λ p s. (m.exactly p).0 s n last)
      (λ p s. from_both p s (λ u q. absurd (So-not (has-zero u) (rw e at q))))

  joined : others ≢ 0 → (y : ℕ) × Intersection rows n y × (x ≡ get_or rows n 0 ∩ y)
  joined d =
      let r = get_or rows n 0 in
      let y = meet_made rows n others others_lt d in
      let e : x ≡ r ∩ y.0 =
      same_set x (r ∩ y.0)
      (λ p s. (∩-iff r y.0 p).1 ((m.exactly p).0 s n last, (y.1 p).1 (λ u k. (m.exactly p).0 s u ((∖-iff m.users (single n) u).0 k).0)))
      (λ p s. let k = (∩-iff r y.0 p).0 s in from_both p k.0 ((y.1 p).0 k.1)) in
      (y.0, record { users = others; within = others_lt; nonempty = d; exactly = y.1 }, e)

-- an intersection of suc n rows is one of n rows, or row n, or the intersection of row n with one of n rows
meet_last : {rows : List ℕ} {n x : ℕ} → Intersection rows (suc n) x
    → Intersection rows n x ⊎ ((x ≡ get_or rows n 0) ⊎ ((y : ℕ) × Intersection rows n y × (x ≡ get_or rows n 0 ∩ y)))
meet_last {rows} {n} {x} m =
    by_test (has m.users n)
    (λ t. ◌⊎◌.inr (equal_or (others m t) 0 (λ e. ◌⊎◌.inl (alone m t e)) (λ d. ◌⊎◌.inr (joined m t d))))
    (λ t. ◌⊎◌.inl (record { users = m.users; within = shrink n m.users m.within t; nonempty = m.nonempty; exactly = m.exactly }))

-- ---- the candidates of the first n rows

pub mined_suc : (rows : List ℕ) (n : ℕ) → mined_to rows (suc n) ≡ add_row (get_or rows n 0) (mined_to rows n)
unfolding mined_to
mined_suc rows n = refl

pub mined_growing : (rows : List ℕ) (n : ℕ) → Growing (mined_to rows n)
unfolding mined_to
mined_growing rows zero = growing_none
mined_growing rows (suc n) = add_growing (get_or rows n 0) (mined_to rows n) (mined_growing rows n)

next_row_lem : (rows : List ℕ) (n : ℕ) → RowsAmong rows n rows (suc n)
next_row_lem rows n u h = (u, le_step h, refl)

mined_is : (rows : List ℕ) (n x : ℕ) → Listed (mined_to rows n) x → (x ≢ 0) × Intersection rows n x
unfolding mined_to
mined_is rows zero x l = absurd (listed-none l)
mined_is rows (suc n) x l =
    let own = meet_row rows (suc n) n (lt-suc_self n) in
    ⊎_elim (λ o. let k = mined_is rows n x o in (k.0, meet_more (next_row_lem rows n) k.1))
    (⊎_elim (λ k. let e : x ≡ get_or rows n 0 = k.0 in (k.1, rw e own))
    (λ m. (m.nonempty, rw m.meet (meet-∩ own (meet_more (next_row_lem rows n) (mined_is rows n m.other m.listed).1)))))
    (add_is (get_or rows n 0) (mined_to rows n) x l)

mined_of : (rows : List ℕ) (n x : ℕ) → x ≢ 0 → Intersection rows n x → Listed (mined_to rows n) x
unfolding mined_to
mined_of rows zero x d m = absurd (m.nonempty (let h = m.within in omega arith))
mined_of rows (suc n) x d m =
    let r = get_or rows n 0 in
    let xs = mined_to rows n in
    ⊎_elim (λ k. add_old r xs x (mined_of rows n x d k))
    (⊎_elim (λ (e : x ≡ r). rw e (add_row_lem r xs (rw e at d)))
    (λ w.
    let k = mined_of rows n w.0 (λ (z : w.0 ≡ 0). d (w.2 ∙ (rw z (∩-zero r)))) w.1 in
    add_meet r xs x (record { other = w.0; listed = k; meet = w.2; nonempty = d })))
    (meet_last m)

pub mined_iff : (rows : List ℕ) (n x : ℕ) → Listed (mined_to rows n) x ↔ ((x ≢ 0) × Intersection rows n x)
mined_iff rows n x = (mined_is rows n x, λ k. mined_of rows n x k.0 k.1)

-- each nonempty row is a candidate
pub mined_row : (rows : List ℕ) (n u : ℕ) → u < n → get_or rows u 0 ≢ 0 → Listed (mined_to rows n) (get_or rows u 0)
mined_row rows n u h d = mined_of rows n (get_or rows u 0) d (meet_row rows n u h)

-- each candidate lies within a row
pub mined_within : (rows : List ℕ) (n x : ℕ) → Listed (mined_to rows n) x → (u : ℕ) × (u < n) × So (subset x (get_or rows u 0))
mined_within rows n x l = meet_within (mined_is rows n x l).1

-- a bound on the rows is one on the candidates
pub mined_bound : (rows : List ℕ) (n b : ℕ) → ((u : ℕ) → u < n → get_or rows u 0 < b) → (x : ℕ) → Listed (mined_to rows n) x → x < b
mined_bound rows n b h x l =
    let w = mined_within rows n x l in
    omega (arith, subset-≤ x (get_or rows w.0 0) w.2, h w.0 w.1)

-- more rows have all candidates of fewer, and the order of rows does not matter
module _ (rows : List ℕ) (n : ℕ) (rows' : List ℕ) (n' : ℕ) (f : RowsAmong rows n rows' n') where
  pub mined_among : Among (mined_to rows n) (mined_to rows' n')
  mined_among x l = let k = mined_is rows n x l in mined_of rows' n' x k.0 (meet_more f k.1)

  pub mined_fewer : length (mined_to rows n) ≤ length (mined_to rows' n')
  mined_fewer = among_length (mined_to rows n) (mined_to rows' n') (mined_growing rows n) (mined_growing rows' n') mined_among

pub mined_same : (rows : List ℕ) (n : ℕ) (rows' : List ℕ) (n' : ℕ) → RowsAmong rows n rows' n' → RowsAmong rows' n' rows n
    → mined_to rows n ≡ mined_to rows' n'
mined_same rows n rows' n' f b =
    among_equal (mined_to rows n) (mined_to rows' n') (mined_growing rows n) (mined_growing rows' n') (mined_among rows n rows' n' f) (mined_among rows' n' rows n b)

pub mined_length : (rows : List ℕ) (n n' : ℕ) → n ≤ n' → length (mined_to rows n) ≤ length (mined_to rows n')
mined_length rows n n' h = mined_fewer rows n rows n' (λ u l. (u, omega arith, refl))

-- ---- what a table of candidates is, and the rows that add nothing to it

pub mined_table : (rows : List ℕ) (n : ℕ) → Table (mined_to rows n)
mined_table rows n =
    record {
      grows = mined_growing rows n;
      nonempty = λ x l. (mined_is rows n x l).0;
      closed = λ x y k l d. mined_of rows n (x ∩ y) d (meet-∩ (mined_is rows n x k).1 (mined_is rows n y l).1);
    }

pub add_empty : (xs : List ℕ) → add_row 0 xs ≡ xs
unfolding add_row
add_empty xs = rw (admit_empty xs) (meets_idle 0 xs xs (λ x l. rw (zero-∩ x) (admit_empty xs)))

pub add_listed : {r : ℕ} {xs : List ℕ} → Table xs → Listed xs r → add_row r xs ≡ xs
unfolding add_row
add_listed {r} {xs} t l =
    rw (admit-listed t.grows l)
    (meets_idle r xs xs (λ x k. admit-idle t.grows (equal_or (r ∩ x) 0 ◌⊎◌.inl (λ d. ◌⊎◌.inr (t.closed r x l k d)))))

pub mined_empty : (rows : List ℕ) (n : ℕ) → get_or rows n 0 ≡ 0 → mined_to rows (suc n) ≡ mined_to rows n
unfolding mined_to
mined_empty rows n e = rw e (add_empty (mined_to rows n))

pub mined_listed : (rows : List ℕ) (n : ℕ) → Listed (mined_to rows n) (get_or rows n 0) → mined_to rows (suc n) ≡ mined_to rows n
unfolding mined_to
mined_listed rows n l = add_listed (mined_table rows n) l

-- ---- adding a row, one set of the old table after the other

-- the table xs with the row r and its intersections with the first i sets of xs
unfoldable pub added_to : ℕ → List ℕ → ℕ → List ℕ
added_to r xs i = admit_meets r (take i xs) (admit r xs)

module _ (r : ℕ) (xs : List ℕ) where
  pub added_zero : added_to r xs 0 ≡ admit r xs
  unfolding added_to admit_meets
  added_zero = refl

  pub added_suc : (i : ℕ) → i < length xs → added_to r xs (suc i) ≡ admit (r ∩ get_or xs i 0) (added_to r xs i)
  unfolding added_to admit_meets
  added_suc i h = rw (take-suc xs i 0 h) (meets_append r (take i xs) (get_or xs i 0 ∷ []) (admit r xs))

  pub added_all : added_to r xs (length xs) ≡ add_row r xs
  unfolding added_to add_row
  added_all = rw (take-length xs)

  pub added_growing : (i : ℕ) → Growing xs → Growing (added_to r xs i)
  unfolding added_to
  added_growing i g = meets_growing r (take i xs) (admit r xs) (admit_growing r xs g)

  pub added_old : (i : ℕ) → Among xs (added_to r xs i)
  unfolding added_to
  added_old i z l = meets_old r (take i xs) (admit r xs) z (admit_old r xs z l)

  pub added_row : (i : ℕ) → (r ≡ 0) ⊎ Listed (added_to r xs i) r
  unfolding added_to
  added_row i = equal_or r 0 ◌⊎◌.inl (λ d. ◌⊎◌.inr (meets_old r (take i xs) (admit r xs) r (admit_new r xs d)))

  -- what is left to do after i sets
  pub added_rest : (i : ℕ) → add_row r xs ≡ admit_meets r (drop i xs) (added_to r xs i)
  unfolding added_to add_row
  added_rest i = ap (λ (l : List ℕ). admit_meets r l (admit r xs)) (sym (take-append-drop i xs)) ∙ meets_append r (take i xs) (drop i xs) (admit r xs)

  pub added_length : (i : ℕ) → length (added_to r xs i) ≤ length (add_row r xs)
  added_length i = rw (added_rest i) (meets_length r (drop i xs) (added_to r xs i))

  pub added_among : (i : ℕ) → Among (added_to r xs i) (add_row r xs)
  added_among i z l = rw (added_rest i) (meets_old r (drop i xs) (added_to r xs i) z l)

  -- the turn of a loop over the old table
  pub added_step : (i : ℕ) → i < length xs → Growing xs
      → added_to r xs (suc i) ≡ (when idle r (get_or xs i 0) then added_to r xs i else place (r ∩ get_or xs i 0) (added_to r xs i))
  added_step i h g =
      added_suc i h ∙ admit_meet r (get_or xs i 0) (added_growing i g) (added_row i) (added_old i (get_or xs i 0) (listed_at xs i h))

-- ---- all rows

subset_at : {xs : List ℕ} → Growing xs → (k e : ℕ) → k < length xs → e < length xs
    → subset (get_or xs k 0) (get_or xs e 0) ≡ (eqb k e or proper_subset (get_or xs k 0) (get_or xs e 0))
subset_at {xs} g k e hk he =
    let a = get_or xs k 0 in
    let b = get_or xs e 0 in
    let o = or_iff (eqb k e) (proper_subset a b) in
    same_test (subset a b) (eqb k e or proper_subset a b)
    (λ s. o.1 (equal_or k e (λ z. ◌⊎◌.inl (eq-eqb k e z)) (λ d. ◌⊎◌.inr ((proper_iff a b).1 (s, λ z. d (growing_place g k e hk he z))))))
    (λ s. ⊎_elim (λ t. let z : k ≡ e = eqb-true k e t in rw z (subset_refl b)) (proper_subset_lem a b) (o.0 s))

pub candidates_mined : (rows : List ℕ) → candidates rows ≡ mined_to rows (length rows)
unfolding candidates
candidates_mined rows = refl

module _ (rows : List ℕ) where
  pub candidates_table : Table (candidates rows)
  unfolding candidates
  candidates_table = mined_table rows (length rows)

  pub candidates_growing : Growing (candidates rows)
  candidates_growing = candidates_table.grows

  -- exactly the nonempty intersections of one or more users' rows
  pub candidate_iff : (x : ℕ) → Listed (candidates rows) x ↔ ((x ≢ 0) × Intersection rows (length rows) x)
  unfolding candidates
  candidate_iff = mined_iff rows (length rows)

  pub row_candidate : (u : ℕ) → u < length rows → get_or rows u 0 ≢ 0 → Listed (candidates rows) (get_or rows u 0)
  unfolding candidates
  row_candidate = mined_row rows (length rows)

  pub candidate_within : (x : ℕ) → Listed (candidates rows) x → (u : ℕ) × (u < length rows) × So (subset x (get_or rows u 0))
  unfolding candidates
  candidate_within = mined_within rows (length rows)

  pub candidate_bound : (b : ℕ) → ((u : ℕ) → u < length rows → get_or rows u 0 < b) → (x : ℕ) → Listed (candidates rows) x → x < b
  unfolding candidates
  candidate_bound = mined_bound rows (length rows)

  -- no table on the way has more sets, so the first that has too many decides
  pub mined_no_more : (n : ℕ) → n ≤ length rows → length (mined_to rows n) ≤ length (candidates rows)
  unfolding candidates
  mined_no_more n h = mined_length rows n (length rows) h

  pub added_no_more : (n i : ℕ) → n < length rows → length (added_to (get_or rows n 0) (mined_to rows n) i) ≤ length (candidates rows)
  unfolding candidates mined_to
  added_no_more n i h = le_trans (added_length (get_or rows n 0) (mined_to rows n) i) (mined_length rows (suc n) (length rows) h)

  -- a role's proper subsets have lower numbers
  pub proper_lower : (j k : ℕ) → j < length (candidates rows) → k < length (candidates rows)
      → So (proper_subset (get_or (candidates rows) j 0) (get_or (candidates rows) k 0)) → j < k
  proper_lower j k hj hk h =
      growing_later candidates_growing j k hj hk (proper-< (get_or (candidates rows) j 0) (get_or (candidates rows) k 0) h)

  -- the roles within a user's row are the role that is that row and its proper subsets
  pub own_role : (u e k : ℕ) → e < length (candidates rows) → get_or (candidates rows) e 0 ≡ get_or rows u 0 → k < length (candidates rows)
      → subset (get_or (candidates rows) k 0) (get_or rows u 0) ≡ (eqb k e or proper_subset (get_or (candidates rows) k 0) (get_or (candidates rows) e 0))
  own_role u e k he q hk = rw (← q) (subset_at candidates_growing k e hk he)

  -- and none where the row is empty
  pub no_role : (k : ℕ) → k < length (candidates rows) → subset (get_or (candidates rows) k 0) 0 ≡ false
  no_role k h =
      let x = get_or (candidates rows) k 0 in
      not-So (subset x 0) (λ t. candidates_table.nonempty x (listed_at (candidates rows) k h) (let o = subset-≤ x 0 t in omega arith))

module _ (rows rows' : List ℕ) (f : Among rows rows') where
  among_rows : RowsAmong rows (length rows) rows' (length rows')
  among_rows u h = let l = f (get_or rows u 0) (listed_at rows u h) in (l.place, l.below, l.there)

  -- fewer rows give no other candidates, and no more
  pub candidates_among : Among (candidates rows) (candidates rows')
  unfolding candidates
  candidates_among = mined_among rows (length rows) rows' (length rows') among_rows

  pub candidates_fewer : length (candidates rows) ≤ length (candidates rows')
  unfolding candidates
  candidates_fewer = mined_fewer rows (length rows) rows' (length rows') among_rows

-- the candidates do not hang on the order of the rows, nor on rows that stand twice
pub candidates_same : (rows rows' : List ℕ) → Among rows rows' → Among rows' rows → candidates rows ≡ candidates rows'
unfolding candidates
candidates_same rows rows' f b =
    mined_same rows (length rows) rows' (length rows') (among_rows rows rows' f) (among_rows rows' rows b)
