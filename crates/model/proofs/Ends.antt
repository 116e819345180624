-- Redundancy by first holders and users: which grants of a role need be asked. It holds whether or not granted and possible rows are equal; what
-- rests on their being equal stands at the end.
-- Assumes nothing.
use mathlib.Core.Path.{◌≡◌, ◌∙◌, ap}
use mathlib.Core.Bool.{Bool, So}
use mathlib.Core.Logic.{◌↔◌, ⊎_elim}
use Prim.Native.Nat.{ℕ, ◌≤◌, ◌<◌}
use native.Mathlib.Nat.{le_trans}
use lib.Count.{ones}
use Rattle.sets.specs.Truth.{◌and◌, when◌then◌else◌}
use Rattle.sets.specs.Sets.{has, ◌∩◌, subset, collect}
use Rattle.sets.proofs.Truth.{by_test, and_iff, any_of, when-true, when-false}
use Rattle.sets.proofs.Members.{same_set}
use Rattle.sets.proofs.Order.{∩-iff, subset_iff, subset_trans, subset-∩-eq, collect_iff}
use Rattle.sets.proofs.Counts.{ones-subset}
use Rattle.model.specs.Hierarchy.{Roles, candidate_count, permission_set}
use Rattle.model.specs.Coverage.{grant, covers}
use Rattle.model.specs.Indexes.{roles_of_user, roles_of_permission, sure_roles, down_from, up_from, first_holder, first_holders}
use Rattle.model.specs.Machine.{least, first, coverers, redundancy}
use Rattle.model.specs.State.{State, roles_of}
use Rattle.model.specs.Record.{Limits}
use Rattle.model.proofs.Reading.{user_iff, covers_iff}
use Rattle.model.proofs.Shortcuts.{roles_of_user_iff, roles_of_permission_iff, sure_roles_iff, down_from_iff, up_from_iff, first_holder_iff, first_holders_iff, user_down}
use Rattle.model.proofs.PassOrder.{least-≤, least-≤-start, least_is, first_passes, first-lowest}
use Rattle.model.proofs.Intervals.{first-up, first_granted}

-- ---- the redundancy as the largest number that is no more than any of those that it is the least of

least_iff : (n : ℕ) (f : ℕ → ℕ) (b x : ℕ) → (x ≤ least n f b) ↔ ((x ≤ b) × ((i : ℕ) → i < n → x ≤ f i))
least_iff n f b x = (
  λ h. (le_trans h (least-≤-start n f b), λ i l. le_trans h (least-≤ n f b i l)),
  λ h. ⊎_elim (λ e. rw e h.0) (λ w. rw w.2 (h.1 w.0 w.1)) (least_is n f b),
)

pub redundancy_iff : (ρ : Roles) (s k x : ℕ)
    → (x ≤ redundancy ρ s k)
    ↔ ((x ≤ candidate_count ρ)
    × ((u p : ℕ) → u < ρ.users → p < ρ.permissions → So (grant ρ u p) → So (covers ρ k u p) → x ≤ ones (coverers ρ u p ∩ s)))
unfolding redundancy
redundancy_iff ρ s k x =
    let c = candidate_count ρ in
    let test : ℕ → ℕ → Bool = λ u p. grant ρ u p and covers ρ k u p in
    let number : ℕ → ℕ → ℕ = λ u p. ones (coverers ρ u p ∩ s) in
    let one : ℕ → ℕ → ℕ = λ u p. when test u p then number u p else c in
    let user : ℕ → ℕ = λ u. least ρ.permissions (one u) c in (
      λ h.
          let a = (least_iff ρ.users user c x).0 h in (
            a.0,
            λ u p lu lp g v.
                rw (when-true (test u p) (number u p) c ((and_iff (grant ρ u p) (covers ρ k u p)).1 (g, v))) at (((least_iff ρ.permissions (one u) c x).0 (a.1 u lu)).1 p lp),
          ),
      λ h.
          (least_iff ρ.users user c x).1 (
            h.0,
            λ u lu.
                (least_iff ρ.permissions (one u) c x).1 (
                  h.0,
                  λ p lp.
                      by_test (test u p)
                      (λ t. let a = (and_iff (grant ρ u p) (covers ρ k u p)).0 t in rw (when-true (test u p) (number u p) c t) (h.1 u p lu lp a.0 a.1))
                      (λ t. rw (when-false (test u p) (number u p) c t) h.0),
                ),
          ),
    )

-- the candidates that cover a grant, by the two indexes
coverers_index : (ρ : Roles) (s u p : ℕ) → coverers ρ u p ∩ s ≡ roles_of_user ρ u ∩ s ∩ roles_of_permission ρ p
unfolding coverers
coverers_index ρ s u p =
    let c = candidate_count ρ in
    let test : ℕ → Bool = λ k. covers ρ k u p in
    same_set (collect c test ∩ s) (roles_of_user ρ u ∩ s ∩ roles_of_permission ρ p)
    (λ k t.
    let a = (∩-iff (collect c test) s k).0 t in
    let b = (collect_iff c test k).0 a.0 in
    let d = (covers_iff ρ k u p).0 b.1 in
    (∩-iff (roles_of_user ρ u ∩ s) (roles_of_permission ρ p) k).1
    ((∩-iff (roles_of_user ρ u) s k).1 ((roles_of_user_iff ρ u k).1 (b.0, d.0), a.1), (roles_of_permission_iff ρ p k).1 (b.0, d.1)))
    (λ k t.
    let a = (∩-iff (roles_of_user ρ u ∩ s) (roles_of_permission ρ p) k).0 t in
    let b = (∩-iff (roles_of_user ρ u) s k).0 a.0 in
    let x = (roles_of_user_iff ρ u k).0 b.0 in
    let y = (roles_of_permission_iff ρ p k).0 a.1 in
    (∩-iff (collect c test) s k).1 ((collect_iff c test k).1 (x.0, (covers_iff ρ k u p).1 (x.1, y.1)), b.1))

-- a permission that a role holds has a first holder
first_of : (ρ : Roles) (p k : ℕ) → So (has (roles_of_permission ρ p) k) → (g : ℕ) × So (first_holder ρ p g)
first_of ρ p k h =
    let c = candidate_count ρ in
    let held : ℕ → Bool = λ j. has (roles_of_permission ρ p) j in
    let below : (j : ℕ) → So (held j) → j < c = λ j t. ((roles_of_permission_iff ρ p j).0 t).0 in
    (first c held, (first_holder_iff ρ p (first c held)).1 ((first_passes c held (any_of c held k (below k h) h)).1, λ j t. first-lowest c held j (below j t) t))

-- ---- what one user gives: x is at most the number of roles of s, among the user's roles, that are up from any of the first holders that count for
-- the user

abbrev pub AtMost : (ℕ → ℕ) → ℕ → ℕ → ℕ → ℕ → Type 0
AtMost up s holders roles x = (g : ℕ) → So (has holders g) → x ≤ ones (roles ∩ s ∩ up g)

-- a role's redundancy is asked of its users, and of each the first holders that are down from the role and within the user's granted row
pub redundancy_ends : (st : State) → Limits st → (s k x : ℕ) → k < candidate_count (roles_of st)
    → (x ≤ redundancy (roles_of st) s k)
    ↔ ((x ≤ candidate_count (roles_of st))
    × ((u : ℕ) → So (has (roles_of_user (roles_of st) u) k)
    → AtMost (up_from (roles_of st)) s (down_from (roles_of st) k ∩ first_holders (roles_of st) ∩ sure_roles (roles_of st) u) (roles_of_user (roles_of st) u) x))
redundancy_ends st lim s k x lk =
    let ρ = roles_of st in
    let same : (u p g : ℕ) → So (first_holder ρ p g) → coverers ρ u p ∩ s ≡ roles_of_user ρ u ∩ s ∩ up_from ρ g =
    λ u p g f. coverers_index ρ s u p ∙ ap (λ (y : ℕ). roles_of_user ρ u ∩ s ∩ y) (first-up st p g f) in (
      λ h.
          let w = (redundancy_iff ρ s k x).0 h in (
            w.0,
            λ u ku g t.
                let a = (∩-iff (down_from ρ k ∩ first_holders ρ) (sure_roles ρ u) g).0 t in
                let b = (∩-iff (down_from ρ k) (first_holders ρ) g).0 a.0 in
                let p = (first_holders_iff ρ g).0 b.1 in
                let v = ((roles_of_user_iff ρ u k).0 ku).1 in
                let lu = ((user_iff ρ k u).0 v).0 in
                let kp : So (has (roles_of_permission ρ p.0) k) = rw (first-up st p.0 g p.2) ((up_from_iff ρ g k).1 (lk, ((down_from_iff ρ k g).0 b.0).1)) in
                rw (same u p.0 g p.2) at
                (w.1 u p.0 lu p.1 ((first_granted st lim u p.0 g lu p.2).1 a.1) ((covers_iff ρ k u p.0).1 (v, ((roles_of_permission_iff ρ p.0 k).0 kp).1))),
          ),
      λ w.
          (redundancy_iff ρ s k x).1 (
            w.0,
            λ u p lu lp gr v.
                let d = (covers_iff ρ k u p).0 v in
                let kp = (roles_of_permission_iff ρ p k).1 (lk, d.1) in
                let f = first_of ρ p k kp in
                let g = f.0 in
                let lg = ((roles_of_permission_iff ρ p g).0 ((first_holder_iff ρ p g).0 f.1).0).0 in
                let down = (down_from_iff ρ k g).1 (lg, ((up_from_iff ρ g k).0 (rw (first-up st p g f.1) at kp)).1) in
                let there = (∩-iff (down_from ρ k ∩ first_holders ρ) (sure_roles ρ u) g).1
                ((∩-iff (down_from ρ k) (first_holders ρ) g).1 (down, (first_holders_iff ρ g).1 (p, lp, f.1)), (first_granted st lim u p g lu f.1).0 gr) in
                rw (same u p g f.1) (w.1 u ((roles_of_user_iff ρ u k).1 (lk, d.0)) g there),
          ),
    )

-- a larger set has no fewer items in common with others
common_more : (s a b : ℕ) → So (subset a b) → ones (s ∩ a) ≤ ones (s ∩ b)
common_more s a b h =
    ones-subset (s ∩ a) (s ∩ b)
    ((subset_iff (s ∩ a) (s ∩ b)).1 (λ i x. let y = (∩-iff s a i).0 x in (∩-iff s b i).1 (y.0, (subset_iff a b).0 h i y.1)))

-- of one user, a holder further down gives no smaller number
pub nearer_holder : (ρ : Roles) (own x g j : ℕ) → So (has (down_from ρ g) j) → x ≤ ones (own ∩ up_from ρ g) → x ≤ ones (own ∩ up_from ρ j)
nearer_holder ρ own x g j t h =
    let S = permission_set ρ in
    le_trans h
    (common_more own (up_from ρ g) (up_from ρ j)
    ((subset_iff (up_from ρ g) (up_from ρ j)).1
    (λ i y. let a = (up_from_iff ρ g i).0 y in (up_from_iff ρ j i).1 (a.0, subset_trans (S j) (S g) (S i) ((down_from_iff ρ g j).0 t).1 a.1))))

-- a user with all roles of another, and no more holders that count, gives no smaller number
pub nearer_user : (up : ℕ → ℕ) (s holders roles holders' roles' x : ℕ) → So (subset holders' holders) → So (subset roles roles')
    → AtMost up s holders roles x → AtMost up s holders' roles' x
nearer_user up s holders roles holders' roles' x fewer more h g t =
    le_trans (h g ((subset_iff holders' holders).0 fewer g t))
    (ones-subset (roles ∩ s ∩ up g) (roles' ∩ s ∩ up g)
    ((subset_iff (roles ∩ s ∩ up g) (roles' ∩ s ∩ up g)).1
    (λ i y.
    let a = (∩-iff (roles ∩ s) (up g) i).0 y in
    let b = (∩-iff roles s i).0 a.0 in
    (∩-iff (roles' ∩ s) (up g) i).1 ((∩-iff roles' s i).1 ((subset_iff roles roles').0 more i b.0, b.1), a.1))))

-- ---- where granted and possible rows are equal

-- the candidates within a user's granted row are the user's roles
sure_roles_lem : (st : State) (u : ℕ) → u < (roles_of st).users → sure_roles (roles_of st) u ≡ roles_of_user (roles_of st) u
unfolding roles_of
sure_roles_lem st u lu =
    let ρ = roles_of st in
    same_set (sure_roles ρ u) (roles_of_user ρ u)
    (λ k t. let a = (sure_roles_iff ρ u k).0 t in (roles_of_user_iff ρ u k).1 (a.0, (user_iff ρ k u).1 (lu, a.1)))
    (λ k t. let a = (roles_of_user_iff ρ u k).0 t in (sure_roles_iff ρ u k).1 (a.0, ((user_iff ρ k u).0 a.1).1))

-- so all first holders down from a user's role count for the user
pub sure_holders : (st : State) (u k : ℕ) → So (has (roles_of_user (roles_of st) u) k)
    → down_from (roles_of st) k ∩ first_holders (roles_of st) ∩ sure_roles (roles_of st) u ≡ down_from (roles_of st) k ∩ first_holders (roles_of st)
sure_holders st u k h =
    let ρ = roles_of st in
    let lu = ((user_iff ρ k u).0 ((roles_of_user_iff ρ u k).0 h).1).0 in
    subset-∩-eq (down_from ρ k ∩ first_holders ρ) (sure_roles ρ u)
    ((subset_iff (down_from ρ k ∩ first_holders ρ) (sure_roles ρ u)).1
    (λ g t. rw (sure_roles_lem st u lu) (user_down ρ u k g h ((∩-iff (down_from ρ k) (first_holders ρ) g).0 t).0)))
