-- The first holders, picked entry by entry; the roles down and up from each.
-- Assumes nothing.
use mathlib.Core.Path.{◌≡◌, refl, ◌∙◌, ap}
use mathlib.Core.Bool.{Bool, So}
use mathlib.Core.Logic.{◌↔◌, ◌⊎◌, ⊎_elim}
use mathlib.Core.List.{List}
use Prim.Native.Nat.{ℕ, ◌+◌, ◌*◌, ◌≤◌, ◌<◌}
use native.Mathlib.Omega.{arith}
use lib.Dec.{ltb}
use Rattle.sets.specs.Truth.{when◌then◌else◌}
use Rattle.sets.specs.Sets.{has, ◌∪◌, single, collect}
use Rattle.sets.proofs.Truth.{So-not, equal_or, ltb_iff, when-true}
use Rattle.sets.proofs.Members.{has-zero, same_set}
use Rattle.sets.proofs.Order.{∪-iff, single_iff, collect_iff}
use Rattle.model.specs.Lists.{set_at}
use Rattle.model.specs.Hierarchy.{Roles, candidate_count}
use Rattle.model.specs.Indexes.{lower, roles_of_permission, down_from, up_from, first_holders}
use Rattle.model.proofs.Shortcuts.{roles_of_permission_iff, down_from_iff, up_from_iff, first_holder_iff, first_holders_iff, down_lower}
use Rattle.tables.specs.Tables.{HoldsSets}
use Rattle.sets.specs.Extremes.{LowestItem}
use Rattle.hierarchy.specs.Tables.{Numbered}
use Rattle.model.specs.Indexes.{roles_of_user}
use Rattle.edit_work.specs.declared.work.Work.{Work}
use Rattle.edit_work.specs.Work.{LowestOf, entries, holding, UpAndDown, users_with_roles, SamplesOf, Sampled}

-- ---- the first holders

-- one set's lowest item put in; an empty one has none
pub put_lowest : (r s x k : ℕ) → LowestItem 128 x k → r ≡ (when ltb k 128 then s ∪ single k else s) → (i : ℕ) → So (has r i) ↔ (So (has s i) ⊎ LowestItem 128 x i)
put_lowest r s x k low e i =
    let d : r ≡ s ∪ single k = e ∙ when-true (ltb k 128) (s ∪ single k) s ((ltb_iff k 128).1 low.small) in
    let only : LowestItem 128 x i → k ≡ i = λ b. let y = low.least i b.there in let z = b.least k low.there in omega arith in (
      λ t. ⊎_elim (λ y. ◌⊎◌.inl y) (λ y. let z : k ≡ i = (single_iff k i).0 y in ◌⊎◌.inr (rw z at low)) ((∪-iff s (single k) i).0 (rw d at t)),
      λ t. rw d ((∪-iff s (single k) i).1 (⊎_elim (λ y. ◌⊎◌.inl y) (λ y. ◌⊎◌.inr ((single_iff k i).1 (only y))) t)),
    )

pub put_none : (s x : ℕ) → x ≡ 0 → (i : ℕ) → So (has s i) ↔ (So (has s i) ⊎ LowestItem 128 x i)
put_none s x e i = (λ t. ◌⊎◌.inl t, λ t. ⊎_elim (λ y. y) (λ y. absurd (So-not (has-zero i) (rw e at y.there))) t)

pub lowest-none : (ws : List ℕ) (s : ℕ) → s ≡ 0 → LowestOf 0 ws s
lowest-none ws s e i = (λ t. absurd (So-not (has-zero i) (rw e at t)), λ w. absurd (let l = w.1 in let z : ⊥ = omega arith in z))

pub lowest_more : (n : ℕ) (ws : List ℕ) (s x s' : ℕ) → LowestOf n ws s → x ≡ set_at 2 ws (2 * n)
    → ((i : ℕ) → So (has s' i) ↔ (So (has s i) ⊎ LowestItem 128 x i)) → LowestOf (n + 1) ws s'
lowest_more n ws s x s' inv ex step i = (
  λ t.
      ⊎_elim (λ y. let w = (inv i).0 y in let l = w.1 in (w.0, omega arith, w.2)) (λ y. (n, omega arith, rw ex at y)) ((step i).0 t),
  λ w.
      (step i).1
      (equal_or w.0 n (λ (d : w.0 ≡ n). ◌⊎◌.inr (rw ex (rw d at w.2)))
      (λ d. ◌⊎◌.inl ((inv i).1 (w.0, let l = w.1 in omega arith, w.2)))),
)

pub first_found : (ρ : Roles) (holders : List ℕ) (m s : ℕ) → candidate_count ρ ≤ 128 → ρ.permissions ≡ m → HoldsSets 2 m (roles_of_permission ρ) holders
    → LowestOf m holders s → s ≡ first_holders ρ
first_found ρ holders m s few em held found =
    same_set s (first_holders ρ)
    (λ g t.
    let w = (found g).0 t in
    let low = rw (held w.0 w.1) at w.2 in
    let l = w.1 in
    (first_holders_iff ρ g).1 (w.0, omega arith, (first_holder_iff ρ w.0 g).1 (low.there, low.least)))
    (λ g t.
    let w = (first_holders_iff ρ g).0 t in
    let f = (first_holder_iff ρ w.0 g).0 w.2 in
    let l = w.1 in
    let lp : w.0 < m = omega arith in
    let lg = ((roles_of_permission_iff ρ w.0 g).0 f.0).0 in
    (found g).1 (w.0, lp, rw (held w.0 lp) (record { there = f.0; small = omega arith; least = f.1 })))

-- ---- down and up

-- an entry with its own number
pub put_self : (low : List ℕ) (k x r : ℕ) → k < 128 → x ≡ set_at 2 low (2 * k) → r ≡ (when ltb k 128 then x ∪ single k else x) → r ≡ set_at 2 low (2 * k) ∪ single k
put_self low k x r l ex e = e ∙ when-true (ltb k 128) (x ∪ single k) x ((ltb_iff k 128).1 l) ∙ ap (λ (y : ℕ). y ∪ single k) ex

-- a column of the roles down from each are the roles up from one
up_column : (ρ : Roles) (k : ℕ) (down : List ℕ) → k < candidate_count ρ → HoldsSets 2 (candidate_count ρ) (down_from ρ) down
    → collect (candidate_count ρ) (λ i. has (set_at 2 down (2 * i)) k) ≡ up_from ρ k
up_column ρ k down l held =
    let c = candidate_count ρ in
    let test : ℕ → Bool = λ i. has (set_at 2 down (2 * i)) k in
    same_set (collect c test) (up_from ρ k)
    (λ i t. let a = (collect_iff c test i).0 t in (up_from_iff ρ k i).1 (a.0, ((down_from_iff ρ i k).0 (rw (held i a.0) at a.1)).1))
    (λ i t. let a = (up_from_iff ρ k i).0 t in (collect_iff c test i).1 (a.0, rw (held i a.0) ((down_from_iff ρ i k).1 (l, a.1))))

pub up-and_down : (low : List ℕ) (ws : Work) (c : ℕ) → HoldsSets 2 c (λ k. set_at 2 low (2 * k) ∪ single k) ws.down
    → HoldsSets 2 c (λ k. collect c (λ i. has (set_at 2 ws.down (2 * i)) k)) ws.up → (ρ : Roles) → candidate_count ρ ≡ c → Numbered ρ
    → HoldsSets 2 (candidate_count ρ) (lower ρ) low → UpAndDown ρ ws
up-and_down low ws c filled columns ρ e numbered lows =
    let held : HoldsSets 2 (candidate_count ρ) (down_from ρ) ws.down =
    λ k l. filled k (rw e at l) ∙ ap (λ (y : ℕ). y ∪ single k) (lows k l) ∙ down_lower ρ numbered.distinct k l in
    record {
      few = numbered.few;
      down = held;
      up = λ k l. columns k (rw e at l) ∙ rw e at (up_column ρ k ws.down l held);
    }

-- ---- the samples with their columns

pub sampled : (ws : Work) (count c : ℕ) → count ≤ 128 → HoldsSets 2 c (λ k. collect count (λ i. has (set_at 2 ws.samples (2 * i)) k)) ws.holding
    → (ρ : Roles) → candidate_count ρ ≡ c → SamplesOf (users_with_roles ρ) (roles_of_user ρ) count (entries ws.samples)
    → Sampled ρ count (entries ws.samples) ws
unfolding holding
sampled ws count c few columns ρ e samples =
    record { few = few; of_users = samples; roles = λ k l. refl; held = λ k l. columns k (rw e at l) }
