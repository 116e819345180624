-- The least over a walk that takes items out of a set, turn by turn; and that it is the redundancy.
-- Assumes nothing.
use mathlib.Core.Path.{◌≡◌, refl, sym, ◌∙◌, ap, ap₂}
use mathlib.Core.Bool.{Bool, true, false, So}
use mathlib.Core.Logic.{◌↔◌}
use Prim.Native.Nat.{ℕ, ◌^◌, ◌≤◌, ◌<◌, min}
use native.Mathlib.Nat.{le_refl, le_trans, lt_irrefl}
use native.Mathlib.Omega.{arith}
use lib.Count.{ones}
use Rattle.std.specs.Int.{from_bool}
use Rattle.sets.specs.Truth.{when◌then◌else◌}
use Rattle.sets.specs.Sets.{has, ◌∩◌, ◌∖◌, subset, collect}
use Rattle.sets.proofs.Truth.{by_test, So-not, when-true, when-false}
use Rattle.sets.proofs.Members.{has-zero, item_below}
use Rattle.sets.proofs.Order.{∩-iff, ∩-lt, ∖-iff, subset_refl, collect_iff, collect_lt}
use Rattle.sets.proofs.Counts.{ones_some, dropped_fewer}
use Rattle.model.specs.Hierarchy.{Roles, candidate_count, permission_set}
use Rattle.model.specs.Coverage.{covers}
use Rattle.model.specs.Indexes.{roles_of_user, down_from, up_from, first_holders}
use Rattle.model.specs.Machine.{coverers, redundancy}
use Rattle.model.specs.Record.{Limits}
use Rattle.model.specs.State.{State, roles_of}
use Rattle.model.proofs.Ends.{AtMost, redundancy_iff, redundancy_ends, nearer_holder, nearer_user, sure_holders}
use Rattle.model.proofs.Shortcuts.{down_from_iff}
use Rattle.edit_order.specs.Ranking.{LeastTo}
use Rattle.sets.specs.Held.{set_of}
use Rattle.edit_work.specs.declared.work.Work.{Work}
use Rattle.edit_work.specs.Work.{entries, holding, further, Prepared, PreparedFor}
use Rattle.edit_work.proofs.Sampling.{with_roles_iff}

-- a test as a number
one_or_none : (t : Bool) → from_bool t ≡ (when t then 1 else 0)
one_or_none true = sym (when-true true 1 0 refl)
one_or_none false = sym (when-false false 1 0 refl)

pub number_of : (n : ℕ) (t b : Bool) → n ≡ from_bool t → t ≡ b → n ≡ (when b then 1 else 0)
number_of n t b e f = e ∙ one_or_none t ∙ ap (λ (x : Bool). when x then 1 else 0) f

-- ---- numbers known by what is no more than they

same_number : (m n : ℕ) → ((x : ℕ) → (x ≤ m) ↔ (x ≤ n)) → m ≡ n
same_number m n f = let a = (f m).0 (le_refl m) in let b = (f n).1 (le_refl n) in omega arith

-- the smaller of two
smaller_iff : (a b m : ℕ) → m ≡ min a b → (x : ℕ) → (x ≤ m) ↔ ((x ≤ b) × (x ≤ a))
smaller_iff a b m e x = (λ h. (omega arith, omega arith), λ h. let p = h.0 in let q = h.1 in omega arith)

-- ---- walks: `rest` are the items of s not yet done. A number is no more than b and passes P at s exactly where it is no more than the
-- least so far and passes P at those left

pub record Left (b s : ℕ) (P : ℕ → ℕ → Type 0) (m rest : ℕ) : Type 0 where
  pub bound : m ≤ b
  pub within : (i : ℕ) → So (has rest i) → So (has s i)
  pub same : (x : ℕ) → ((x ≤ b) × ((i : ℕ) → So (has s i) → P x i)) ↔ ((x ≤ m) × ((i : ℕ) → So (has rest i) → P x i))

left_start : (b s : ℕ) (P : ℕ → ℕ → Type 0) → Left b s P b s
left_start b s P = record { bound = le_refl b; within = λ i t. t; same = λ x. (λ h. h, λ h. h) }

module _ (b s : ℕ) (P : ℕ → ℕ → Type 0) (m rest : ℕ) (inv : Left b s P m rest) where
  -- the next item is done, and with it all that ask no more than it does
  left_more : (i d m' rest' : ℕ) → So (has rest i) → ((x : ℕ) → (x ≤ m') ↔ ((x ≤ m) × P x i)) → ((x j : ℕ) → So (has d j) → P x i → P x j) → rest' ≡ rest ∖ d
      → Left b s P m' rest'
  left_more i d m' rest' there step easier e =
      record {
        bound = le_trans ((step m').0 (le_refl m')).0 inv.bound;
        within = λ j t. inv.within j ((∖-iff rest d j).0 (rw e at t)).0;
        same = λ x. (
          λ h.
              let a = (inv.same x).0 h in
              ((step x).1 (a.0, a.1 i there), λ j t. a.1 j ((∖-iff rest d j).0 (rw e at t)).0),
          λ h.
              let a = (step x).0 h.0 in
              (inv.same x).1 (
                a.0,
                λ j t. by_test (has d j) (λ y. easier x j y a.1) (λ y. h.1 j (rw e ((∖-iff rest d j).1 (t, So-not y)))),
              ),
        );
      }

  left_none : rest ≡ 0 → (x : ℕ) → (x ≤ m) ↔ ((x ≤ b) × ((i : ℕ) → So (has s i) → P x i))
  left_none e x = (λ h. (inv.same x).1 (h, λ i t. absurd (So-not (has-zero i) (rw e at t))), λ h. ((inv.same x).0 h).0)

  -- a number that is no more than any is no more than what the next item leaves
  left_above : (i m' : ℕ) → So (has rest i) → ((x : ℕ) → x ≤ m → P x i → x ≤ m') → (x : ℕ) → x ≤ b → ((j : ℕ) → So (has s j) → P x j) → x ≤ m'
  left_above i m' there step x l h = let a = (inv.same x).0 (l, h) in step x a.0 (a.1 i there)

-- ---- one sample: `own` are the roles counted that it has

abbrev pub One : Work → ℕ → ℕ → ℕ → Type 0
One ws own x g = x ≤ ones (own ∩ entries ws.up g)

pub record Asking (ws : Work) (own b s m rest : ℕ) : Type 0 where
  pub left : Left b s (One ws own) m rest

pub asking_start : (ws : Work) (own b s : ℕ) → Asking ws own b s b s
asking_start ws own b s = record { left = left_start b s (One ws own) }

-- the first holder g is asked: m' is the smaller of m and its number
pub record HolderAsked (ws : Work) (own m rest g m' : ℕ) : Type 0 where
  pub there : So (has rest g)
  pub number : (x : ℕ) → (x ≤ m') ↔ ((x ≤ m) × One ws own x g)

pub asked : (ws : Work) (own m rest g up meet n m' : ℕ) → So (has rest g) → up ≡ entries ws.up g → meet ≡ own ∩ up → n ≡ ones meet
    → m' ≡ min n m → HolderAsked ws own m rest g m'
asked ws own m rest g up meet n m' there eu em en e =
    let d : n ≡ ones (own ∩ entries ws.up g) = en ∙ ap ones (em ∙ ap (λ (y : ℕ). own ∩ y) eu) in
    record { there = there; number = λ x. rw d at (smaller_iff n m m' e x) }

module _ (ws : Work) (own b s m rest : ℕ) (given : (ρ : Roles) × Prepared ρ ws × (s < 2 ^ candidate_count ρ)) (inv : Asking ws own b s m rest) where
  module _ (g m' : ℕ) (a : HolderAsked ws own m rest g m') where
    known : g < candidate_count given.0
    known = item_below (candidate_count given.0) s g given.2 (inv.left.within g a.there)

    pub asking_more : (d rest' : ℕ) → d ≡ entries ws.down g → rest' ≡ rest ∖ d → Asking ws own b s m' rest'
    asking_more d rest' ed er =
        let ρ = given.0 in
        let P = given.1 in
        record {
          left =
              left_more b s (One ws own) m rest inv.left g d m' rest' a.there a.number
              (λ x j t l.
              let down = rw (ed ∙ P.reach.down g known) at t in
              rw (P.reach.up j ((down_from_iff ρ g j).0 down).0) (nearer_holder ρ own x g j down (rw (P.reach.up g known) at l))) er;
        }

    pub asking_fewer : (d : ℕ) → d ≡ entries ws.down g → ones (rest ∖ d) < ones rest
    asking_fewer d ed =
        let ρ = given.0 in
        dropped_fewer rest d g a.there (rw (ed ∙ given.1.reach.down g known) ((down_from_iff ρ g g).1 (known, subset_refl (permission_set ρ g))))

    -- the floor is met
    pub asking_stop : (floor : ℕ) → m' ≤ floor → LeastTo floor m' b s (λ g. ones (own ∩ entries ws.up g))
    asking_stop floor l =
        record {
          bound = le_trans ((a.number m').0 (le_refl m')).0 inv.left.bound;
          above = λ x h f. left_above b s (One ws own) m rest inv.left g m' a.there (λ x y z. (a.number x).1 (y, z)) x h f;
          least = λ y. absurd (lt_irrefl floor (omega arith));
        }

  pub asking_all : (floor : ℕ) → rest ≡ 0 → LeastTo floor m b s (λ g. ones (own ∩ entries ws.up g))
  asking_all floor e =
      let a = left_none b s (One ws own) m rest inv.left e in
      record { bound = inv.left.bound; above = λ x h f. (a x).1 (h, f); least = λ y. ((a m).0 (le_refl m)).1 }

-- ---- all samples that hold a role

-- x is at most what sample i gives, hs being the first holders down from the role
abbrev Of : Work → ℕ → ℕ → ℕ → ℕ → Type 0
Of ws counted hs x i = AtMost (entries ws.up) counted hs (entries ws.samples i) x

pub record Walking (ws : Work) (hs counted b s m rest : ℕ) : Type 0 where
  pub left : Left b s (Of ws counted hs) m rest

pub walking_start : (ws : Work) (hs counted b s : ℕ) → Walking ws hs counted b s b s
walking_start ws hs counted b s = record { left = left_start b s (Of ws counted hs) }

-- a role that is counted covers what it covers
floor_under : (ρ : Roles) (s k floor : ℕ) → k < candidate_count ρ → floor ≡ (when has s k then 1 else 0) → floor ≤ redundancy ρ s k
unfolding coverers
floor_under ρ s k floor lk e =
    by_test (has s k)
    (λ t.
    let one : floor ≡ 1 = e ∙ when-true (has s k) 1 0 t in
    (redundancy_iff ρ s k floor).1 (
      omega arith,
      λ u p lu lp g v.
          let c = candidate_count ρ in
          let a = ones_some (coverers ρ u p ∩ s) k ((∩-iff (coverers ρ u p) s k).1 ((collect_iff c (λ k. covers ρ k u p) k).1 (lk, v), t)) in
          omega arith,
    ))
    (λ t. let none : floor ≡ 0 = e ∙ when-false (has s k) 1 0 t in omega arith)

-- what is known when the walk begins: hs are the first holders, and ss the samples, that are asked for role k
pub record WalkBegun (ws : Work) (c k hs ss : ℕ) : Type 0 where
  pub given : PreparedFor c ws
  pub low : k < c
  pub holders : hs ≡ entries ws.down k ∩ set_of ws.first
  pub samples : ss ≡ entries ws.holding k

module _ (ws : Work) (c k hs ss : ℕ) (b : WalkBegun ws c k hs ss) where
  -- the samples and the first holders that are asked, in the tables of these roles
  module _ (ρ : Roles) (n : candidate_count ρ ≡ c) (P : Prepared ρ ws) where
    role : k < candidate_count ρ
    role = rw n b.low

    held : (i : ℕ) → So (has ss i) ↔ ((i < P.count) × So (has (P.found i) k))
    unfolding holding
    held i =
        let e : ss ≡ collect P.count (λ i. has (P.found i) k) = b.samples ∙ P.samples.held k role in
        rw e (collect_iff P.count (λ i. has (P.found i) k) i)

    roles : (i : ℕ) → So (has ss i) → entries ws.samples i ≡ P.found i
    roles i t = P.samples.roles i ((held i).0 t).0

    holders : hs ≡ down_from ρ k ∩ first_holders ρ
    holders = b.holders ∙ ap₂ (λ (y z : ℕ). y ∩ z) (P.reach.down k role) P.first

  pub holders_below : (ρ : Roles) × Prepared ρ ws × (hs < 2 ^ candidate_count ρ)
  unfolding first_holders
  holders_below =
      let ρ = b.given.0 in
      (ρ, b.given.2, rw (holders ρ b.given.1 b.given.2) (∩-lt (candidate_count ρ) (down_from ρ k) (first_holders ρ) (collect_lt (candidate_count ρ) _)))

  -- the numbers of the walk are those of the redundancy
  walk_iff : (counted : ℕ) (st : State) → Limits st → candidate_count (roles_of st) ≡ c → Prepared (roles_of st) ws → (x : ℕ)
      → ((x ≤ c) × ((i : ℕ) → So (has ss i) → Of ws counted hs x i)) ↔ (x ≤ redundancy (roles_of st) counted k)
  walk_iff counted st lim n P x =
      let ρ = roles_of st in
      let up : (g : ℕ) → So (has hs g) → entries ws.up g ≡ up_from ρ g =
      λ g t. P.reach.up g ((down_from_iff ρ k g).0 ((∩-iff (down_from ρ k) (first_holders ρ) g).0 (rw (holders ρ n P) at t)).0).0 in (
        λ w.
            (redundancy_ends st lim counted k x (role ρ n P)).1 (
              rw n w.0,
              λ u ku g t.
                  let s = P.samples.of_users.sample_of u ((with_roles_iff ρ u).1 (k, ku)) in
                  let there : So (has ss s.0) = (held ρ n P s.0).1 (s.1, rw s.2 ku) in
                  let tg : So (has hs g) = rw (holders ρ n P) (rw (sure_holders st u k ku) at t) in
                  let e : entries ws.samples s.0 ≡ roles_of_user ρ u = roles ρ n P s.0 there ∙ s.2 in
                  rw (e, up g tg) at (w.1 s.0 there g tg),
            ),
        λ h.
            let w = (redundancy_ends st lim counted k x (role ρ n P)).0 h in (
              rw n at w.0,
              λ i t g tg.
                  let a = (held ρ n P i).0 t in
                  let u = P.samples.of_users.user_of i a.0 in
                  let ku : So (has (roles_of_user ρ u.0) k) = rw u.2 at a.1 in
                  let e : entries ws.samples i ≡ roles_of_user ρ u.0 = roles ρ n P i t ∙ u.2 in
                  rw (e, up g tg) (w.1 u.0 ku g (rw (sure_holders st u.0 k ku) (rw (holders ρ n P) at tg))),
            ),
      )

  module _ (counted m rest : ℕ) (inv : Walking ws hs counted c ss m rest) where
    -- what the walk is for
    abbrev Found : ℕ → Type 0
    Found m =
        (m ≤ c) × ((st : State) → Limits st → candidate_count (roles_of st) ≡ c → Prepared (roles_of st) ws → m ≡ redundancy (roles_of st) counted k)

    module _ (i floor m' : ℕ) (there : So (has rest i))
        (told : LeastTo floor m' m hs (λ g. ones (entries ws.samples i ∩ counted ∩ entries ws.up g))) where
      asked_for : So (has ss i)
      asked_for = inv.left.within i there

      -- those further up than sample i
      beyond : (d : ℕ) → d ≡ entries ws.further i → d ≡ further b.given.2.count b.given.2.found i
      beyond d e = e ∙ b.given.2.beyond i ((held b.given.0 b.given.1 b.given.2 i).0 asked_for).0

      pub walking_more : (d rest' : ℕ) → floor < m' → d ≡ entries ws.further i → rest' ≡ rest ∖ d → Walking ws hs counted c ss m' rest'
      unfolding further
      walking_more d rest' more e1 e2 =
          let P = b.given.2 in
          record {
            left =
                left_more c ss (Of ws counted hs) m rest inv.left i d m' rest' there
                (λ x. (λ h. (le_trans h told.bound, λ g t. le_trans h (told.least more g t)), λ h. told.above x h.0 h.1))
                (λ x j t h.
                let a = (collect_iff P.count (λ j. subset (P.found i) (P.found j)) j).0 (rw (beyond d e1) at t) in
                nearer_user (entries ws.up) counted hs (entries ws.samples i) hs (entries ws.samples j) x (subset_refl hs)
                (rw (roles b.given.0 b.given.1 P i asked_for, P.samples.roles j a.0) a.1) h) e2;
          }

      pub walking_fewer : (d : ℕ) → d ≡ entries ws.further i → ones (rest ∖ d) < ones rest
      unfolding further
      walking_fewer d e =
          let P = b.given.2 in
          dropped_fewer rest d i there
          (rw (beyond d e)
          ((collect_iff P.count (λ j. subset (P.found i) (P.found j)) i).1
          (((held b.given.0 b.given.1 P i).0 asked_for).0, subset_refl (P.found i))))

      -- the floor is met: the redundancy is no more than what is found, and no less than the floor
      pub walking_stop : floor ≡ (when has counted k then 1 else 0) → m' ≤ floor → Found m'
      walking_stop e stop = (
        le_trans told.bound inv.left.bound,
        λ st lim n P.
            let q = redundancy (roles_of st) counted k in
            let w = (walk_iff counted st lim n P q).1 (le_refl q) in
            let top = left_above c ss (Of ws counted hs) m rest inv.left i m' there (λ x y z. told.above x y z) q w.0 w.1 in
            let low = floor_under (roles_of st) counted k floor (role (roles_of st) n P) e in
            omega arith,
      )

    pub walking_all : rest ≡ 0 → Found m
    walking_all e = (
      inv.left.bound,
      λ st lim n P.
          same_number m (redundancy (roles_of st) counted k)
          (λ x.
          let z = left_none c ss (Of ws counted hs) m rest inv.left e x in
          let w = walk_iff counted st lim n P x in
          (λ h. w.0 (z.0 h), λ h. z.1 (w.1 h))),
    )
