-- The samples that have all roles of one: those left after each of its roles, or one that it lies within, was asked for.
-- Assumes nothing.
use mathlib.Core.Path.{◌≡◌, refl, ◌∙◌, ap}
use mathlib.Core.Bool.{Bool, So}
use mathlib.Core.Logic.{◌↔◌}
use mathlib.Core.List.{List}
use Prim.Native.Nat.{ℕ, ◌+◌, ◌*◌, ◌^◌, ◌<◌}
use native.Mathlib.Omega.{arith}
use lib.Count.{ones}
use lib.Dec.{ltb}
use lib.ListN.{length}
use Rattle.sets.specs.Sets.{has, ◌∩◌, ◌∖◌, subset, collect}
use Rattle.sets.proofs.Truth.{by_test, So-not, equal_or, ltb_iff}
use Rattle.sets.proofs.Members.{has-zero, same_set}
use Rattle.sets.proofs.Order.{∩-iff, ∖-iff, subset_iff, subset_refl, collect_iff}
use Rattle.model.specs.Hierarchy.{Roles, candidate_count, permission_set}
use Rattle.model.specs.Indexes.{roles_of_user, down_from}
use Rattle.model.proofs.Shortcuts.{roles_of_user_iff, down_from_iff, user_down}
use Rattle.stores.specs.Stores.{put_at}
use Rattle.tables.specs.Stores.{words_of}
use Rattle.tables.proofs.Stores.{stored_back, stored_before}
use Rattle.tables.specs.Tables.{HoldsSets}
use Rattle.edit_work.specs.declared.work.Work.{Work}
use Rattle.edit_work.specs.Work.{entries, UpAndDown, holding, further, Sampled, KnownSample}
use Rattle.sets.proofs.Counts.{dropped_fewer}

-- of `all` samples those are left that have each role of sample i that is not in `rest`
pub record Narrowing (ws : Work) (all i left rest : ℕ) : Type 0 where
  pub within : (k : ℕ) → So (has rest k) → So (has (entries ws.samples i) k)
  pub exactly : (j : ℕ) → So (has left j)
      ↔ (So (has all j) × ((k : ℕ) → So (has (entries ws.samples i) k) → (So (has rest k) → ⊥) → So (has (entries ws.samples j) k)))

pub narrowing_start : (ws : Work) (all i rest : ℕ) → rest ≡ entries ws.samples i → Narrowing ws all i all rest
narrowing_start ws all i rest e =
    record { within = λ k t. rw e at t; exactly = λ j. (λ t. (t, λ k h out. absurd (out (rw e h))), λ w. w.0) }

pub narrowing_all : (ws : Work) (all i left rest : ℕ) → Narrowing ws all i left rest → rest ≡ 0
    → (j : ℕ) → So (has left j) ↔ (So (has all j) × So (subset (entries ws.samples i) (entries ws.samples j)))
narrowing_all ws all i left rest inv e j =
    let mine = entries ws.samples i in
    let other = entries ws.samples j in (
      λ t. let a = (inv.exactly j).0 t in (a.0, (subset_iff mine other).1 (λ k h. a.1 k h (λ x. So-not (has-zero k) (rw e at x)))),
      λ w. (inv.exactly j).1 (w.0, λ k h out. (subset_iff mine other).0 w.1 k h),
    )

module _ (ws : Work) (all i left rest : ℕ) (a : KnownSample ws all i) (inv : Narrowing ws all i left rest) (k : ℕ) (there : So (has rest k)) where
  -- the user whose roles a sample has
  user : (j : ℕ) → j < a.count → (u : ℕ) × (entries ws.samples j ≡ roles_of_user a.whose u)
  user j l = let w = a.samples.of_users.user_of j l in (w.0, a.samples.roles j l ∙ w.2)

  role : k < candidate_count a.whose
  role = let u = user i a.one in ((roles_of_user_iff a.whose u.0 k).0 (rw u.1 at (inv.within k there))).0

  module _ (down : ℕ) (ed : down ≡ entries ws.down k) where
    below : down ≡ down_from a.whose k
    below = ed ∙ a.reach.down k role

    pub narrowing_fewer : ones (rest ∖ down) < ones rest
    narrowing_fewer = dropped_fewer rest down k there (rw below ((down_from_iff a.whose k k).1 (role, subset_refl (permission_set a.whose k))))

    -- those are left that hold k too, and with it all that lies within k
    pub narrowing_more : (held left' rest' : ℕ) → held ≡ entries ws.holding k → left' ≡ left ∩ held → rest' ≡ rest ∖ down → Narrowing ws all i left' rest'
    unfolding holding
    narrowing_more held left' rest' eh el er =
        let ρ = a.whose in
        let test : ℕ → Bool = λ j. has (a.found j) k in
        let hold : held ≡ collect a.count test = eh ∙ a.samples.held k role in
        let out : (q : ℕ) → So (has rest' q) → So (has rest q) × (So (has down q) → ⊥) = λ q t. (∖-iff rest down q).0 (rw er at t) in
        record {
          within = λ q t. inv.within q (out q t).0;
          exactly = λ j. (
            λ t.
                let b = (∩-iff left held j).0 (rw el at t) in
                let d = (inv.exactly j).0 b.0 in
                let h = (collect_iff a.count test j).0 (rw hold at b.1) in
                let u = user j h.0 in
                let own : So (has (entries ws.samples j) k) = rw (a.samples.roles j h.0) h.1 in
                let mine : So (has (roles_of_user ρ u.0) k) = rw u.1 at own in (
                  d.0,
                  λ q s gone.
                      by_test (has rest q)
                      (λ r.
                      by_test (has down q) (λ y. rw u.1 (user_down ρ u.0 k q mine (rw below at y)))
                      (λ y. absurd (gone (rw er ((∖-iff rest down q).1 (r, So-not y))))))
                      (λ r. d.1 q s (So-not r)),
                ),
            λ w.
                let l = (a.everyone j).0 w.0 in
                let gone : So (has rest' k) → ⊥ = λ t. (out k t).1 (rw below ((down_from_iff ρ k k).1 (role, subset_refl (permission_set ρ k)))) in
                rw el
                ((∩-iff left held j).1 (
                  (inv.exactly j).1 (w.0, λ q h r. w.1 q h (λ t. r (out q t).0)),
                  rw hold ((collect_iff a.count test j).1 (l, rw (a.samples.roles j l) at (w.1 k (inv.within k there) gone))),
                )),
          );
        }

-- ---- entry by entry: the rest of the work is as before

pub record FurtherFilling (count : ℕ) (before ws : Work) (n : ℕ) : Type 0 where
  pub kept : ws ≡ record before { further = ws.further }
  pub filled : HoldsSets 2 n (further count (entries before.samples)) ws.further

pub filling_start : (count : ℕ) (ws : Work) → FurtherFilling count ws ws 0
filling_start count ws =
    record { kept = refl; filled = λ k l. absurd (let z : ⊥ = omega arith in z) }

reached_still : (ρ : Roles) (ws : Work) (t : List ℕ) → UpAndDown ρ ws → UpAndDown ρ (record ws { further = t })
reached_still ρ ws t r = record { few = r.few; down = r.down; up = r.up }

sampled_still : (ρ : Roles) (count : ℕ) (found : ℕ → ℕ) (ws : Work) (t : List ℕ) → Sampled ρ count found ws → Sampled ρ count found (record ws { further = t })
sampled_still ρ count found ws t s = record { few = s.few; of_users = s.of_users; roles = s.roles; held = s.held }

module _ (count : ℕ) (before ws : Work) (n all : ℕ) (given : (ρ : Roles) × (found : ℕ → ℕ) × UpAndDown ρ before × Sampled ρ count found before)
    (inv : FurtherFilling count before ws n) (l : n < count) (ea : all ≡ collect 128 (λ j. ltb j count)) where
  everyone : (j : ℕ) → So (has all j) ↔ (j < count)
  everyone j = (
    λ t. (ltb_iff j count).0 ((collect_iff 128 (λ j. ltb j count) j).0 (rw ea at t)).1,
    λ b. let few = given.3.few in rw ea ((collect_iff 128 (λ j. ltb j count) j).1 (omega arith, (ltb_iff j count).1 b)),
  )

  pub filling_among : KnownSample ws all n
  filling_among =
      record {
        whose = given.0;
        count = count;
        found = given.1;
        reach = rw inv.kept (reached_still given.0 before ws.further given.2);
        samples = rw inv.kept (sampled_still given.0 count given.1 before ws.further given.3);
        one = l;
        everyone = everyone;
      }

  same : (j : ℕ) → entries ws.samples j ≡ entries before.samples j
  same j = ap (λ (w : Work). entries w.samples j) inv.kept

  pub filling_more : (r : ℕ) → length ws.further ≡ 256 → r < 2 ^ 128
      → ((j : ℕ) → So (has r j) ↔ (So (has all j) × So (subset (entries ws.samples n) (entries ws.samples j))))
      → FurtherFilling count before (record ws { further = put_at ws.further (2 * n) (words_of 2 r) }) (n + 1)
  unfolding further
  filling_more r size small tells =
      let few = given.3.few in
      let at = 2 * n in
      let f = entries before.samples in
      let test : ℕ → Bool = λ j. subset (f n) (f j) in
      let e : r ≡ collect count test =
      same_set r (collect count test)
      (λ j t.
      let a = (tells j).0 t in
      let b = (everyone j).0 a.0 in
      (collect_iff count test j).1 (b, rw (same n, same j) at a.1))
      (λ j t.
      let a = (collect_iff count test j).0 t in
      (tells j).1 ((everyone j).1 a.0, rw (same n, same j) a.1)) in
      record {
        kept = ap (λ (w : Work). record w { further = put_at ws.further at (words_of 2 r) }) inv.kept;
        filled = λ k b.
            equal_or k n (λ (d : k ≡ n). rw d (stored_back ws.further at 2 r (omega arith) small ∙ e))
            (λ d. stored_before ws.further at 2 r (2 * k) 2 (omega arith) ∙ inv.filled k (omega arith));
      }
