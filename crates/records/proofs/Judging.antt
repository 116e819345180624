-- A record judged part by part.
-- Assumes nothing.
use mathlib.Core.Path.{◌≡◌, refl, sym, ◌∙◌}
use mathlib.Core.Bool.{Bool, true, false, So, not}
use mathlib.Core.Logic.{◌↔◌}
use mathlib.Core.List.{List}
use Prim.Native.Nat.{ℕ, ◌^◌, ◌≤◌, ◌<◌}
use native.Mathlib.Omega.{arith}
use lib.Dec.{ltb}
use borrow.Author.Tests.{not-true, not-false}
use lib.ListN.{length, get_or}
use Rattle.sets.specs.Truth.{◌and◌}
use Rattle.sets.specs.Sets.{has, subset, collect}
use Rattle.sets.proofs.Truth.{same_test, So-not, not-So, and_iff, ltb_iff}
use Rattle.sets.proofs.Order.{subset_iff, collect_iff}
use Rattle.sets.proofs.Members.{same_set, item_below, below_of_items}
use Rattle.model.specs.Lists.{set_at, rows_at}
use Rattle.model.specs.Candidates.{candidates}
use Rattle.model.specs.Hierarchy.{candidate_count}
use Rattle.model.specs.Coverage.{all_covered}
use Rattle.model.specs.Record.{record_length, crew_start, built, state_of, sound, Limits}
use Rattle.model.specs.State.{roles_of, fresh, within_limits, rows_within}
use Rattle.model.proofs.Lists.{length-rows_at}
use Rattle.model.proofs.Record.{within_limits_iff, rows_within_iff, sound_iff, sound-built}
use Rattle.indexes.specs.declared.index.Index.{Index}
use Rattle.indexes.specs.Index.{Indexed}
use Rattle.rows.specs.Linked.{Linked, Ready}
use Rattle.rows.specs.Partway.{Headed}
use Rattle.sets.proofs.Telling.{failed}
use Rattle.records.specs.Records.{OnlyCandidates, Described}
use Rattle.records.proofs.Beginning.{built_headed}

-- ---- what two tests in a row tell

pub first_fails : (a b t : Bool) → t ≡ a → not t ≡ true → false ≡ (a and b)
first_fails a b t e h = sym (not-So (a and b) (λ x. So-not (sym e ∙ not-true t h) ((and_iff a b).0 x).0))

pub first_holds : (a b t r : Bool) → t ≡ a → not t ≡ false → r ≡ b → r ≡ (a and b)
first_holds a b t r e h f =
    f ∙ same_test b (a and b) (λ x. (and_iff a b).1 (sym e ∙ not-false t h, x)) (λ x. ((and_iff a b).0 x).1)

-- ---- the whole record

module _ (ws : List ℕ) (full : length ws ≡ record_length) where
  abbrev pub limited : Bool
  limited = within_limits (get_or ws 0 0) (get_or ws 1 0) and rows_within (get_or ws 1 0) (rows_at (get_or ws 0 0) ws crew_start)

  sound_limits : So (sound ws) → Limits (state_of ws)
  sound_limits h = ((sound_iff ws).0 h).1

  pub unlimited : (t : Bool) → t ≡ limited → not t ≡ true → false ≡ sound ws
  unfolding state_of
  unlimited t e h =
      sym (not-So (sound ws)
      (λ s.
      let l = sound_limits s in
      So-not (sym e ∙ not-true t h)
      ((and_iff (within_limits (get_or ws 0 0) (get_or ws 1 0)) (rows_within (get_or ws 1 0) (rows_at (get_or ws 0 0) ws crew_start))).1 (
        (within_limits_iff (get_or ws 0 0) (get_or ws 1 0)).1 (l.users_some, l.users_most, l.permissions_some, l.permissions_most),
        (rows_within_iff (get_or ws 1 0) (rows_at (get_or ws 0 0) ws crew_start)).1 (λ u b. l.rows_below u (rw (length-rows_at (get_or ws 0 0) ws crew_start) at b)),
      ))))

  pub unheaded : (t : Bool) → So t ↔ Headed (state_of ws) ws → not t ≡ true → false ≡ sound ws
  unheaded t k h = sym (not-So (sound ws) (λ s. failed t k h (built_headed (state_of ws) ws (sound-built ws s))))

  pub limited_users : So limited → get_or ws 0 0 ≤ 128
  limited_users ok =
      ((within_limits_iff (get_or ws 0 0) (get_or ws 1 0)).0
      ((and_iff (within_limits (get_or ws 0 0) (get_or ws 1 0)) (rows_within (get_or ws 1 0) (rows_at (get_or ws 0 0) ws crew_start))).0 ok).0).1

  pub too_many : 128 < length (candidates (rows_at (get_or ws 0 0) ws crew_start)) → false ≡ sound ws
  unfolding state_of roles_of candidate_count
  too_many h = sym (not-So (sound ws) (λ s. let l = (sound_limits s).candidates_most in let z : ⊥ = omega arith in z))

  -- from here on the limits are kept, and there are c candidates
  module _ (ok : So limited) (c : ℕ) (count : c ≡ length (candidates (rows_at (get_or ws 0 0) ws crew_start))) (few : c ≤ 128) where
    within_parts : ((1 ≤ get_or ws 0 0) × (get_or ws 0 0 ≤ 128) × (1 ≤ get_or ws 1 0) × (get_or ws 1 0 ≤ 256))
        × ((u : ℕ) → u < length (rows_at (get_or ws 0 0) ws crew_start) → get_or (rows_at (get_or ws 0 0) ws crew_start) u 0 < 2 ^ get_or ws 1 0)
    within_parts =
        let a = (and_iff (within_limits (get_or ws 0 0) (get_or ws 1 0)) (rows_within (get_or ws 1 0) (rows_at (get_or ws 0 0) ws crew_start))).0 ok in
        ((within_limits_iff (get_or ws 0 0) (get_or ws 1 0)).0 a.0, (rows_within_iff (get_or ws 1 0) (rows_at (get_or ws 0 0) ws crew_start)).0 a.1)

    pub counted : candidate_count (roles_of (state_of ws)) ≡ c
    unfolding state_of roles_of candidate_count
    counted = sym count

    pub too_high : (s t : ℕ) (b : Bool) → s ≡ set_at 2 ws 4 → t ≡ collect 128 (λ i. ltb i c) → b ≡ subset s t → not b ≡ true → false ≡ sound ws
    unfolding state_of
    too_high s t b es et e h =
        sym (not-So (sound ws)
        (λ x.
        let low : s < 2 ^ c = rw es (rw counted at (sound_limits x).standing_below) in
        So-not (sym e ∙ not-true b h)
        ((subset_iff s t).1 (λ i y. rw et (let l = item_below c s i low y in (collect_iff 128 (λ i. ltb i c) i).1 (omega arith, (ltb_iff i c).1 l))))))

    module _ (s t : ℕ) (b : Bool) (es : s ≡ set_at 2 ws 4) (et : t ≡ collect 128 (λ i. ltb i c)) (e : b ≡ subset s t) (h : not b ≡ false) where
      low_enough : set_at 2 ws 4 < 2 ^ c
      low_enough =
          rw (sym es)
          (below_of_items c s
          (λ i l.
          not-So (has s i)
          (λ y.
          let z = (ltb_iff i c).0 ((collect_iff 128 (λ i. ltb i c) i).0 (rw et at ((subset_iff s t).0 (sym e ∙ not-false b h) i y))).1 in
          let q : ⊥ = omega arith in q)))

      pub limits : Limits (state_of ws)
      unfolding state_of
      limits =
          let p = within_parts in
          record {
            users_some = p.0.0;
            users_most = p.0.1;
            permissions_some = p.0.2;
            permissions_most = p.0.3;
            rows_count = length-rows_at (get_or ws 0 0) ws crew_start;
            rows_below = λ u l. p.1 u (rw (length-rows_at (get_or ws 0 0) ws crew_start) l);
            candidates_most = rw counted few;
            standing_below = rw counted low_enough;
          }

-- ---- a record within the limits

module _ (ws : List ℕ) (full : length ws ≡ record_length) (lim : Limits (state_of ws)) where
  pub few_users : get_or ws 0 0 ≤ 128
  unfolding state_of
  few_users = lim.users_most

  pub uncovered : (t : Bool) → t ≡ all_covered (roles_of (state_of ws)) (state_of ws).standing → not t ≡ true → false ≡ sound ws
  uncovered t e h = sym (not-So (sound ws) (λ s. So-not (sym e ∙ not-true t h) ((sound_iff ws).0 s).2))

  -- the rows decide
  module _ (t r : Bool) (et : t ≡ all_covered (roles_of (state_of ws)) (state_of ws).standing) (h : not t ≡ false) (rows : So r ↔ (ws ≡ built (state_of ws))) where
    pub compared : r ≡ sound ws
    compared =
        same_test r (sound ws) (λ a. (sound_iff ws).1 (full, lim, sym et ∙ not-false t h, rows.0 a)) (λ s. rows.1 (sound-built ws s))

    pub ready : (index : Index) (seniors : List ℕ) → Indexed (roles_of (state_of ws)) index → (So r → Linked ws seniors) → So (sound ws) → Ready (state_of ws) ws index seniors
    ready index seniors ix linked s =
        record { limits = lim; afresh = sound-built ws s; indexed = ix; linked = linked (compared ∙ s) }

module _ (n m : ℕ) (rows : List ℕ) (lim : Limits (fresh n m rows)) where
  pub fresh_few : n ≤ 128
  unfolding fresh
  fresh_few = lim.users_most

-- a fresh state's candidates are those of its rows
pub fresh-candidates : (n m : ℕ) (rows ws : List ℕ) → OnlyCandidates ws (candidates rows) → OnlyCandidates ws (candidates (fresh n m rows).rows)
unfolding fresh
fresh-candidates n m rows ws o = o

-- "Fresh from mining, R is all candidates."
pub all_standing : (n m : ℕ) (rows : List ℕ) (c : ℕ) → c ≤ 128 → candidate_count (roles_of (fresh n m rows)) ≡ c
    → (fresh n m rows).standing ≡ collect 128 (λ k. ltb k c)
unfolding fresh roles_of candidate_count
all_standing n m rows c few count =
    rw count
    (same_set (collect c (λ k. true)) (collect 128 (λ k. ltb k c))
    (λ k x. let a = (collect_iff c (λ k. true) k).0 x in (collect_iff 128 (λ k. ltb k c) k).1 (let l = a.0 in omega arith, (ltb_iff k c).1 a.0))
    (λ k x. (collect_iff c (λ k. true) k).1 ((ltb_iff k c).0 ((collect_iff 128 (λ k. ltb k c) k).0 x).1, refl)))

fresh_count : (n m : ℕ) (crew : List ℕ) → candidate_count (roles_of (fresh n m crew)) ≡ length (candidates crew)
unfolding fresh roles_of candidate_count
fresh_count n m crew = refl

pub fresh_described : (n m : ℕ) (crew : List ℕ) (c r : ℕ) → Limits (fresh n m crew) → c ≡ length (candidates crew) → r ≡ collect 128 (λ k. ltb k c)
    → Described (fresh n m crew) crew n m c r
unfolding fresh
fresh_described n m crew c r lim e er =
    let count : candidate_count (roles_of (fresh n m crew)) ≡ c = fresh_count n m crew ∙ sym e in
    record {
      limits = lim;
      users = refl;
      permissions = refl;
      rows = refl;
      count = count;
      standing = all_standing n m crew c (rw count at lim.candidates_most) count ∙ sym er;
    }
