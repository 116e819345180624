-- Regions of a record: what a store of one set does to its own region and to the others, and how a region is read.
-- Assumes nothing.
use mathlib.Core.Path.{◌≡◌, refl, sym, ◌∙◌, ap}
use mathlib.Core.Bool.{Bool, So}
use mathlib.Core.Logic.{◌≢◌}
use mathlib.Core.List.{List}
use Prim.Native.Nat.{ℕ, suc, ◌+◌, ◌*◌, ◌^◌, ◌≤◌, ◌<◌}
use native.Mathlib.Nat.{mul-suc, mul-le-mul_left, lt_of_lt_of_le}
use native.Mathlib.Omega.{arith}
use lib.ListN.{length, get_or, take, drop}
use lib.Seq.{get_or-take, get_or-drop}
use Rattle.sets.specs.Truth.{when◌then◌else◌}
use Rattle.sets.specs.Sets.{has, ◌∖◌, single}
use Rattle.sets.specs.Words.{word}
use Rattle.sets.proofs.Truth.{by_test, same_test, not-So, So-not, either, equal_or, when-true, when-false}
use Rattle.sets.proofs.Members.{has-zero}
use Rattle.sets.proofs.Order.{∖-iff, single_iff}
use Rattle.model.specs.Lists.{set_at}
use Rattle.model.proofs.Lists.{set_at_words}
use Rattle.stores.specs.Stores.{put_at}
use Rattle.tables.specs.Stores.{words_of}
use Rattle.tables.specs.Tables.{HoldsSets}
use Rattle.stores.proofs.Stores.{put_at-below, put_at_above}
use Rattle.tables.proofs.Stores.{length-words_of, stored_word}
use Rattle.rows.specs.Partway.{still, Region}

-- ---- what is still old

module _ (s : ℕ) (old new : ℕ → ℕ) where
  pub still_new : (k : ℕ) → (So (has s k) → ⊥) → still s old new k ≡ new k
  unfolding still
  still_new k h = when-false (has s k) (old k) (new k) (not-So (has s k) h)

  -- where nothing differs outside of s, all may be called old
  pub still_all : ((k : ℕ) → (So (has s k) → ⊥) → old k ≡ new k) → (k : ℕ) → old k ≡ still s old new k
  unfolding still
  still_all same k =
      by_test (has s k) (λ h. sym (when-true (has s k) (old k) (new k) h)) (λ h. same k (So-not h) ∙ sym (when-false (has s k) (old k) (new k) h))

  pub still_done : (k : ℕ) → still (s ∖ single k) old new k ≡ new k
  unfolding still
  still_done k =
      when-false (has (s ∖ single k) k) (old k) (new k) (not-So (has (s ∖ single k) k) (λ h. ((∖-iff s (single k) k).0 h).1 ((single_iff k k).1 refl)))

  pub still_other : (k i : ℕ) → i ≢ k → still (s ∖ single k) old new i ≡ still s old new i
  unfolding still
  still_other k i d =
      ap (λ (b : Bool). when b then old i else new i)
      (same_test (has (s ∖ single k) i) (has s i) (λ h. ((∖-iff s (single k) i).0 h).0) (λ h. (∖-iff s (single k) i).1 (h, λ x. d (sym ((single_iff k i).0 x)))))

pub still-none : (old new : ℕ → ℕ) (k : ℕ) → still 0 old new k ≡ new k
still-none old new k = still_new 0 old new k (So-not (has-zero k))

-- ---- stores

-- an entry lies before the next one
before_next : (w k n j : ℕ) → k < n → j < w → w * k + j < w * n
before_next w k n j l h = let a : w * suc k ≤ w * n = mul-le-mul_left w l in omega (arith, mul-suc w k)

pub region_stored : (w start k x : ℕ) (f g : ℕ → ℕ) (ws : List ℕ) → start + w * 128 ≤ length ws → k < 128 → Region w start f ws
    → g k ≡ x → ((i : ℕ) → i ≢ k → g i ≡ f i) → Region w start g (put_at ws (start + w * k) (words_of w x))
region_stored w start k x f g ws room lk h new others i j li lj =
    equal_or i k
    (λ (e : i ≡ k).
    let fits : w * suc k ≤ w * 128 = mul-le-mul_left w lk in
    rw e (stored_word ws (start + w * k) w x j (omega (arith, mul-suc w k)) lj ∙ ap (λ (y : ℕ). word y j) (sym new)))
    (λ d.
    let same : word (f i) j ≡ word (g i) j = ap (λ (y : ℕ). word y j) (sym (others i d)) in
    either i k
    (λ l.
    let near = before_next w i k j l lj in
    put_at-below ws (start + w * k) (words_of w x) (start + w * i + j) (omega arith) ∙ h i j li lj ∙ same)
    (λ l.
    let far : w * suc k ≤ w * i = mul-le-mul_left w (let z : suc k ≤ i = omega arith in z) in
    put_at_above ws (start + w * k) (words_of w x) (start + w * i + j) (rw (length-words_of w x) (omega (arith, mul-suc w k))) ∙ h i j li lj ∙ same))

-- a store behind a region, and one before it
pub region_before : (w start : ℕ) (f : ℕ → ℕ) (ws : List ℕ) (at v x : ℕ) → start + w * 128 ≤ at → Region w start f ws → Region w start f (put_at ws at (words_of v x))
region_before w start f ws at v x far h k j lk lj =
    let near = before_next w k 128 j lk lj in
    put_at-below ws at (words_of v x) (start + w * k + j) (omega arith) ∙ h k j lk lj

pub region_after : (w start : ℕ) (f : ℕ → ℕ) (ws : List ℕ) (at v x : ℕ) → at + v ≤ start → Region w start f ws → Region w start f (put_at ws at (words_of v x))
region_after w start f ws at v x far h k j lk lj =
    put_at_above ws at (words_of v x) (start + w * k + j) (rw (length-words_of v x) (omega arith)) ∙ h k j lk lj

-- ---- reading

-- a region as a table of its own
pub region_holds : (w start c n : ℕ) (f : ℕ → ℕ) (ws : List ℕ) → n ≡ w * 128 → c ≤ 128 → ((k : ℕ) → k < c → f k < 2 ^ (64 * w)) → Region w start f ws
    → HoldsSets w c f (take n (drop start ws))
region_holds w start c n f ws size few small h k l =
    let lk = lt_of_lt_of_le l few in
    set_at_words w (f k) (take n (drop start ws)) (w * k) (small k l)
    (λ j lj.
    let near = before_next w k 128 j lk lj in
    let place : start + (w * k + j) ≡ start + w * k + j = omega arith in
    get_or-take n (drop start ws) (w * k + j) 0 (omega arith) ∙ get_or-drop start ws (w * k + j) 0 ∙ ap (λ (i : ℕ). get_or ws i 0) place ∙ h k j lk lj)

-- one entry of a region
pub region_read : (w start k : ℕ) (f : ℕ → ℕ) (ws : List ℕ) → k < 128 → f k < 2 ^ (64 * w) → Region w start f ws → set_at w ws (start + w * k) ≡ f k
region_read w start k f ws lk small h = set_at_words w (f k) ws (start + w * k) small (λ j lj. h k j lk lj)
