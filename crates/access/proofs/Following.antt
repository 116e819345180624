-- What a set of roles reaches, found in one pass downward.
-- Assumes nothing.
use mathlib.Core.Path.{◌≡◌, refl, ◌∙◌}
use mathlib.Core.Bool.{false, So}
use mathlib.Core.Logic.{◌≢◌, ◌⊎◌, ⊎_elim}
use mathlib.Core.List.{List}
use Prim.Native.Nat.{ℕ, suc, ◌*◌, ◌^◌, ◌≤◌, ◌<◌}
use native.Mathlib.Omega.{arith}
use Rattle.sets.specs.Truth.{when◌then◌else◌}
use Rattle.sets.specs.Sets.{has, ◌∪◌}
use Rattle.sets.proofs.Truth.{by_test, So-not, not-So, when-true, when-false, either, equal_or}
use Rattle.sets.proofs.Members.{item_below, same_set, below_of_items}
use Rattle.sets.proofs.Order.{∪-iff, ∪-lt}
use Rattle.model.specs.Lists.{set_at}
use Rattle.model.specs.Hierarchy.{RoleRows}
use Rattle.model.specs.Chains.{link, reached}
use Rattle.model.proofs.Chains.{closed_chain, reaches_more, reached_iff}
use Rattle.tables.specs.Tables.{HoldsSets}
use Rattle.access.specs.Reach.{Downward}

-- t has been found from s, and the links of its roles from k up have been followed
pub record Followed (b : RoleRows) (c s k t : ℕ) : Type 0 where
  pub below : t < 2 ^ c
  pub start : (j : ℕ) → So (has s j) → So (has t j)
  pub only : (j : ℕ) → So (has t j) → So (has (reached (link b) c s) j)
  pub onward : (i j : ℕ) → k ≤ i → So (has t i) → So (link b i j) → So (has t j)

next : (k i : ℕ) → k ≤ i → k ≢ i → suc k ≤ i
next k i l d = either k i (λ m. m) (λ m. absurd (d (omega arith)))

module _ (b : RoleRows) (c s : ℕ) (few : c ≤ 128) (down : Downward c b) (small : s < 2 ^ c) where
  followed_none : Followed b c s 128 s
  followed_none =
      record {
        below = small;
        start = λ j h. h;
        only = λ j h. (reached_iff (link b) c down.ends s small j).1 (j, h, ◌⊎◌.inl refl);
        onward = λ i j l h k. let m = item_below c s i small h in absurd (let z : ⊥ = omega arith in z);
      }

  -- the links of one role more: where it is not found there are none to follow
  followed_past : (k t : ℕ) → Followed b c s (suc k) t → has t k ≡ false → Followed b c s k t
  followed_past k t f h =
      record {
        below = f.below;
        start = f.start;
        only = f.only;
        onward = λ i j l x y. equal_or k i (λ (e : k ≡ i). absurd (So-not h (rw e x))) (λ d. f.onward i j (next k i l d) x y);
      }

  followed_one : (k t x : ℕ) → Followed b c s (suc k) t → So (has t k) → x ≡ b.juniors k → Followed b c s k (t ∪ x)
  unfolding link
  followed_one k t x f h e =
      let linked : (j : ℕ) → So (has x j) → So (link b k j) = λ j y. rw e at y in
      record {
        below = ∪-lt c t x f.below (below_of_items c x (λ i l. not-So (has x i) (λ y. let m = down.ends k i (linked i y) in let z : ⊥ = omega arith in z)));
        start = λ j y. (∪-iff t x j).1 (◌⊎◌.inl (f.start j y));
        only = λ j y.
            ⊎_elim (f.only j)
            (λ z.
            let w = (reached_iff (link b) c down.ends s small k).0 (f.only k h) in
            (reached_iff (link b) c down.ends s small j).1 (w.0, w.1, reaches_more (link b) w.2 (linked j z)))
            ((∪-iff t x j).0 y);
        onward = λ i j l y z.
            (∪-iff t x j).1
            (equal_or k i (λ (d : k ≡ i). ◌⊎◌.inr (rw e (rw d z)))
            (λ d.
            ⊎_elim (λ y'. ◌⊎◌.inl (f.onward i j (next k i l d) y' z))
            (λ y'. let m = down.lower k i (linked i y') in absurd (let q : ⊥ = omega arith in q)) ((∪-iff t x i).0 y)));
      }

  followed_all : (t : ℕ) → Followed b c s 0 t → t ≡ reached (link b) c s
  followed_all t f =
      same_set t (reached (link b) c s) f.only
      (λ j h.
      let w = (reached_iff (link b) c down.ends s small j).0 h in
      let there = f.start w.0 w.1 in
      ⊎_elim (λ (e : w.0 ≡ j). rw e at there) (λ d. closed_chain (link b) t (λ i j x y. f.onward i j (omega arith) x y) d there) w.2)

-- for all rows that the table of juniors can stand for
abbrev pub Following : List ℕ → ℕ → ℕ → ℕ → Type 0
Following juniors s k t =
    (b : RoleRows) (c : ℕ) → c ≤ 128 → HoldsSets 2 c b.juniors juniors → Downward c b → s < 2 ^ c → Followed b c s k t

pub following_none : (juniors : List ℕ) (s : ℕ) → Following juniors s 128 s
following_none juniors s b c few h down small = followed_none b c s few down small

pub following_more : (juniors : List ℕ) (s k p t x t' : ℕ) → Following juniors s k t → k ≡ suc p → x ≡ set_at 2 juniors (2 * p)
    → t' ≡ (when has t p then t ∪ x else t) → Following juniors s p t'
following_more juniors s k p t x t' inv e ex et b c few h down small =
    let f : Followed b c s (suc p) t = rw e at (inv b c few h down small) in
    by_test (has t p)
    (λ y.
    rw (et ∙ when-true (has t p) (t ∪ x) t y)
    (followed_one b c s few down small p t x f y (ex ∙ h p (item_below c t p f.below y))))
    (λ y. rw (et ∙ when-false (has t p) (t ∪ x) t y) (followed_past b c s few down small p t f y))

pub following_all : (juniors : List ℕ) (s k t : ℕ) → Following juniors s k t → k ≡ 0
    → (b : RoleRows) (c : ℕ) → c ≤ 128 → HoldsSets 2 c b.juniors juniors → Downward c b → s < 2 ^ c → t ≡ reached (link b) c s
following_all juniors s k t inv e b c few h down small = followed_all b c s few down small t (rw e at (inv b c few h down small))
