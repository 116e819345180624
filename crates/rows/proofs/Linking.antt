-- The table of immediate seniors: after a change of one role's juniors, filled afresh, and read.
-- Assumes nothing.
use mathlib.Core.Path.{◌≡◌, sym, ◌∙◌, ap}
use mathlib.Core.Bool.{Bool, So}
use mathlib.Core.Logic.{◌≢◌, ◌⊎◌, ⊎_elim}
use mathlib.Core.List.{List}
use Prim.Native.Nat.{ℕ, ◌+◌, ◌*◌, ◌^◌, ◌≤◌, ◌<◌}
use native.Mathlib.Nat.{lt_of_lt_of_le}
use native.Mathlib.Omega.{arith}
use lib.ListN.{length, get_or, take, drop}
use lib.Pow.{pow_mono, pow_pos}
use Rattle.sets.specs.Truth.{when◌then◌else◌}
use Rattle.sets.specs.Sets.{has, ◌∪◌, ◌∖◌, single, collect}
use Rattle.sets.proofs.Truth.{by_test, same_test, not-So, So-not, either, equal_or, when-true, when-false}
use Rattle.sets.proofs.Members.{has-zero, has_above, same_below}
use Rattle.sets.proofs.Order.{∪-iff, ∖-iff, single_iff, has_with, has-collect, collect_lt}
use Rattle.sets.proofs.Words.{word-zero}
use Rattle.model.specs.Lists.{set_at}
use Rattle.model.specs.Hierarchy.{Roles, candidate_count, immediate_juniors}
use Rattle.model.specs.Record.{juniors_start}
use Rattle.model.proofs.Lists.{set_at_words}
use Rattle.model.proofs.Building.{absent_juniors}
use Rattle.stores.specs.Stores.{put_at}
use Rattle.tables.specs.Stores.{words_of}
use Rattle.tables.specs.Tables.{Filled}
use Rattle.tables.proofs.Parts.{set_at_part}
use Rattle.tables.proofs.Stores.{stored_back}
use Rattle.tables.proofs.Tables.{beside}
use Rattle.hierarchy.specs.Tables.{immediate_seniors}
use Rattle.model.specs.State.{State, roles_of}
use Rattle.indexes.specs.declared.index.Index.{Index}
use Rattle.indexes.specs.Index.{Indexed}
use Rattle.rows.specs.Linked.{Ready, Turned, juniors_in, Linked}

-- ---- one role's juniors change

-- the set with or without an item, item by item
module _ (x i : ℕ) (t : Bool) where
  own_item : has (when t then x ∪ single i else x ∖ single i) i ≡ t
  own_item =
      by_test t (λ h. rw (when-true t (x ∪ single i) (x ∖ single i) h, h) (has_with x i))
      (λ h.
      rw (when-false t (x ∪ single i) (x ∖ single i) h, h)
      (not-So (has (x ∖ single i) i) (λ p. ((∖-iff x (single i) i).0 p).1 ((single_iff i i).1 (λ _. i)))))

  other_item : (a : ℕ) → a ≢ i → has (when t then x ∪ single i else x ∖ single i) a ≡ has x a
  other_item a d =
      let out : So (has (single i) a) → ⊥ = λ p. d (sym ((single_iff i a).0 p)) in
      by_test t
      (λ h.
      rw (when-true t (x ∪ single i) (x ∖ single i) h)
      (same_test (has (x ∪ single i) a) (has x a) (λ p. ⊎_elim (λ q. q) (λ q. absurd (out q)) ((∪-iff x (single i) a).0 p))
      (λ p. (∪-iff x (single i) a).1 (◌⊎◌.inl p))))
      (λ h.
      rw (when-false t (x ∪ single i) (x ∖ single i) h)
      (same_test (has (x ∖ single i) a) (has x a) (λ p. ((∖-iff x (single i) a).0 p).0) (λ p. (∖-iff x (single i) a).1 (p, out))))

-- the entries of the roles that are not in rest tell whether role i has them as new juniors, and all entries what they told of the others
pub record Relinked (f : ℕ → ℕ) (i new rest : ℕ) (ws : List ℕ) : Type 0 where
  pub own : (j : ℕ) → j < 128 → (So (has rest j) → ⊥) → has (set_at 2 ws (2 * j)) i ≡ has new j
  pub others : (a j : ℕ) → a < 128 → j < 128 → a ≢ i → has (set_at 2 ws (2 * j)) a ≡ has (f a) j

module _ (f : ℕ → ℕ) (i new : ℕ) where
  pub relinked_start : (old lost gained rest : ℕ) (ws : List ℕ) → i < 128 → lost ≡ old ∖ new → gained ≡ new ∖ old → rest ≡ lost ∪ gained → Turned f ws → old ≡ f i
      → Relinked f i new rest ws
  relinked_start old lost gained rest ws li el eg er turned eo =
      record {
        own = λ j lj d.
            let out : So (has lost j) ⊎ So (has gained j) → ⊥ = λ p. d (rw er ((∪-iff lost gained j).1 p)) in
            turned i j li lj
            ∙ same_test (has (f i) j) (has new j)
            (λ p. by_test (has new j) (λ q. q) (λ q. absurd (out (◌⊎◌.inl (rw el ((∖-iff old new j).1 (rw eo p, So-not q)))))))
            (λ p. by_test (has (f i) j) (λ q. q) (λ q. absurd (out (◌⊎◌.inr (rw eg ((∖-iff new old j).1 (p, rw eo (So-not q))))))));
        others = λ a j la lj d. turned a j la lj;
      }

  pub relinked_more : (rest j x y : ℕ) (t : Bool) (ws : List ℕ) → j < 128 → 2 * j + 2 ≤ length ws → Relinked f i new rest ws → x ≡ set_at 2 ws (2 * j)
      → t ≡ has new j → y ≡ (when t then x ∪ single i else x ∖ single i) → y < 2 ^ 128
      → Relinked f i new (rest ∖ single j) (put_at ws (2 * j) (words_of 2 y))
  relinked_more rest j x y t ws lj room inv ex et ey small =
      let here : set_at 2 (put_at ws (2 * j) (words_of 2 y)) (2 * j) ≡ (when t then x ∪ single i else x ∖ single i) = stored_back ws (2 * j) 2 y room small ∙ ey in
      record {
        own = λ b lb d.
            equal_or b j (λ (e : b ≡ j). rw e (ap (λ (z : ℕ). has z i) here ∙ own_item x i t ∙ et))
            (λ e. ap (λ (z : ℕ). has z i) (beside ws j y b e) ∙ inv.own b lb (λ p. d ((∖-iff rest (single j) b).1 (p, λ q. e (sym ((single_iff j b).0 q))))));
        others = λ a b la lb d.
            equal_or b j
            (λ (e : b ≡ j). rw e (ap (λ (z : ℕ). has z a) here ∙ other_item x i t a d ∙ ap (λ (z : ℕ). has z a) ex ∙ inv.others a j la lj d))
            (λ e. ap (λ (z : ℕ). has z a) (beside ws j y b e) ∙ inv.others a b la lb d);
      }

  pub relinked_all : (g : ℕ → ℕ) (rest : ℕ) (ws : List ℕ) → Relinked f i new rest ws → rest ≡ 0 → new ≡ g i → ((a : ℕ) → a < 128 → a ≢ i → g a ≡ f a) → Turned g ws
  relinked_all g rest ws inv e en same a j la lj =
      equal_or a i (λ (d : a ≡ i). rw (d, ← en) (inv.own j lj (λ p. So-not (has-zero j) (rw e at p))))
      (λ d. inv.others a j la lj d ∙ ap (λ (x : ℕ). has x j) (sym (same a la d)))

-- ---- no juniors change

pub linked_same : (ws ws' seniors : List ℕ) → ((i : ℕ) → i < 128 → juniors_in ws' i ≡ juniors_in ws i) → Linked ws seniors → Linked ws' seniors
linked_same ws ws' seniors same l =
    record { size = l.size; turned = λ i j li lj. l.turned i j li lj ∙ ap (λ (x : ℕ). has x j) (sym (same i li)) }

-- ---- the juniors of a building

module _ (ρ : Roles) (R : ℕ) (few : candidate_count ρ ≤ 128) (b : R < 2 ^ candidate_count ρ) (ws : List ℕ)
    (held : (i : ℕ) → i < 128 → juniors_in ws i ≡ immediate_juniors ρ R i) where
  abbrev c : ℕ
  c = candidate_count ρ

  none_past : (i : ℕ) → c ≤ i → immediate_juniors ρ R i ≡ 0
  none_past i l = absent_juniors ρ R i (So-not (has_above c R i b l))

  -- an entry tells the immediate seniors
  pub seniors_told : (seniors : List ℕ) → Linked ws seniors → (j i : ℕ) → j < 128 → i < 128 → has (set_at 2 seniors (2 * j)) i ≡ has (immediate_seniors ρ R j) i
  seniors_told seniors l j i lj li =
      let test : ℕ → Bool = λ i. has (immediate_juniors ρ R i) j in
      l.turned i j li lj ∙ ap (λ (z : ℕ). has z j) (held i li)
      ∙ either i c (λ a. sym (has-collect c test i a))
      (λ a. ap (λ (z : ℕ). has z j) (none_past i a) ∙ has-zero j ∙ sym (has_above c (collect c test) i (collect_lt c test) a))

  pub seniors_held : (seniors : List ℕ) (j x : ℕ) → Linked ws seniors → j < 128 → x ≡ set_at 2 seniors (2 * j) → x < 2 ^ 128 → x ≡ immediate_seniors ρ R j
  seniors_held seniors j x l lj ex small =
      same_below 128 x (immediate_seniors ρ R j) small (lt_of_lt_of_le (collect_lt c (λ i. has (immediate_juniors ρ R i) j)) (pow_mono few))
      (λ i li. ap (λ (z : ℕ). has z i) ex ∙ seniors_told seniors l j i lj li)

  -- the columns of the juniors, in a table of zeros
  module _ (size : (i : ℕ) → immediate_juniors ρ R i < 2 ^ candidate_count ρ) where
    pub columns_turned : (before seniors : List ℕ) → ((i : ℕ) → get_or before i 0 ≡ 0)
        → Filled 2 (candidate_count ρ) (λ j. collect (candidate_count ρ) (λ i. has (set_at 2 (take 256 (drop juniors_start ws)) (2 * i)) j)) before seniors
        → Turned (juniors_in ws) seniors
    columns_turned before seniors zero filled i j li lj =
        let test : ℕ → Bool = λ i. has (set_at 2 (take 256 (drop juniors_start ws)) (2 * i)) j in
        either j c
        (λ a.
        ap (λ (x : ℕ). has x i) (filled.0 j a)
        ∙ either i c (λ d. has-collect c test i d ∙ ap (λ (x : ℕ). has x j) (set_at_part 2 juniors_start 256 ws (2 * i) (omega arith)))
        (λ d. has_above c (collect c test) i (collect_lt c test) d ∙ sym (ap (λ (x : ℕ). has x j) (held i li ∙ none_past i d) ∙ has-zero j)))
        (λ a.
        let empty : set_at 2 seniors (2 * j) ≡ 0 =
        set_at_words 2 0 seniors (2 * j) (pow_pos 128) (λ b lb. filled.1 (2 * j + b) (omega arith) ∙ zero (2 * j + b) ∙ sym (word-zero b)) in
        ap (λ (x : ℕ). has x i) empty ∙ has-zero i ∙ sym (ap (λ (x : ℕ). has x j) (held i li) ∙ has_above c (immediate_juniors ρ R i) j (size i) a))

-- another index of the same roles serves as well
pub reindexed : (st : State) (ws : List ℕ) (index index' : Index) (seniors : List ℕ) → Ready st ws index seniors → Indexed (roles_of st) index' → Ready st ws index' seniors
reindexed st ws index index' seniors h ix = record { limits = h.limits; afresh = h.afresh; indexed = ix; linked = h.linked }
