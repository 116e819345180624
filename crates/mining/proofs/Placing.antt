-- A set put at its place in a table.
-- Assumes nothing.
use mathlib.Core.Path.{◌≡◌, refl, sym, ◌∙◌, ap}
use mathlib.Core.List.{List, []}
use Prim.Native.Nat.{ℕ, suc, ◌+◌, ◌*◌, ◌≤◌, ◌<◌}
use native.Mathlib.Omega.{arith}
use lib.ListN.{length, get_or, replicate}
use Rattle.sets.specs.Held.{set_of}
use Rattle.sets.specs.declared.set.Set.{Set}
use Rattle.stores.proofs.Stores.{blank}
use Rattle.model.specs.Candidates.{place, Listed}
use Rattle.model.specs.Lists.{tabulate, set_at, rows_at}
use Rattle.model.proofs.Lists.{length-rows_at}
use Rattle.model.proofs.Growing.{growing_none, placed, placed_length, place_old, place_growing}
use Rattle.tables.specs.Search.{Between, Inserts}
use Rattle.tables.proofs.Rows.{row_at}
use Rattle.mining.specs.Mining.{Gathered, sets_of}
use Rattle.mining.proofs.Seeing.{seen_among, seen_none}

pub found_listed : (xs : List ℕ) (i : ℕ) {x : ℕ} → (i < length xs) × (get_or xs i 0 ≡ x) → Listed xs x
found_listed xs i h = record { place = i; below = h.0; there = h.1 }

-- the set at a place is read from the table
pub set_read : (n : ℕ) (t : List ℕ) {xs : List ℕ} {i x : ℕ} → rows_at n t 0 ≡ xs → i < n → x ≡ set_at 4 t (4 * i) → (i < length xs) × (get_or xs i 0 ≡ x)
set_read n t e l h = rw (← e) (rw (length-rows_at n t 0) l, row_at n t _ l ∙ sym h)

module _ (n : ℕ) (t : List ℕ) {xs : List ℕ} {x i : ℕ} (e : rows_at n t 0 ≡ xs) (b : Between (length xs) xs x i) where
  many : n ≡ length xs
  many = sym (length-rows_at n t 0) ∙ ap length e

  pub place_inside : i ≤ n
  place_inside = rw many b.within

  new_length : length (place x xs) ≡ suc (length xs)
  new_length = placed_length x xs i b.within b.before b.after

  pub new_full : n ≡ 128 → 128 < length (place x xs)
  new_full f = rw new_length (omega (arith, many))

  module _ {t' : List ℕ} (h : Inserts n i x t t') where
    pub new_sets : rows_at (n + 1) t' 0 ≡ place x xs
    new_sets = h.rows ∙ rw e (sym (placed x xs i b.within b.before b.after))

    pub new_gathered : {slots : List ℕ} → Gathered t n slots → (n ≡ 128 → ⊥) → Gathered t' (n + 1) slots
    new_gathered g d =
        record {
          few = omega (arith, g.few);
          words = h.words g.words;
          rest = λ w l. h.rest w l ∙ g.rest w (omega arith);
          grows = rw new_sets (place_growing x xs (rw e at g.grows));
          seen = rw new_sets (seen_among (rw e at g.seen) (place_old x xs));
        }

-- no sets
pub sets_none : (t : List ℕ) → rows_at 0 t 0 ≡ []
unfolding rows_at tabulate
sets_none t = refl

pub gathered_none : (none : Set 4) → set_of none ≡ 0 → Gathered (replicate 512 0) 0 (sets_of (replicate 128 none))
gathered_none none e =
    record {
      few = omega arith;
      words = λ i. rw (blank 512 i) (omega arith);
      rest = λ i l. blank 512 i;
      grows = rw sets_none growing_none;
      seen = seen_none none _ e;
    }
