-- A table filled item by item.
-- Assumes nothing.
use mathlib.Core.Path.{◌≡◌, refl, ◌∙◌}
use mathlib.Core.Bool.{So, false}
use mathlib.Core.List.{List}
use Prim.Native.Nat.{ℕ, ◌+◌, ◌*◌, ◌/◌, ◌^◌, ◌≤◌, ◌<◌}
use native.Mathlib.Omega.{arith}
use lib.Dec.{ltb}
use lib.ListN.{length, get_or}
use Rattle.sets.specs.Sets.{has, collect, ◌∖◌, single}
use Rattle.sets.proofs.Truth.{So-not, not-So, either}
use Rattle.sets.proofs.Members.{has-zero}
use Rattle.sets.proofs.Order.{∖-iff, first_iff}
use Rattle.stores.specs.Stores.{put_at}
use Rattle.stores.proofs.Stores.{length-put_at, put_at-below, put_at_above}
use Rattle.tables.specs.Stores.{words_of}
use Rattle.tables.specs.Tables.{Filled}
use Rattle.tables.proofs.Stores.{length-words_of}
use Rattle.tables.proofs.Tables.{HeldBut, held_start, held_more}
use Rattle.columns.specs.Filling.{FilledFor}

-- the entries of the items of s that are not in rest, and otherwise the list before
pub record Filling (s rest : ℕ) (f : ℕ → ℕ) (before ws : List ℕ) : Type 0 where
  pub long : length ws ≡ length before
  pub within : (p : ℕ) → So (has rest p) → So (has s p)
  pub held : HeldBut s rest f ws
  pub same : (i : ℕ) → has s (i / 2) ≡ false → get_or ws i 0 ≡ get_or before i 0

pub filling_none : (s : ℕ) (f : ℕ → ℕ) (ws : List ℕ) → Filling s s f ws ws
filling_none s f ws = record { long = refl; within = λ p h. h; held = held_start s f ws; same = λ i e. refl }

pub filling_more : (s rest p x : ℕ) (f : ℕ → ℕ) (before ws : List ℕ) → Filling s rest f before ws → So (has rest p) → 2 * p + 2 ≤ length before → x < 2 ^ 128 → x ≡ f p
    → Filling s (rest ∖ single p) f before (put_at ws (2 * p) (words_of 2 x))
filling_more s rest p x f before ws inv there room small e =
    record {
      long = length-put_at ws (2 * p) (words_of 2 x) ∙ inv.long;
      within = λ q h. inv.within q ((∖-iff rest (single p) q).0 h).0;
      held = held_more s rest p x f ws inv.held (omega (arith, inv.long)) small e;
      same = λ i no.
          either i (2 * p) (λ l. put_at-below ws (2 * p) (words_of 2 x) i l ∙ inv.same i no)
          (λ l.
          either i (2 * p + 2)
          (λ b. let q : i / 2 ≡ p = omega arith in absurd (So-not no (rw q (inv.within p there))))
          (λ b. put_at_above ws (2 * p) (words_of 2 x) i (rw (length-words_of 2 x) b) ∙ inv.same i no));
    }

-- once none is left to do, each has its entry
pub filled_for : (s rest : ℕ) (f : ℕ → ℕ) (before ws : List ℕ) → Filling s rest f before ws → rest ≡ 0 → FilledFor s f before ws
filled_for s rest f before ws inv e = (λ p h. inv.held p h (λ t. So-not (has-zero p) (rw e at t)), inv.same)

-- the first c of at most 256 items: all entries below c
pub filled_first : (s c : ℕ) (f : ℕ → ℕ) (before ws : List ℕ) → s ≡ collect 256 (λ i. ltb i c) → c ≤ 256 → FilledFor s f before ws → Filled 2 c f before ws
filled_first s c f before ws e l inv = (
  λ k b. inv.0 k (rw e ((first_iff 256 c k l).1 b)),
  λ i b. inv.1 i (rw e (not-So (has (collect 256 (λ i. ltb i c)) (i / 2)) (λ t. let d : i / 2 < c = (first_iff 256 c (i / 2) l).0 t in omega arith))),
)
