-- A table filled entry by entry.
-- Assumes nothing.
use mathlib.Core.Path.{◌≡◌, refl, sym, ◌∙◌}
use mathlib.Core.Bool.{So}
use mathlib.Core.Logic.{◌≢◌}
use mathlib.Core.List.{List}
use Prim.Native.Nat.{ℕ, ◌+◌, ◌*◌, ◌^◌, ◌≤◌, ◌<◌}
use native.Mathlib.Nat.{not-suc-le-zero, mul-suc, mul-le-mul_left, le_trans}
use native.Mathlib.Numerals.{add-one}
use native.Mathlib.Omega.{arith}
use lib.ListN.{length}
use Rattle.sets.specs.Sets.{has, ◌∖◌, single}
use Rattle.sets.proofs.Truth.{below_suc, either, equal_or}
use Rattle.sets.proofs.Order.{∖-iff, single_iff}
use Rattle.model.specs.Lists.{set_at}
use Rattle.stores.specs.Stores.{put_at}
use Rattle.tables.specs.Stores.{words_of}
use Rattle.tables.specs.Tables.{Filled}
use Rattle.stores.proofs.Stores.{put_at_above}
use Rattle.tables.proofs.Stores.{length-words_of, stored_back, stored_before, stored_after}

pub filled_none : (w : ℕ) (f : ℕ → ℕ) (ws : List ℕ) → Filled w 0 f ws ws
filled_none w f ws = (λ k l. absurd (not-suc-le-zero l), λ i l. refl)

pub filled_more : (w k s : ℕ) (f : ℕ → ℕ) (before ws : List ℕ) → Filled w k f before ws → w * k + w ≤ length ws → s < 2 ^ (64 * w) → s ≡ f k
    → Filled w (k + 1) f before (put_at ws (w * k) (words_of w s))
filled_more w k s f before ws inv room small e =
    let next : w * (k + 1) ≡ w * k + w = rw (add-one k) (mul-suc w k) in (
      λ j l.
          below_suc j k (rw (add-one k) at l) (λ (d : j ≡ k). rw d (stored_back ws (w * k) w s room small ∙ e))
          (λ b.
          let under : w * j + w ≤ w * k = le_trans (le_of_eq' (mul-suc w j)) (mul-le-mul_left w b) in
          stored_before ws (w * k) w s (w * j) w under ∙ inv.0 j b),
      λ i l.
          put_at_above ws (w * k) (words_of w s) i (rw (length-words_of w s) (rw next at l)) ∙ inv.1 i (le_trans (let z = rw next at l in omega arith) (rw next at l)),
    )
  where
    le_of_eq' : {a b : ℕ} → a ≡ b → b ≤ a
    le_of_eq' {a} {b} e = omega arith

-- ---- filled item by item

-- entries for the items of s that are not in rest
abbrev pub HeldBut : ℕ → ℕ → (ℕ → ℕ) → List ℕ → Type 0
HeldBut s rest f ws = (p : ℕ) → So (has s p) → (So (has rest p) → ⊥) → set_at 2 ws (2 * p) ≡ f p

pub held_start : (s : ℕ) (f : ℕ → ℕ) (ws : List ℕ) → HeldBut s s f ws
held_start s f ws p h d = absurd (d h)

-- an entry beside the one that was stored
pub beside : (ws : List ℕ) (p x q : ℕ) → q ≢ p → set_at 2 (put_at ws (2 * p) (words_of 2 x)) (2 * q) ≡ set_at 2 ws (2 * q)
beside ws p x q d = either q p (λ l. stored_before ws (2 * p) 2 x (2 * q) 2 (omega arith)) (λ l. stored_after ws (2 * p) 2 x (2 * q) 2 (omega arith))

pub held_more : (s rest p x : ℕ) (f : ℕ → ℕ) (ws : List ℕ) → HeldBut s rest f ws → 2 * p + 2 ≤ length ws → x < 2 ^ 128 → x ≡ f p
    → HeldBut s (rest ∖ single p) f (put_at ws (2 * p) (words_of 2 x))
held_more s rest p x f ws inv room small e q h d =
    equal_or q p (λ (same : q ≡ p). rw same (stored_back ws (2 * p) 2 x room small ∙ e))
    (λ other. beside ws p x q other ∙ inv q h (λ t. d ((∖-iff rest (single p) q).1 (t, λ y. other (sym ((single_iff p q).0 y))))))
