-- Words that are zero, asked as a part of the list.
-- Assumes nothing.
use mathlib.Core.Path.{◌≡◌, sym, ◌∙◌, ap}
use mathlib.Core.Logic.{◌↔◌}
use mathlib.Core.List.{List}
use Prim.Native.Nat.{ℕ, ◌+◌, ◌-◌, ◌≤◌, ◌<◌}
use native.Mathlib.Omega.{arith}
use lib.ListN.{length, get_or, take, drop}
use Rattle.tables.specs.Tables.{ZeroFrom}
use Rattle.tables.proofs.Parts.{length-part, get_part}

pub zeros_part : (t : Type 0) (ws : List ℕ) (from to : ℕ) → from ≤ to → to ≤ length ws
    → t ↔ ((k : ℕ) → k < length (take (to - from) (drop from ws)) → get_or (take (to - from) (drop from ws)) k 0 ≡ 0) → t ↔ ZeroFrom ws from to
zeros_part t ws from to l h e = (
  λ y.
      record {
        each = λ i a b.
            let k : from + (i - from) ≡ i = omega arith in
            let q : i - from < to - from = omega arith in
            ap (λ (x : ℕ). get_or ws x 0) (sym k) ∙ sym (get_part ws from to h (i - from) q) ∙ e.0 y (i - from) (rw (length-part ws from to h) q);
      },
  λ z. e.1 (λ k b. let q : k < to - from = rw (length-part ws from to h) at b in get_part ws from to h k q ∙ z.each (from + k) (omega arith) (omega arith)),
)
