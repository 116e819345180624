-- The walk down the ranks to the first that has a role to do.
-- Assumes nothing.
use mathlib.Core.Path.{◌≡◌, sym, ◌∙◌, ap}
use mathlib.Core.Bool.{So}
use mathlib.Core.Logic.{⊎_elim}
use mathlib.Core.List.{List}
use Prim.Native.Nat.{ℕ, ◌+◌, ◌-◌, ◌≤◌, ◌<◌}
use native.Mathlib.Nat.{le_refl, lt_irrefl}
use native.Mathlib.Omega.{arith}
use lib.ListN.{get_or}
use Rattle.sets.specs.Sets.{has, ◌∩◌}
use Rattle.sets.proofs.Truth.{So-not, equal_or}
use Rattle.sets.proofs.Members.{has-zero}
use Rattle.sets.proofs.Order.{∩-iff}
use Rattle.model.proofs.PassOrder.{before_iff, foremost_only}
use Rattle.sets.specs.Extremes.{LowestItem}
use Rattle.edit_order.specs.Ranking.{Keyed, NextRole}

-- no role to do has a key from `rank` on
pub record Sinking (ranks : List ℕ) (todo top rank : ℕ) : Type 0 where
  pub low : rank ≤ top + 1
  pub bound : (key : ℕ → ℕ) → Keyed top ranks todo key → (k : ℕ) → So (has todo k) → key k < rank

pub sinking_start : (ranks : List ℕ) (todo top : ℕ) → Sinking ranks todo top (top + 1)
sinking_start ranks todo top = record { low = le_refl (top + 1); bound = λ key h k t. let l = (h k t).0 in omega arith }

module _ (ranks : List ℕ) (todo top rank : ℕ) (inv : Sinking ranks todo top rank) where
  -- none has a key above the rank before
  lowered : (key : ℕ → ℕ) → Keyed top ranks todo key → Keyed (rank - 1) ranks todo key
  lowered key h k t = let l = inv.bound key h k t in let s = inv.low in (omega arith, λ q b. (h k t).1 q (omega arith))

  -- `front` are the roles of that rank
  module _ (x front : ℕ) (some : 0 < rank) (ex : x ≡ get_or ranks (rank - 1) 0) (ef : front ≡ x ∩ todo) where
    here : front ≡ get_or ranks (rank - 1) 0 ∩ todo
    here = ef ∙ ap (λ (y : ℕ). y ∩ todo) ex

    -- a role whose key it is is in front
    in_front : (key : ℕ → ℕ) → Keyed top ranks todo key → (k : ℕ) → So (has todo k) → rank - 1 ≡ key k → So (has front k)
    in_front key h k t e =
        let s = inv.low in
        rw here ((∩-iff (get_or ranks (rank - 1) 0) todo k).1 (((h k t).1 (rank - 1) (omega arith)).1 e, t))

    pub sinking_more : front ≡ 0 → Sinking ranks todo top (rank - 1)
    sinking_more none =
        let s = inv.low in
        record {
          low = omega arith;
          bound = λ key h k t.
              let l = inv.bound key h k t in
              equal_or (rank - 1) (key k) (λ e. absurd (So-not (has-zero k) (rw none at (in_front key h k t e))))
              (λ d. let z : key k < rank - 1 = omega arith in z);
        }

    pub sinking_found : (role : ℕ) → LowestItem 128 front role → NextRole ranks todo top role (rank - 1)
    sinking_found role low =
        let a = (∩-iff (get_or ranks (rank - 1) 0) todo role).0 (rw here at low.there) in
        let s = inv.low in
        record {
          small = low.small;
          there = a.1;
          low = omega arith;
          first = λ c key b h.
              let l = inv.low in
              let e : rank - 1 ≡ key role = ((h role a.1).1 (rank - 1) (omega arith)).0 a.0 in
              sym
              (foremost_only key c todo b role a.1
              (λ j t x.
              let l = inv.bound key h j t in
              ⊎_elim (λ (y : key role < key j). lt_irrefl rank (omega arith))
              (λ y.
              let same = y.0 in
              let less = y.1 in
              let first = low.least j (in_front key h j t (let z : rank - 1 ≡ key j = omega arith in z)) in
              lt_irrefl j (omega arith))
              ((before_iff key j role).0 x)));
          keyed = lowered;
        }

-- below all ranks: then no role has a key, which none is that is to do
pub sinking_out : (ranks : List ℕ) (todo top rank role : ℕ) → Sinking ranks todo top rank → rank ≡ 0 → LowestItem 128 todo role → NextRole ranks todo top role 0
sinking_out ranks todo top rank role inv e low =
    record {
      small = low.small;
      there = low.there;
      low = omega arith;
      first = λ c key b h. absurd (let l = inv.bound key h role low.there in let z : ⊥ = omega arith in z);
      keyed = λ key h k t. absurd (let l = inv.bound key h k t in let z : ⊥ = omega arith in z);
    }
