-- The least of several numbers, as far down as it matters; and roles by their keys.
-- Assumes nothing.
use Rattle.std.specs.Prelude.{◌≡◌, ◌↔◌, List, ℕ, ◌^◌, ◌≤◌, ◌<◌, get_or, map, Option, Some, None}
use Rattle.std.proofs.Math.Bool.{So}
use Rattle.sets.specs.Sets.{has}
use Rattle.sets.specs.Held.{set_of}
use Rattle.sets.specs.declared.set.Set.{Set}
use Rattle.model.specs.Machine.{foremost}
use Rattle.edit_order.specs.declared.front.Front.{Front}

-- m is no more than b, and no less than the least of b and of f at the items of s; above `floor` it is that least. A search for the least may
-- stop at a number that is no more than `floor`.
pub record LeastTo (floor m b s : ℕ) (f : ℕ → ℕ) : Type 0 where
  pub bound : m ≤ b
  pub above : (x : ℕ) → x ≤ b → ((i : ℕ) → So (has s i) → x ≤ f i) → x ≤ m
  pub least : floor < m → (i : ℕ) → So (has s i) → m ≤ f i

-- the sets of roles at the ranks
unfoldable pub sets_of : List (Set 2) → List ℕ
sets_of ranks = map set_of ranks

-- the roles of s by their keys, none above `top`: of them, entry q of the list has those whose key is q, for each q up to `top`
abbrev pub Keyed : ℕ → List ℕ → ℕ → (ℕ → ℕ) → Type 0
Keyed top ranks s key = (k : ℕ) → So (has s k) → (key k ≤ top) × ((q : ℕ) → q ≤ top → So (has (get_or ranks q 0) k) ↔ (q ≡ key k))

-- of the roles to do, the one that a pass takes up next, and its key: it is the foremost where none has a key above `top`, and then none has a
-- key above its own
pub record NextRole (ranks : List ℕ) (todo top role rank : ℕ) : Type 0 where
  pub small : role < 128
  pub there : So (has todo role)
  pub low : rank ≤ top
  pub first : (c : ℕ) (key : ℕ → ℕ) → todo < 2 ^ c → Keyed top ranks todo key → role ≡ foremost c key todo
  pub keyed : (key : ℕ → ℕ) → Keyed top ranks todo key → Keyed rank ranks todo key

-- what a pass takes up next: nothing where nothing is to do
abbrev pub Next : List ℕ → ℕ → ℕ → Option Front → Type 0
Next ranks todo top None = todo ≡ 0
Next ranks todo top (Some front) = NextRole ranks todo top front.role front.rank
