-- What a strike or a restoration may alter: of the roles that it strikes or restores the standing marks and rows, and the rows of their immediate
-- seniors and juniors. These roles are a set s; one role k is the set `single k`.
-- Assumes nothing.
use Rattle.std.specs.Prelude.{◌≡◌, Bool, ◌≢◌, List, ℕ, ◌+◌, ◌*◌, ◌<◌, leb, ltb, get_or}
use Rattle.std.proofs.Math.Bool.{So}
use Rattle.sets.specs.Truth.{◌and◌, ◌or◌, any}
use Rattle.sets.specs.Sets.{has}
use Rattle.model.specs.Lists.{set_at}
use Rattle.model.specs.Hierarchy.{Roles, candidate_count, immediately_senior}
use Rattle.model.specs.Record.{record_length, permissions_start, members_start, juniors_start}

-- word i is one of the w words from place `at` on
unfoldable pub inside : ℕ → ℕ → ℕ → Bool
inside w at i = leb at i and ltb i (at + w)

-- word i is of the row of role r: "A role's row means its last three entries."
unfoldable pub row_word : ℕ → ℕ → Bool
row_word r i = inside 4 (permissions_start + 4 * r) i or inside 2 (members_start + 2 * r) i or inside 2 (juniors_start + 2 * r) i

-- r is one of s, or immediately senior or junior to one of s, among the roles of R
unfoldable pub concerned : Roles → ℕ → ℕ → ℕ → Bool
concerned ρ R s r = has s r or any (candidate_count ρ) (λ k. has s k and (immediately_senior ρ R r k or immediately_senior ρ R k r))

-- R is the standing set "in which it stands: before a strike, after a restoration"
pub record Altered (ρ : Roles) (R s : ℕ) (before after : List ℕ) : Type 0 where
  -- of words 4 and 5 only the bits of s, the standing marks of its roles
  pub marks : (j : ℕ) → (So (has s j) → ⊥) → has (set_at 2 before 4) j ≡ has (set_at 2 after 4) j
  -- of all other words only those of the rows
  pub rows : (i : ℕ) → i < record_length → i ≢ 4 → i ≢ 5
      → ((r : ℕ) → r < candidate_count ρ → So (concerned ρ R s r) → So (row_word r i) → ⊥)
      → get_or before i 0 ≡ get_or after i 0
