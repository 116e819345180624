-- The roles that hold a permission: columns of the record's sets.
-- Assumes nothing.
use mathlib.Core.Bool.{So}
use mathlib.Core.Path.{◌≡◌, sym, ◌∙◌, ap}
use mathlib.Core.List.{List}
use Prim.Native.Nat.{ℕ, ◌*◌}
use lib.ListN.{get_or, take, drop}
use Rattle.sets.specs.Sets.{has, collect}
use Rattle.sets.proofs.Order.{collect_same}
use Rattle.model.specs.Lists.{set_at}
use Rattle.model.specs.Hierarchy.{Roles, candidate_count, permission_set}
use Rattle.model.specs.Indexes.{roles_of_permission}
use Rattle.model.specs.Record.{sets_start, built, Limits}
use Rattle.model.specs.State.{State, roles_of}
use Rattle.model.proofs.Record.{read_count}
use Rattle.tables.specs.Tables.{HoldsSets}
use Rattle.hierarchy.proofs.Reading.{read_sets}
use Rattle.indexes.proofs.Sources.{narrow}
use Rattle.columns.specs.Filling.{HoldsFor}

-- the sets of a record, as a table
pub sets_read : (st : State) → Limits st → (ws : List ℕ) → ws ≡ built st → HoldsSets 4 (candidate_count (roles_of st)) (permission_set (roles_of st)) (take 512 (drop sets_start ws))
sets_read st lim ws e = rw e (read_sets st lim (narrow st lim))

-- the places of a table of the roles' sets that hold p are the roles that hold p
pub holders_are : (ρ : Roles) (c p : ℕ) (table : List ℕ) → candidate_count ρ ≡ c → HoldsSets 4 (candidate_count ρ) (permission_set ρ) table
    → collect c (λ k. has (set_at 4 table (4 * k)) p) ≡ roles_of_permission ρ p
unfolding roles_of_permission
holders_are ρ c p table e h =
    rw (sym e) (collect_same (candidate_count ρ) (λ k. has (set_at 4 table (4 * k)) p) (λ k. has (permission_set ρ k) p) (λ k l. ap (λ (x : ℕ). has x p) (h k l)))

-- what was filled is read as the holders of these roles
pub holders_read : (st : State) (ws : List ℕ) (ps : ℕ) (part : List ℕ) → Limits st → ws ≡ built st
    → HoldsFor ps (λ p. collect (get_or ws 2 0) (λ k. has (set_at 4 (take 512 (drop sets_start ws)) (4 * k)) p)) part → (p : ℕ) → So (has ps p) → set_at 2 part (2 * p) ≡ roles_of_permission (roles_of st) p
holders_read st ws ps part lim e held p h =
    let count : candidate_count (roles_of st) ≡ get_or ws 2 0 = sym (ap (λ (l : List ℕ). get_or l 2 0) e ∙ read_count st lim) in
    held p h ∙ holders_are (roles_of st) (get_or ws 2 0) p (take 512 (drop sets_start ws)) count (sets_read st lim ws e)
