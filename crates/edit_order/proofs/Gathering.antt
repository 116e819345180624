-- The strikable roles, found one by one among the standing ones.
-- Assumes nothing.
use mathlib.Core.Path.{◌≡◌, sym, ◌∙◌}
use mathlib.Core.Bool.{Bool, So}
use mathlib.Core.Logic.{◌⊎◌, ⊎_elim}
use mathlib.Core.List.{List}
use Prim.Native.Nat.{ℕ}
use Rattle.sets.specs.Truth.{when◌then◌else◌}
use Rattle.sets.specs.Sets.{has, ◌∪◌, ◌∖◌, single}
use Rattle.sets.proofs.Truth.{by_test, So-not, when-true, when-false, equal_or}
use Rattle.sets.proofs.Members.{same_set, has-zero}
use Rattle.sets.proofs.Order.{∪-iff, ∖-iff, single_iff}
use Rattle.model.specs.Lists.{set_at}
use Rattle.model.specs.Hierarchy.{direct_permissions}
use Rattle.model.specs.Coverage.{strikable, strikables}
use Rattle.model.specs.Record.{built, Limits}
use Rattle.model.specs.State.{State, roles_of}
use Rattle.model.proofs.Reading.{permission_iff, strikable_stands, strikables_iff}
use Rattle.model.proofs.Building.{stands_below}
use Rattle.model.proofs.Steps.{limits_ordered}
use Rattle.indexes.specs.declared.index.Index.{Index}
use Rattle.indexes.specs.Index.{HoldersFor, AllHolders, Indexed}
use Rattle.edit_rows.proofs.Changing.{standing_read}

-- what is found of them, and where the others are
pub record Gathered (st : State) (found rest : ℕ) : Type 0 where
  pub right : (k : ℕ) → So (has found k) → So (has (strikables (roles_of st) st.standing) k)
  pub whole : (k : ℕ) → So (has (strikables (roles_of st) st.standing) k) → So (has found k) ⊎ So (has rest k)
  pub standing : (k : ℕ) → So (has rest k) → So (has st.standing k)

-- the record is that of the state, and the index that of its roles
pub record StateHeld (st : State) (ws : List ℕ) (index : Index) : Type 0 where
  pub limits : Limits st
  pub record_built : ws ≡ built st
  pub indexed : Indexed (roles_of st) index
  pub holding : AllHolders (roles_of st) index

abbrev pub Gathering : List ℕ → Index → ℕ → ℕ → Type 0
Gathering ws index found rest = (st : State) → StateHeld st ws index → Gathered st found rest

pub gathering_start : (ws : List ℕ) (index : Index) (found rest : ℕ) → found ≡ 0 → rest ≡ set_at 2 ws 4 → Gathering ws index found rest
gathering_start ws index found rest ef er st told =
    let e : rest ≡ st.standing = er ∙ standing_read st told.limits ws told.record_built in
    let ρ = roles_of st in
    record {
      right = λ k t. absurd (So-not (has-zero k) (rw ef at t));
      whole = λ k t. ◌⊎◌.inr (rw e (strikable_stands ρ st.standing k ((strikables_iff ρ st.standing k).0 t).1));
      standing = λ k t. rw e at t;
    }

-- the holders of all permissions are those of a role's direct permissions
direct_held : (st : State) (index : Index) (k : ℕ) → AllHolders (roles_of st) index → HoldersFor (roles_of st) (direct_permissions (roles_of st) st.standing k) index
direct_held st index k h p t = h p ((permission_iff (roles_of st) st.standing k p).0 t).0

pub gathering_more : (ws : List ℕ) (index : Index) (found rest k : ℕ) (t : Bool) (found' rest' : ℕ) → Gathering ws index found rest → So (has rest k)
    → ((st : State) → Limits st → ws ≡ built st → Indexed (roles_of st) index → HoldersFor (roles_of st) (direct_permissions (roles_of st) st.standing k) index
    → So (has st.standing k) → t ≡ strikable (roles_of st) st.standing k)
    → found' ≡ (when t then found ∪ single k else found) → rest' ≡ rest ∖ single k → Gathering ws index found' rest'
gathering_more ws index found rest k t found' rest' inv there tells ef er st told =
    let v = inv st told in
    let ρ = roles_of st in
    let R = st.standing in
    let stands = v.standing k there in
    let lk = stands_below ρ R (limits_ordered st told.limits) k stands in
    let e : t ≡ strikable ρ R k = tells st told.limits told.record_built told.indexed (direct_held st index k told.holding) stands in
    let on : (j : ℕ) → So (has rest' j) → So (has R j) = λ j x. v.standing j ((∖-iff rest (single k) j).0 (rw er at x)).0 in
    by_test t
    (λ y.
    let f : found' ≡ found ∪ single k = ef ∙ when-true t (found ∪ single k) found y in
    record {
      right = λ j x.
          ⊎_elim (λ z. v.right j z) (λ z. let d : k ≡ j = (single_iff k j).0 z in rw d at ((strikables_iff ρ R k).1 (lk, sym e ∙ y)))
          ((∪-iff found (single k) j).0 (rw f at x));
      whole = λ j x.
          equal_or k j (λ (d : k ≡ j). ◌⊎◌.inl (rw f ((∪-iff found (single k) j).1 (◌⊎◌.inr ((single_iff k j).1 d)))))
          (λ d.
          ⊎_elim (λ z. ◌⊎◌.inl (rw f ((∪-iff found (single k) j).1 (◌⊎◌.inl z))))
          (λ z. ◌⊎◌.inr (rw er ((∖-iff rest (single k) j).1 (z, λ q. d ((single_iff k j).0 q))))) (v.whole j x));
      standing = on;
    })
    (λ y.
    let f : found' ≡ found = ef ∙ when-false t (found ∪ single k) found y in
    record {
      right = λ j x. v.right j (rw f at x);
      whole = λ j x.
          ⊎_elim (λ z. ◌⊎◌.inl (rw f z))
          (λ z.
          ◌⊎◌.inr
          (rw er
          ((∖-iff rest (single k) j).1 (
            z,
            λ q.
                let d : k ≡ j = (single_iff k j).0 q in
                let x' : So (has (strikables ρ R) k) = rw (sym d) at x in
                So-not (sym e ∙ y) ((strikables_iff ρ R k).0 x').1,
          )))) (v.whole j x);
      standing = on;
    })

pub gathering_all : (ws : List ℕ) (index : Index) (found rest : ℕ) → Gathering ws index found rest → rest ≡ 0
    → (st : State) → Limits st → ws ≡ built st → Indexed (roles_of st) index → AllHolders (roles_of st) index → found ≡ strikables (roles_of st) st.standing
gathering_all ws index found rest inv e st lim eb ix held =
    let v = inv st (record { limits = lim; record_built = eb; indexed = ix; holding = held }) in
    same_set found (strikables (roles_of st) st.standing) v.right
    (λ k t. ⊎_elim (λ x. x) (λ x. absurd (So-not (has-zero k) (rw e at x))) (v.whole k t))
