-- Refusals: what each check looks at, how checks are joined, and for each call which facts give which number, and which let it pass.
-- Assumes nothing.
use mathlib.Core.Path.{◌≡◌, refl, sym, ◌∙◌, ap, subst}
use mathlib.Core.Bool.{Bool, false, So}
use mathlib.Core.Logic.{◌↔◌, ◌≢◌, ◌⊎◌, ⊎_elim}
use mathlib.Core.List.{List, [], ◌∷◌}
use Prim.Native.Nat.{ℕ, zero, suc, ◌*◌, ◌≤◌, ◌<◌}
use native.Mathlib.Nat.{lt_irrefl}
use native.Mathlib.Omega.{arith}
use lib.Dec.{eqb, leb, ltb}
use lib.ListN.{length}
use Rattle.sets.specs.Truth.{◌and◌, isnt}
use Rattle.sets.specs.Sets.{has}
use Rattle.sets.proofs.Truth.{So-not, not-So, by_test, equal_or, isnt_iff, eqb_iff, leb_iff, ltb_iff, reflect}
use Rattle.model.specs.Lists.{rows_at, OneOf}
use Rattle.model.specs.Candidates.{candidates}
use Rattle.model.specs.Hierarchy.{Roles, candidate_count}
use Rattle.model.specs.Coverage.{strikable}
use Rattle.model.specs.Quality.{Weights, Tolerance, weights_allowed, tolerance_allowed}
use Rattle.model.specs.State.{State, most_candidates, roles_of, within_limits, rows_within}
use Rattle.model.specs.Record.{record_length, sound}
use Rattle.model.specs.Refusals.{◌unless◌, ◌or_else◌, length_refusal, soundness_refusal, limits_refusal, crew_size_refusal, crew_rows_refusal, crew_refusal, candidates_refusal, space_refusal, role_refusal, pair_refusal, absent_refusal, standing_refusal, strike_refusal, weights_refusal, tolerance_refusal}
use Rattle.model.specs.Machine.{Call, refusal}
use Rattle.model.specs.Machine.Call.{strike, restore, eliminate, review}
use Rattle.model.specs.Calls.{unfit, mining_refusal}
use Rattle.model.proofs.Record.{sound_iff}

-- ---- or_else and unless

-- the first number decides where it is not 0
pub or_else_first : (a b : ℕ) → a ≢ 0 → a or_else b ≡ a
unfolding ◌or_else◌
or_else_first zero b d = absurd (d refl)
or_else_first (suc a) b d = refl

pub or_else_next : (a b : ℕ) → a ≡ 0 → a or_else b ≡ b
unfolding ◌or_else◌
or_else_next a b e = ap (λ (x : ℕ). x or_else b) e

pub or_else_none : (a : ℕ) → a or_else 0 ≡ a
unfolding ◌or_else◌
or_else_none zero = refl
or_else_none (suc a) = refl

pub or_else_assoc : (a b c : ℕ) → (a or_else b) or_else c ≡ a or_else b or_else c
unfolding ◌or_else◌
or_else_assoc zero b c = refl
or_else_assoc (suc a) b c = refl

pub or_else_iff : (a b : ℕ) → (a or_else b ≡ 0) ↔ ((a ≡ 0) × (b ≡ 0))
unfolding ◌or_else◌
or_else_iff zero b = (λ e. (refl, e), λ f. f.1)
or_else_iff (suc a) b = (λ (e : suc a ≡ 0). let z : ⊥ = omega arith in absurd z, λ f. let e = f.0 in let z : ⊥ = omega arith in absurd z)

unless_held : (n : ℕ) (t : Bool) → So t → n unless t ≡ 0
unfolding ◌unless◌
unless_held n t h = ap (λ (b : Bool). n unless b) h

unless_failed : (n : ℕ) (t : Bool) → t ≡ false → n unless t ≡ n
unfolding ◌unless◌
unless_failed n t f = ap (λ (b : Bool). n unless b) f

-- ---- what a check looks at

-- the part of a refusal is 0 where P holds, and the number n where it does not
pub record Check (part n : ℕ) (P : Type 0) : Type 0 where
  pub some : n ≢ 0
  pub passes : P → part ≡ 0
  pub passed : part ≡ 0 → P
  pub stops : (P → ⊥) → part ≡ n

check : (n : ℕ) (t : Bool) (P : Type 0) → 1 ≤ n → So t ↔ P → Check (n unless t) n P
check n t P l f =
    record {
      some = λ (e : n ≡ 0). let z : ⊥ = omega arith in z;
      passes = λ p. unless_held n t (f.1 p);
      passed = λ e. by_test t f.0 (λ b. let x = sym (unless_failed n t b) ∙ e in let z : ⊥ = omega arith in absurd z);
      stops = λ d. unless_failed n t (not-So t (λ h. d (f.0 h)));
    }

-- a check with others behind it
module _ {a n : ℕ} {P : Type 0} (b : ℕ) (c : Check a n P) where
  pub stops_first : (P → ⊥) → a or_else b ≡ n
  stops_first d = let e = c.stops d in or_else_first a b (λ z. c.some (sym e ∙ z)) ∙ e

  pub goes_on : P → a or_else b ≡ b
  goes_on p = or_else_next a b (c.passes p)

  pub went_on : a or_else b ≡ 0 → P × (b ≡ 0)
  went_on e = let f = (or_else_iff a b).0 e in (c.passed f.0, f.1)

-- two checks with one number are one check of both
pub both : {a b n : ℕ} {P Q : Type 0} → Check a n P → Check b n Q → Check (a or_else b) n (P × Q)
both {a} {b} {n} {P} {Q} c d =
    record {
      some = c.some;
      passes = λ f. goes_on b c f.0 ∙ d.passes f.1;
      passed = λ e. let f = went_on b c e in (f.0, d.passed f.1);
      stops = λ no.
          equal_or a 0 (λ e. or_else_next a b e ∙ d.stops (λ q. no (c.passed e, q)))
          (λ some. stops_first b c (λ p. some (c.passes p)));
    }

-- ---- each check

pub length_check : (ws : List ℕ) → Check (length_refusal ws) 1 (length ws ≡ record_length)
unfolding length_refusal
length_check ws = check 1 (eqb (length ws) record_length) _ (omega arith) (eqb_iff (length ws) record_length)

pub limits_check : (n m : ℕ) → Check (limits_refusal n m) 2 (So (within_limits n m))
unfolding limits_refusal
limits_check n m = check 2 (within_limits n m) _ (omega arith) (λ h. h, λ h. h)

pub crew_size_check : (n : ℕ) (crew : List ℕ) → Check (crew_size_refusal n crew) 3 (length crew ≡ 4 * n)
unfolding crew_size_refusal
crew_size_check n crew = check 3 (eqb (length crew) (4 * n)) _ (omega arith) (eqb_iff (length crew) (4 * n))

pub crew-rows_check : (m : ℕ) (rows : List ℕ) → Check (crew_rows_refusal m rows) 3 (So (rows_within m rows))
unfolding crew_rows_refusal
crew-rows_check m rows = check 3 (rows_within m rows) _ (omega arith) (λ h. h, λ h. h)

pub crew_check : (n m : ℕ) (crew : List ℕ) → Check (crew_refusal n m crew) 3 ((length crew ≡ 4 * n) × So (rows_within m (rows_at n crew 0)))
unfolding crew_refusal
crew_check n m crew = both (crew_size_check n crew) (crew-rows_check m (rows_at n crew 0))

pub candidates_check : (rows : List ℕ) → Check (candidates_refusal rows) 4 (length (candidates rows) ≤ most_candidates)
unfolding candidates_refusal
candidates_check rows = check 4 (leb (length (candidates rows)) most_candidates) _ (omega arith) (leb_iff (length (candidates rows)) most_candidates)

pub soundness_check : (ws : List ℕ) → Check (soundness_refusal ws) 5 (So (sound ws))
unfolding soundness_refusal
soundness_check ws = check 5 (sound ws) _ (omega arith) (λ h. h, λ h. h)

pub space_check : (size : ℕ) (buffer : List ℕ) → Check (space_refusal size buffer) 11 (size ≤ length buffer)
unfolding space_refusal
space_check size buffer = check 11 (leb size (length buffer)) _ (omega arith) (leb_iff size (length buffer))

pub role_check : (ρ : Roles) (k : ℕ) → Check (role_refusal ρ k) 6 (k < candidate_count ρ)
unfolding role_refusal
role_check ρ k = check 6 (ltb k (candidate_count ρ)) _ (omega arith) (ltb_iff k (candidate_count ρ))

pub pair_check : (n m u p : ℕ) → Check (pair_refusal n m u p) 6 ((u < n) × (p < m))
unfolding pair_refusal
pair_check n m u p = check 6 (ltb u n and ltb p m) _ (omega arith) (λ h. simp reflect at h, λ f. simp reflect f)

pub absent_check : (R k : ℕ) → Check (absent_refusal R k) 7 (So (has R k))
unfolding absent_refusal
absent_check R k = check 7 (has R k) _ (omega arith) (λ h. h, λ h. h)

pub standing_check : (R k : ℕ) → Check (standing_refusal R k) 7 (has R k ≡ false)
unfolding standing_refusal
standing_check R k =
    check 7 (isnt (has R k)) _ (omega arith) (λ h. not-So (has R k) ((isnt_iff (has R k)).0 h), λ f. (isnt_iff (has R k)).1 (So-not f))

pub strike_check : (ρ : Roles) (R k : ℕ) → Check (strike_refusal ρ R k) 8 (So (strikable ρ R k))
unfolding strike_refusal
strike_check ρ R k = check 8 (strikable ρ R k) _ (omega arith) (λ h. h, λ h. h)

pub weights_check : (w : Weights) → Check (weights_refusal w) 9 (So (weights_allowed w))
unfolding weights_refusal
weights_check w = check 9 (weights_allowed w) _ (omega arith) (λ h. h, λ h. h)

pub tolerance_check : (t : Tolerance) → Check (tolerance_refusal t) 9 (So (tolerance_allowed t))
unfolding tolerance_refusal
tolerance_check t = check 9 (tolerance_allowed t) _ (omega arith) (λ h. h, λ h. h)

-- ---- the record that a call is lent: 1, 5

module _ (ws : List ℕ) where
  pub unfit_is_1 : length ws ≢ record_length → unfit ws ≡ 1
  unfolding unfit
  unfit_is_1 d = stops_first (soundness_refusal ws) (length_check ws) d

  pub unfit_is_5 : length ws ≡ record_length → sound ws ≡ false → unfit ws ≡ 5
  unfolding unfit
  unfit_is_5 e f = goes_on (soundness_refusal ws) (length_check ws) e ∙ (soundness_check ws).stops (So-not f)

  -- a record that fits is a sound one
  pub unfit_iff : (unfit ws ≡ 0) ↔ So (sound ws)
  unfolding unfit
  unfit_iff = (
    λ e. (soundness_check ws).passed (went_on (soundness_refusal ws) (length_check ws) e).1,
    λ h. goes_on (soundness_refusal ws) (length_check ws) ((sound_iff ws).0 h).0 ∙ (soundness_check ws).passes h,
  )

  -- what is checked behind it
  pub fit_then : (rest : ℕ) → So (sound ws) → unfit ws or_else rest ≡ rest
  fit_then rest h = or_else_next (unfit ws) rest (unfit_iff.1 h)

-- ---- mining: 1, 2, 3, 4

module _ (n m : ℕ) (crew ws : List ℕ) where
  abbrev rows : List ℕ
  rows = rows_at n crew 0

  pub mining_is_1 : length ws ≢ record_length → mining_refusal n m crew ws ≡ 1
  unfolding mining_refusal
  mining_is_1 d = stops_first _ (length_check ws) d

  pub mining_is_2 : length ws ≡ record_length → within_limits n m ≡ false → mining_refusal n m crew ws ≡ 2
  unfolding mining_refusal
  mining_is_2 e f = goes_on _ (length_check ws) e ∙ stops_first _ (limits_check n m) (So-not f)

  pub mining_is_3 : length ws ≡ record_length → So (within_limits n m) → ((length crew ≡ 4 * n) × So (rows_within m rows) → ⊥)
      → mining_refusal n m crew ws ≡ 3
  unfolding mining_refusal
  mining_is_3 e ok d = goes_on _ (length_check ws) e ∙ goes_on _ (limits_check n m) ok ∙ stops_first _ (crew_check n m crew) d

  pub mining_is_4 : length ws ≡ record_length → So (within_limits n m) → (length crew ≡ 4 * n) × So (rows_within m rows)
      → most_candidates < length (candidates rows) → mining_refusal n m crew ws ≡ 4
  unfolding mining_refusal
  mining_is_4 e ok fits l =
      goes_on _ (length_check ws) e ∙ goes_on _ (limits_check n m) ok ∙ goes_on _ (crew_check n m crew) fits
      ∙ (candidates_check rows).stops (λ few. let z : ⊥ = omega arith in z)

  pub mining_iff : (mining_refusal n m crew ws ≡ 0)
      ↔ ((length ws ≡ record_length) × So (within_limits n m) × ((length crew ≡ 4 * n) × So (rows_within m rows)) × (length (candidates rows) ≤ most_candidates))
  unfolding mining_refusal
  mining_iff = (
    λ e.
        let a = went_on _ (length_check ws) e in
        let b = went_on _ (limits_check n m) a.1 in
        let d = went_on _ (crew_check n m crew) b.1 in
        (a.0, b.0, d.0, (candidates_check rows).passed d.1),
    λ f.
        goes_on _ (length_check ws) f.0 ∙ goes_on _ (limits_check n m) f.1 ∙ goes_on _ (crew_check n m crew) f.2
        ∙ (candidates_check rows).passes f.3,
  )

-- ---- the machine's own refusals: 6, 7, 8 for one role, 9 for a run

module _ (st : State) (k : ℕ) where
  pub strike_is_6 : candidate_count (roles_of st) ≤ k → refusal st (strike k) ≡ 6
  unfolding refusal
  strike_is_6 l = stops_first _ (role_check (roles_of st) k) (λ b. lt_irrefl k (omega arith))

  pub strike_is_7 : k < candidate_count (roles_of st) → has st.standing k ≡ false → refusal st (strike k) ≡ 7
  unfolding refusal
  strike_is_7 l f = goes_on _ (role_check (roles_of st) k) l ∙ stops_first _ (absent_check st.standing k) (So-not f)

  pub strike_is_8 : k < candidate_count (roles_of st) → So (has st.standing k) → strikable (roles_of st) st.standing k ≡ false
      → refusal st (strike k) ≡ 8
  unfolding refusal
  strike_is_8 l h f =
      goes_on _ (role_check (roles_of st) k) l ∙ goes_on _ (absent_check st.standing k) h
      ∙ (strike_check (roles_of st) st.standing k).stops (So-not f)

  pub strike_iff : (refusal st (strike k) ≡ 0)
      ↔ ((k < candidate_count (roles_of st)) × So (has st.standing k) × So (strikable (roles_of st) st.standing k))
  unfolding refusal
  strike_iff = (
    λ e.
        let a = went_on _ (role_check (roles_of st) k) e in
        let b = went_on _ (absent_check st.standing k) a.1 in
        (a.0, b.0, (strike_check (roles_of st) st.standing k).passed b.1),
    λ f.
        goes_on _ (role_check (roles_of st) k) f.0 ∙ goes_on _ (absent_check st.standing k) f.1
        ∙ (strike_check (roles_of st) st.standing k).passes f.2,
  )

  pub restore_is_6 : candidate_count (roles_of st) ≤ k → refusal st (restore k) ≡ 6
  unfolding refusal
  restore_is_6 l = stops_first _ (role_check (roles_of st) k) (λ b. lt_irrefl k (omega arith))

  pub restore_is_7 : k < candidate_count (roles_of st) → So (has st.standing k) → refusal st (restore k) ≡ 7
  unfolding refusal
  restore_is_7 l h = goes_on _ (role_check (roles_of st) k) l ∙ (standing_check st.standing k).stops (λ f. So-not f h)

  pub restore_iff : (refusal st (restore k) ≡ 0) ↔ ((k < candidate_count (roles_of st)) × (has st.standing k ≡ false))
  unfolding refusal
  restore_iff = (
    λ e. let a = went_on _ (role_check (roles_of st) k) e in (a.0, (standing_check st.standing k).passed a.1),
    λ f. goes_on _ (role_check (roles_of st) k) f.0 ∙ (standing_check st.standing k).passes f.1,
  )

pub eliminate_check : (st : State) (w : Weights) (t : Tolerance)
    → Check (refusal st (eliminate w t)) 9 (So (weights_allowed w) × So (tolerance_allowed t))
unfolding refusal
eliminate_check st w t = both (weights_check w) (tolerance_check t)

pub review_check : (st : State) (w : Weights) → Check (refusal st (review w)) 9 (So (weights_allowed w))
unfolding refusal
review_check st w = weights_check w

-- ---- the numbers that can come

-- a check finds nothing, or its number
pub check_number : {a n : ℕ} {P : Type 0} → Check a n P → (a ≡ 0) ⊎ (a ≡ n)
check_number {a} {n} c = equal_or a 0 (λ e. ◌⊎◌.inl e) (λ d. ◌⊎◌.inr (c.stops (λ p. d (c.passes p))))

-- the number of a check with others behind it is its own or theirs
pub first_number : {a n : ℕ} {P : Type 0} (b : ℕ) (numbers : List ℕ) → Check a n P → OneOf n numbers → OneOf b numbers → OneOf (a or_else b) numbers
first_number {a} {n} b numbers c first rest =
    equal_or a 0 (λ e. subst (λ (x : ℕ). OneOf x numbers) (sym (or_else_next a b e)) rest)
    (λ d. subst (λ (x : ℕ). OneOf x numbers) (sym (stops_first b c (λ p. d (c.passes p)))) first)

abbrev machine_numbers : List ℕ
machine_numbers = 0 ∷ 6 ∷ 7 ∷ 8 ∷ 9 ∷ []

nine : {x : ℕ} → (x ≡ 0) ⊎ (x ≡ 9) → OneOf x machine_numbers
nine = ⊎_elim (λ e. ◌⊎◌.inl e) (λ e. ◌⊎◌.inr (◌⊎◌.inr (◌⊎◌.inr (◌⊎◌.inr (◌⊎◌.inl e)))))

-- those of the machine
pub refusal_number : (st : State) (call : Call) → OneOf (refusal st call) machine_numbers
unfolding refusal
refusal_number st (strike k) =
    let ρ = roles_of st in
    first_number (absent_refusal st.standing k or_else strike_refusal ρ st.standing k) machine_numbers (role_check ρ k) (◌⊎◌.inr (◌⊎◌.inl refl))
    (first_number (strike_refusal ρ st.standing k) machine_numbers (absent_check st.standing k) (◌⊎◌.inr (◌⊎◌.inr (◌⊎◌.inl refl)))
    (⊎_elim (λ e. ◌⊎◌.inl e) (λ e. ◌⊎◌.inr (◌⊎◌.inr (◌⊎◌.inr (◌⊎◌.inl e)))) (check_number (strike_check ρ st.standing k))))
refusal_number st (restore k) =
    let ρ = roles_of st in
    first_number (standing_refusal st.standing k) machine_numbers (role_check ρ k) (◌⊎◌.inr (◌⊎◌.inl refl))
    (⊎_elim (λ e. ◌⊎◌.inl e) (λ e. ◌⊎◌.inr (◌⊎◌.inr (◌⊎◌.inl e))) (check_number (standing_check st.standing k)))
refusal_number st (eliminate w t) = nine (check_number (eliminate_check st w t))
refusal_number st (review w) = nine (check_number (review_check st w))
