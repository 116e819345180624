-- Of all words of the record built afresh, a strike or a restoration alters only those that the paper allows.
-- Assumes nothing.
use mathlib.Core.Path.{◌≡◌, refl, sym, ◌∙◌, ap}
use mathlib.Core.Bool.{Bool, So}
use mathlib.Core.Logic.{◌↔◌, ◌≢◌, ◌⊎◌, ⊎_elim}
use mathlib.Core.List.{List}
use Prim.Native.Nat.{ℕ, zero, suc, ◌+◌, ◌-◌, ◌*◌, ◌≤◌, ◌<◌}
use native.Mathlib.Nat.{lt_irrefl}
use native.Mathlib.Omega.{arith}
use Rattle.sets.specs.Truth.{◌and◌, ◌or◌, any}
use Rattle.sets.specs.Sets.{has, ◌∖◌}
use Rattle.sets.specs.Words.{word}
use Rattle.sets.proofs.Truth.{same_test, and_iff, or_iff, any_iff, either, reflect}
use Rattle.sets.proofs.Order.{∖-iff, ∖-lt}
use Rattle.model.specs.Hierarchy.{Roles, candidate_count, immediately_senior, immediate_juniors, direct_permissions, direct_members}
use Rattle.model.specs.State.{State, roles_of, standing_now}
use Rattle.model.specs.Record.{record_length, permissions_start, members_start, juniors_start, header_word, word_at, built, Limits}
use Rattle.model.specs.Altered.{inside, row_word, concerned, Altered}
use Rattle.model.proofs.Reading.{Ordered, immediate_iff}
use Rattle.model.proofs.Building.{stands_below, senior_stands, absent_juniors, absent_permissions, absent_members}
use Rattle.model.proofs.Changes.{juniors_left, permissions_left, members_left}
use Rattle.model.proofs.Steps.{limits_ordered, limits_now}
use Rattle.model.proofs.Record.{by_region, word_head, word_crew, word_set, word_permissions, word_members, word_juniors, built_word, read_standing}

inside_iff : (w at i : ℕ) → So (inside w at i) ↔ ((j : ℕ) × (j < w) × (i ≡ at + j))
unfolding inside
inside_iff w at i = (
  λ h. let a : (at ≤ i) × (i < at + w) = simp reflect at h in (i - at, omega arith, omega arith),
  λ x.
      let l = x.1 in
      let e = x.2 in
      let a : at ≤ i = omega arith in
      let b : i < at + w = omega arith in
      simp reflect (a, b),
)

-- "1,032 + 4k: direct permissions, 4 words", "1,544 + 2k: direct members, 2 words", "1,800 + 2k: immediate juniors, 2 words"
pub row_word_iff : (k i : ℕ)
    → So (row_word k i)
    ↔ (((j : ℕ) × (j < 4) × (i ≡ 1032 + 4 * k + j)) ⊎ (((j : ℕ) × (j < 2) × (i ≡ 1544 + 2 * k + j)) ⊎ ((j : ℕ) × (j < 2) × (i ≡ 1800 + 2 * k + j))))
unfolding row_word
row_word_iff k i =
    let a = inside_iff 4 (1032 + 4 * k) i in
    let b = inside_iff 2 (1544 + 2 * k) i in
    let c = inside_iff 2 (1800 + 2 * k) i in
    let x = inside 4 (1032 + 4 * k) i in
    let y = inside 2 (1544 + 2 * k) i in
    let z = inside 2 (1800 + 2 * k) i in (
      λ h. ⊎_elim (λ s. ⊎_elim (λ t. ◌⊎◌.inl (a.0 t)) (λ t. ◌⊎◌.inr (◌⊎◌.inl (b.0 t))) ((or_iff x y).0 s)) (λ t. ◌⊎◌.inr (◌⊎◌.inr (c.0 t))) ((or_iff (x or y) z).0 h),
      λ h.
          (or_iff (x or y) z).1
          (⊎_elim (λ t. ◌⊎◌.inl ((or_iff x y).1 (◌⊎◌.inl (a.1 t)))) (⊎_elim (λ t. ◌⊎◌.inl ((or_iff x y).1 (◌⊎◌.inr (b.1 t)))) (λ t. ◌⊎◌.inr (c.1 t))) h),
    )

row_permissions : (r j : ℕ) → j < 4 → So (row_word r (permissions_start + 4 * r + j))
row_permissions r j h = (row_word_iff r (permissions_start + 4 * r + j)).1 (◌⊎◌.inl (j, h, refl))

row_members : (r j : ℕ) → j < 2 → So (row_word r (members_start + 2 * r + j))
row_members r j h = (row_word_iff r (members_start + 2 * r + j)).1 (◌⊎◌.inr (◌⊎◌.inl (j, h, refl)))

row_juniors : (r j : ℕ) → j < 2 → So (row_word r (juniors_start + 2 * r + j))
row_juniors r j h = (row_word_iff r (juniors_start + 2 * r + j)).1 (◌⊎◌.inr (◌⊎◌.inr (j, h, refl)))

pub concerned_iff : (ρ : Roles) (R s r : ℕ)
    → So (concerned ρ R s r)
    ↔ (So (has s r) ⊎ ((k : ℕ) × (k < candidate_count ρ) × So (has s k) × (So (immediately_senior ρ R r k) ⊎ So (immediately_senior ρ R k r))))
unfolding concerned
concerned_iff ρ R s r =
    let beside : ℕ → Bool = λ k. immediately_senior ρ R r k or immediately_senior ρ R k r in
    let some = any (candidate_count ρ) (λ k. has s k and beside k) in (
      λ h.
          ⊎_elim (λ x. ◌⊎◌.inl x)
          (λ x.
          let w = (any_iff (candidate_count ρ) (λ k. has s k and beside k)).0 x in
          let b = (and_iff (has s w.0) (beside w.0)).0 w.2 in
          ◌⊎◌.inr (w.0, w.1, b.0, (or_iff (immediately_senior ρ R r w.0) (immediately_senior ρ R w.0 r)).0 b.1))
          ((or_iff (has s r) some).0 h),
      λ d.
          (or_iff (has s r) some).1
          (⊎_elim (λ x. ◌⊎◌.inl x)
          (λ w.
          ◌⊎◌.inr
          ((any_iff (candidate_count ρ) (λ k. has s k and beside k)).1
          (w.0, w.1, (and_iff (has s w.0) (beside w.0)).1 (w.2, (or_iff (immediately_senior ρ R r w.0) (immediately_senior ρ R w.0 r)).1 w.3)))) d),
    )

pub same_head : (st : State) (R i : ℕ) → i ≢ 4 → i ≢ 5 → header_word st i ≡ header_word (standing_now st R) i
unfolding header_word standing_now roles_of
same_head st R zero d4 d5 = refl
same_head st R (suc zero) d4 d5 = refl
same_head st R (suc (suc zero)) d4 d5 = refl
same_head st R (suc (suc (suc zero))) d4 d5 = refl
same_head st R (suc (suc (suc (suc zero)))) d4 d5 = absurd (d4 refl)
same_head st R (suc (suc (suc (suc (suc zero))))) d4 d5 = absurd (d5 refl)
same_head st R (suc (suc (suc (suc (suc (suc zero)))))) d4 d5 = refl
same_head st R (suc (suc (suc (suc (suc (suc (suc zero))))))) d4 d5 = refl
same_head st R (suc (suc (suc (suc (suc (suc (suc (suc i)))))))) d4 d5 = refl

-- what a change altered it altered on the way back
pub altered_back : (ρ : Roles) (R s : ℕ) (before after : List ℕ) → Altered ρ R s before after → Altered ρ R s after before
altered_back ρ R s before after a = record { marks = λ j d. sym (a.marks j d); rows = λ i l d4 d5 h. sym (a.rows i l d4 d5 h) }

module _ (st : State) (s : ℕ) (lim : Limits st) where
  abbrev ρ : Roles
  ρ = roles_of st

  abbrev R : ℕ
  R = st.standing

  -- the same crew list without the roles of s
  abbrev less : State
  less = standing_now st (st.standing ∖ s)

  o : Ordered (roles_of st) st.standing
  o = limits_ordered st lim

  -- no role that is concerned has word i in its row
  abbrev Untouched : ℕ → Type 0
  Untouched i = (r : ℕ) → r < candidate_count (roles_of st) → So (concerned (roles_of st) st.standing s r) → So (row_word r i) → ⊥

  -- a row of role r that is not concerned, whatever kind of row it is
  kept_row : (f g : ℕ → ℕ) (r : ℕ)
      → ((So (has s r) → ⊥) → ((t : ℕ) → So (has s t) → So (immediately_senior ρ R r t) → ⊥) → ((t : ℕ) → So (has s t) → So (immediately_senior ρ R t r) → ⊥) → g r ≡ f r)
      → ((So (has R r) → ⊥) → f r ≡ 0) → ((So (has (R ∖ s) r) → ⊥) → g r ≡ 0)
      → (r < candidate_count ρ → So (concerned ρ R s r) → ⊥) → f r ≡ g r
  kept_row f g r same fz gz h =
      let low : (k j : ℕ) → So (immediately_senior ρ R k j) → (k < candidate_count ρ) × (j < candidate_count ρ) =
      λ k j x. let a = senior_stands ρ R o k j ((immediate_iff ρ R k j).0 x).0 in (stands_below ρ R o k a.0, stands_below ρ R o j a.1) in
      either r (candidate_count ρ)
      (λ l.
      sym
      (same (λ x. h l ((concerned_iff ρ R s r).1 (◌⊎◌.inl x)))
      (λ t x y. h l ((concerned_iff ρ R s r).1 (◌⊎◌.inr (t, (low r t y).1, x, ◌⊎◌.inl y))))
      (λ t x y. h l ((concerned_iff ρ R s r).1 (◌⊎◌.inr (t, (low t r y).0, x, ◌⊎◌.inr y))))))
      (λ l.
      let out : So (has R r) → ⊥ = λ x. lt_irrefl r (omega (arith, stands_below ρ R o r x)) in
      fz out ∙ sym (gz (λ x. out ((∖-iff R s r).0 x).0)))

  same_word : (i : ℕ) → i < record_length → i ≢ 4 → i ≢ 5 → Untouched i → word_at st i ≡ word_at less i
  unfolding standing_now roles_of
  same_word =
      let R' = st.standing ∖ s in
      by_region (λ i. i ≢ 4 → i ≢ 5 → Untouched i → word_at st i ≡ word_at less i)
      (λ i l d4 d5 _. word_head st i l ∙ same_head st R' i d4 d5 ∙ sym (word_head less i l))
      (λ u j lu lj _ _ _. word_crew st u j lu lj ∙ sym (word_crew less u j lu lj))
      (λ r j lr lj _ _ _. word_set st r j lr lj ∙ sym (word_set less r j lr lj))
      (λ r j lr lj _ _ h.
      word_permissions st r j lr lj
      ∙ ap (λ (x : ℕ). word x j)
      (kept_row (direct_permissions ρ R) (direct_permissions ρ R') r (λ d below _. permissions_left ρ R o s r d below) (absent_permissions ρ R r)
      (absent_permissions ρ R' r) (λ l c. h r l c (row_permissions r j lj)))
      ∙ sym (word_permissions less r j lr lj))
      (λ r j lr lj _ _ h.
      word_members st r j lr lj
      ∙ ap (λ (x : ℕ). word x j)
      (kept_row (direct_members ρ R) (direct_members ρ R') r (λ d _ above. members_left ρ R o s r d above) (absent_members ρ R r)
      (absent_members ρ R' r) (λ l c. h r l c (row_members r j lj)))
      ∙ sym (word_members less r j lr lj))
      (λ r j lr lj _ _ h.
      word_juniors st r j lr lj
      ∙ ap (λ (x : ℕ). word x j)
      (kept_row (immediate_juniors ρ R) (immediate_juniors ρ R') r (λ d below _. juniors_left ρ R o s r d below) (absent_juniors ρ R r)
      (absent_juniors ρ R' r) (λ l c. h r l c (row_juniors r j lj)))
      ∙ sym (word_juniors less r j lr lj))

  -- a strike, from the record with the roles of s to that without
  pub strike_altered : Altered (roles_of st) st.standing s (built st) (built (standing_now st (st.standing ∖ s)))
  unfolding standing_now
  strike_altered =
      let lim' = limits_now st (R ∖ s) lim (∖-lt (candidate_count ρ) R s lim.standing_below) in
      record {
        marks = λ j d.
            ap (λ (x : ℕ). has x j) (read_standing st lim)
            ∙ same_test (has R j) (has (R ∖ s) j) (λ t. (∖-iff R s j).1 (t, d)) (λ t. ((∖-iff R s j).0 t).0)
            ∙ ap (λ (x : ℕ). has x j) (sym (read_standing less lim'));
        rows = λ i l d4 d5 h. built_word st i l ∙ same_word i l d4 d5 h ∙ sym (built_word less i l);
      }

  -- a restoration, the other way round
  pub restore_altered : Altered (roles_of st) st.standing s (built (standing_now st (st.standing ∖ s))) (built st)
  restore_altered = altered_back ρ R s (built st) (built less) strike_altered
