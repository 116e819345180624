-- Making room in a table for one more set, word by word.
-- Assumes nothing.
use mathlib.Core.Path.{◌≡◌, refl, sym, ◌∙◌, ap, subst}
use mathlib.Core.List.{List, ◌∷◌, ◌++◌}
use Prim.Native.Nat.{ℕ, suc, ◌+◌, ◌-◌, ◌*◌, ◌^◌, ◌≤◌, ◌<◌}
use native.Mathlib.Numerals.{add-one}
use native.Mathlib.Omega.{arith}
use lib.ListN.{length, get_or, set, take, drop, length-set}
use lib.Seq.{get_or-set_same, get_or-set_other}
use Rattle.sets.proofs.Truth.{either, equal_or}
use Rattle.sets.proofs.Words.{Words}
use Rattle.model.specs.Lists.{set_at, rows_at}
use Rattle.model.proofs.Lists.{length-rows_at, set_at_same}
use Rattle.stores.specs.Stores.{put_at}
use Rattle.tables.specs.Stores.{words_of}
use Rattle.stores.proofs.Stores.{put_at_above}
use Rattle.tables.proofs.Stores.{length-words_of, stored_back, stored_before, stored_after, stored_words}
use Rattle.tables.specs.Search.{Inserts}
use Rattle.tables.proofs.Rows.{row_at, rows_are, spliced_length, spliced_before, spliced_at, spliced_after}

-- of the words of the sets from place `at` to place n, those that go to places from i on have been moved up by one set
pub record Moved (t₀ : List ℕ) (n at : ℕ) (t : List ℕ) (i : ℕ) : Type 0 where
  pub from : 4 * at + 4 ≤ i
  pub to : i ≤ 4 * n + 4
  pub size : length t ≡ length t₀
  pub low : (w : ℕ) → w < i → get_or t w 0 ≡ get_or t₀ w 0
  pub high : (w : ℕ) → i ≤ w + 4 → w < 4 * n → get_or t (w + 4) 0 ≡ get_or t₀ w 0
  pub rest : (w : ℕ) → 4 * (n + 1) ≤ w → get_or t w 0 ≡ get_or t₀ w 0
  pub words : Words t₀ → Words t

pub moved_none : (t : List ℕ) (n at : ℕ) → at ≤ n → Moved t n at t (4 * n + 4)
moved_none t n at h =
    record {
      from = omega arith;
      to = omega arith;
      size = refl;
      low = λ w l. refl;
      high = λ w l k. let z : ⊥ = omega arith in absurd z;
      rest = λ w l. refl;
      words = λ f. f;
    }

module _ {t₀ : List ℕ} {n at : ℕ} {t : List ℕ} {i : ℕ} (fits : 4 * (n + 1) ≤ length t₀) (m : Moved t₀ n at t i) where
  pub moved_more : 4 * at + 4 < i → Moved t₀ n at (set t (i - 1) (get_or t (i - 1 - 4) 0)) (i - 1)
  moved_more h =
      let v = get_or t (i - 1 - 4) 0 in
      let away : (w : ℕ) → (w ≡ i - 1 → ⊥) → get_or (set t (i - 1) v) w 0 ≡ get_or t w 0 = λ w d. get_or-set_other t (i - 1) w v 0 d in
      record {
        from = omega arith;
        to = omega (arith, m.to);
        size = length-set t (i - 1) v ∙ m.size;
        low = λ w l. away w (λ e. let z : ⊥ = omega arith in z) ∙ m.low w (omega arith);
        high = λ w l k.
            equal_or (w + 4) (i - 1)
            (λ (e : w + 4 ≡ i - 1).
            let f : i - 1 - 4 ≡ w = omega arith in
            ap (λ (k : ℕ). get_or (set t (i - 1) v) k 0) e ∙ get_or-set_same t (i - 1) v 0 (omega (arith, m.size, m.to)) ∙ ap (λ (k : ℕ). get_or t k 0) f
            ∙ m.low w (omega arith))
            (λ d. away (w + 4) d ∙ m.high w (omega arith) k);
        rest = λ w l. away w (λ e. let z : ⊥ = omega (arith, m.to) in z) ∙ m.rest w l;
        words = λ f w.
            equal_or w (i - 1)
            (λ (e : w ≡ i - 1). rw (e, get_or-set_same t (i - 1) v 0 (omega (arith, m.size, m.to))) (m.words f (i - 1 - 4)))
            (λ d. rw (away w d) (m.words f w));
      }

  module _ (x : ℕ) (b : x < 2 ^ 256) (h : at ≤ n) (last : i ≤ 4 * at + 4) where
    abbrev stored : List ℕ
    stored = put_at t (i - 4) (words_of 4 x)

    first : i - 4 ≡ 4 * at
    first = omega (arith, m.from)

    below : (k : ℕ) → k < at → set_at 4 stored (4 * k) ≡ set_at 4 t₀ (4 * k)
    below k l =
        stored_before t (i - 4) 4 x (4 * k) 4 (omega (arith, first))
        ∙ set_at_same 4 t t₀ (4 * k) (4 * k) (λ j lj. m.low (4 * k + j) (omega (arith, m.from)))

    there : set_at 4 stored (4 * at) ≡ x
    there = rw first (stored_back t (4 * at) 4 x (omega (arith, m.size)) b)

    above : (k : ℕ) → at ≤ k → k < n → set_at 4 stored (4 * suc k) ≡ set_at 4 t₀ (4 * k)
    above k l ln =
        stored_after t (i - 4) 4 x (4 * suc k) 4 (omega (arith, first))
        ∙ set_at_same 4 t t₀ (4 * suc k) (4 * k)
        (λ j lj.
        let e : 4 * suc k + j ≡ 4 * k + j + 4 = omega arith in
        rw e (m.high (4 * k + j) (omega arith) (omega arith)))

    abbrev old : List ℕ
    old = rows_at n t₀ 0

    at_old : at ≤ length old
    at_old = rw (length-rows_at n t₀ 0) h

    each : (k : ℕ) → k < n + 1 → set_at 4 stored (4 * k) ≡ get_or (take at old ++ (x ∷ drop at old)) k 0
    each k l =
        either k at (λ g. below k g ∙ sym (row_at n t₀ k (omega arith)) ∙ sym (spliced_before x old at at_old k g))
        (λ g.
        equal_or k at (λ (e : k ≡ at). rw e (there ∙ sym (spliced_at x old at at_old)))
        (λ d.
        let e : k ≡ suc (k - 1) = omega arith in
        rw e (above (k - 1) (omega arith) (omega arith) ∙ sym (row_at n t₀ (k - 1) (omega arith)) ∙ sym (spliced_after x old at at_old (k - 1) (omega arith)))))

    into : Inserts n at x t₀ (put_at t (i - 4) (words_of 4 x))
    into =
        record {
          rows =
              rows_are (n + 1) stored (take at old ++ (x ∷ drop at old))
              (spliced_length x old at at_old ∙ ap suc (length-rows_at n t₀ 0) ∙ sym (add-one n)) each;
          rest = λ w l. put_at_above t (i - 4) (words_of 4 x) w (rw (length-words_of 4 x) (omega (arith, first))) ∙ m.rest w l;
          words = λ f w. stored_words t (i - 4) 4 x (omega (arith, first, m.size)) (m.words f) w;
        }

    pub inserted : Inserts n at x t₀ (put_at t (4 * at) (words_of 4 x))
    inserted = subst (λ (k : ℕ). Inserts n at x t₀ (put_at t k (words_of 4 x))) first into
