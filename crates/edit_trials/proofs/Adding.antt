-- The sum of what a closure gives for each item of a set.
-- Assumes nothing.
use mathlib.Core.Path.{◌≡◌, sym, ◌∙◌, ap, subst}
use mathlib.Core.List.{List, [], ◌∷◌}
use Prim.Native.Nat.{ℕ, ◌+◌, ◌*◌, ◌^◌, ◌≤◌, ◌<◌}
use native.Mathlib.Nat.{le_trans, mul-le-mul_left}
use native.Mathlib.Omega.{arith}
use denote.Param.Members.{Mut}
use lib.Count.{ones, ones-le}
use lib.Dec.{eqb}
use lib.ListN.{length}
use Rattle.std.specs.Bool.{⊤}
use Rattle.std.specs.Fn.{Called}
use Rattle.std.specs.Iterator.{Yields, Drains}
use Rattle.std.specs.Iterator.Adapters.{map_source, map_callee, map_steps}
use Rattle.std.specs.Iterator.Runs.{EachRunFrom}
use Rattle.std.specs.Prelude.{Option, fold}
use Rattle.std.specs.declared.iter.Map.{Map}
use Rattle.std.proofs.lemmas.Iterator.Adapters.{fits_from_length}
use Rattle.sets.specs.Held.{set_of}
use Rattle.sets.specs.Walks.{NextItem}
use Rattle.sets.specs.declared.items.Items.{Items}
use Rattle.sets.specs.Sets.{◌∩◌}
use Rattle.sets.specs.Truth.{when◌then◌else◌}
use Rattle.sets.proofs.Counts.{ones-zero, ones_without}
use Rattle.sets.proofs.Members.{has-zero, empty_of}
use Rattle.sets.proofs.Order.{∩-lt, collect_lt}
use Rattle.sets.proofs.Truth.{by_test, So-not, eqb_iff, when-true, when-false}
use Rattle.hierarchy.specs.Tables.{less_all}
use Rattle.hierarchy.proofs.Sieving.{less_all_iff}
use Rattle.model.specs.Lists.{set_at}
use Rattle.edit_trials.specs.Trying.{over, shared, taken_over}
use Rattle.edit_trials.proofs.Sums.{over_none, over_more, over_same, over_zero, over_most}

abbrev next_item : Items 2 → Option ℕ → Items 2 → Type 0
next_item s r t = NextItem (64 * 2) (set_of s.rest) r (set_of t.rest)

-- a run takes no more items than there are
steps_few : (xs : List ℕ) (s t : Items 2) → Yields next_item s xs t → length xs ≤ ones (set_of s.rest)
steps_few [] s t y = omega arith
steps_few (x ∷ xs) s t y =
    let r = steps_few xs y.0 t y.2 in
    let o = ones_without (set_of s.rest) x y.1.0.there in
    let e = ap ones y.1.1 in
    omega arith

module _ {F : Type 0} (g : Mut F (ℕ × Unit {0}) ℕ) (f : F) (h : ℕ → ℕ) (counts : (i r : ℕ) (q : F) → Called g f (i, tt) r q → (q ≡ f) × (r ≡ h i)) where
  after : (xs : List ℕ) (a : ℕ) (s t : Map (Items 2) F) → map_callee s ≡ f → Yields (map_steps next_item g) s xs t
      → fold (λ b x. b + x) a xs + over 128 (set_of (map_source t).rest) h ≡ a + over 128 (set_of (map_source s).rest) h
  after [] a s t e y = ap (λ (u : Map (Items 2) F). a + over 128 (set_of (map_source u).rest) h) (sym y)
  after (r ∷ xs) a s t e y =
      let i = y.1.0 in
      let took = y.1.1 in
      let c = counts i r (map_callee y.0) (subst (λ k. Called g k (i, tt) r (map_callee y.0)) e y.1.2) in
      let n = after xs (a + r) y.0 t c.0 y.2 in
      let m = over_more 128 (set_of (map_source s).rest) i h took.0.small took.0.there in
      let l = ap (λ (x : ℕ). over 128 x h) took.1 in
      let d = c.1 in
      omega arith

  module _ (s : Map (Items 2) F) (whole : ℕ) (source : set_of (map_source s).rest ≡ whole) (callee : map_callee s ≡ f) where
    pub items_summed : (r : ℕ) → ((xs : List ℕ) × (⊤ → Drains (map_steps next_item g) s xs) × (r ≡ fold (λ a x. a + x) 0 xs)) → r ≡ over 128 whole h
    items_summed r ran =
        let d = ran.1 tt in
        let a = after ran.0 0 s d.1.0 callee d.1.1 in
        let z = over_none 128 (set_of (map_source d.1.0).rest) h d.1.2.0.0 in
        let e = ap (λ (x : ℕ). over 128 x h) source in
        let v = ran.2 in
        omega arith

    -- it can be formed, where no item gives much
    pub items_fit : whole < 2 ^ 128 → ((i : ℕ) → h i ≤ 256) → EachRunFrom (map_steps next_item g) s (λ p. fold (λ a x. a + x) 0 p.items < 2 ^ 64)
    items_fit small most =
        fits_from_length {steps = next_item} {s = s} g f 128 (2 ^ 64)
        (record {
          runs = λ xs t y. let l = steps_few xs (map_source s) t y in let o = ones-le 128 whole small in let e = ap ones source in omega arith;
        })
        callee (omega arith) (λ i r q k. let c = counts i r q k in (c.0, let m = most i in let e = c.1 in omega arith))

-- what the rows of the items share with a set of m items
module _ (m w start : ℕ) (ws : List ℕ) (own : ℕ) {F : Type 0} {g : Mut F (ℕ × Unit {0}) ℕ} {f : F} (s : Map (Items 2) F) (whole : ℕ) (source : set_of (map_source s).rest ≡ whole)
    (callee : map_callee s ≡ f) (counts : (i r : ℕ) (q : F) → Called g f (i, tt) r q → (q ≡ f) × (r ≡ ones (set_at w ws (start + w * i) ∩ own))) where
  pub shared_fits : whole < 2 ^ 128 → own < 2 ^ m → m ≤ 256 → EachRunFrom (map_steps next_item g) s (λ p. fold (λ a x. a + x) 0 p.items < 2 ^ 64)
  shared_fits small b l =
      items_fit g f (λ i. ones (set_at w ws (start + w * i) ∩ own)) counts s whole source callee small
      (λ i. le_trans (ones-le m (set_at w ws (start + w * i) ∩ own) (∩-lt m (set_at w ws (start + w * i)) own b)) l)

  pub shared_summed : (r : ℕ) → ((xs : List ℕ) × (⊤ → Drains (map_steps next_item g) s xs) × (r ≡ fold (λ a x. a + x) 0 xs)) → r ≡ shared w ws start own whole
  unfolding shared
  shared_summed = items_summed g f (λ i. ones (set_at w ws (start + w * i) ∩ own)) counts s whole source callee

each_few : (w : ℕ) (table : List ℕ) (own : ℕ) (others : ℕ → ℕ) (i : ℕ) → ones (less_all w table own (others i)) ≤ 64 * w
unfolding less_all
each_few w table own others i = ones-le (64 * w) (less_all w table own (others i)) (collect_lt (64 * w) _)

-- what the neighbours s, if there is something of `own`, take over of it: each what none of its other neighbours has in the table
module _ (w : ℕ) (table : List ℕ) (own : ℕ) (others : ℕ → ℕ) {F : Type 0} {g : Mut F (ℕ × Unit {0}) ℕ} {f : F} (s : Map (Items 2) F) (whole some : ℕ) (source : set_of (map_source s).rest ≡ some)
    (heirs : some ≡ (when eqb own 0 then 0 else whole)) (callee : map_callee s ≡ f) (counts : (i r : ℕ) (q : F) → Called g f (i, tt) r q → (q ≡ f) × (r ≡ ones (less_all w table own (others i)))) where
  pub taken_fits : whole < 2 ^ 128 → w ≤ 4 → EachRunFrom (map_steps next_item g) s (λ p. fold (λ a x. a + x) 0 p.items < 2 ^ 64)
  taken_fits small narrow =
      items_fit g f (λ i. ones (less_all w table own (others i))) counts s some source callee
      (rw heirs (by_test (eqb own 0) (λ t. rw (when-true (eqb own 0) 0 whole t) (omega arith)) (λ t. rw (when-false (eqb own 0) 0 whole t) small)))
      (λ i. let l = each_few w table own others i in let m : 64 * w ≤ 256 = mul-le-mul_left 64 narrow in omega arith)

  -- of nothing, nothing is taken over
  all_heirs : over 128 some (λ i. ones (less_all w table own (others i))) ≡ over 128 whole (λ i. ones (less_all w table own (others i)))
  all_heirs =
      by_test (eqb own 0)
      (λ t.
      let z : own ≡ 0 = (eqb_iff own 0).0 t in
      over_none 128 some (λ i. ones (less_all w table own (others i))) (heirs ∙ when-true (eqb own 0) 0 whole t)
      ∙ sym
      (over_same 128 whole (λ i. ones (less_all w table own (others i))) (λ i. 0)
      (λ i li. ap ones (empty_of (less_all w table own (others i)) (λ p h. So-not (has-zero p) (rw z at ((less_all_iff w table own (others i) p).0 h).1))) ∙ ones-zero)
      ∙ over_zero 128 whole))
      (λ t. ap (λ (x : ℕ). over 128 x (λ i. ones (less_all w table own (others i)))) (heirs ∙ when-false (eqb own 0) 0 whole t))

  pub taken_summed : (r : ℕ) → ((xs : List ℕ) × (⊤ → Drains (map_steps next_item g) s xs) × (r ≡ fold (λ a x. a + x) 0 xs)) → r ≡ taken_over w table own others whole
  unfolding taken_over
  taken_summed r ran = items_summed g f (λ i. ones (less_all w table own (others i))) counts s some source callee r ran ∙ all_heirs

pub taken_few : (w : ℕ) (table : List ℕ) (own : ℕ) (others : ℕ → ℕ) (s r : ℕ) → r ≡ taken_over w table own others s → r ≤ 64 * w * 128
unfolding taken_over
taken_few w table own others s r e = rw e (over_most (64 * w) s (λ i. ones (less_all w table own (others i))) (each_few w table own others))
