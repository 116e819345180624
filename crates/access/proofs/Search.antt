-- A test of each item of a set, until one passes.
-- Assumes nothing.
use mathlib.Core.Path.{◌≡◌, sym, ◌∙◌, ap, subst}
use mathlib.Core.Bool.{Bool, true, false, So}
use mathlib.Core.Logic.{◌↔◌}
use mathlib.Core.List.{List, [], ◌∷◌}
use Prim.Native.Nat.{ℕ, ◌*◌, ◌<◌}
use denote.Param.Members.{Mut}
use Rattle.std.specs.Fn.{Called}
use Rattle.std.specs.Iterator.{Yields, YieldsThen}
use Rattle.std.specs.List.{FoldsTo}
use Rattle.std.specs.Option.{MatchOption}
use Rattle.std.specs.Prelude.{Option, Some, None}
use Rattle.sets.specs.Held.{set_of}
use Rattle.sets.specs.Walks.{NextItem}
use Rattle.sets.specs.declared.items.Items.{Items}
use Rattle.sets.specs.Truth.{◌and◌, any}
use Rattle.sets.specs.Sets.{has, ◌∖◌, single}
use Rattle.sets.proofs.Truth.{same_test, So-not, not-So, and_iff, any_iff, equal_or}
use Rattle.sets.proofs.Members.{has-zero}
use Rattle.sets.proofs.Order.{∖-iff, single_iff}

-- whether one of the items of s below n passes
some : ℕ → ℕ → (ℕ → Bool) → Bool
some n s f = any n (λ i. has s i and f i)

some_iff : (n s : ℕ) (f : ℕ → Bool) → So (some n s f) ↔ ((i : ℕ) × (i < n) × So (has s i) × So (f i))
unfolding some
some_iff n s f = (
  λ h. let w = (any_iff n (λ i. has s i and f i)).0 h in let b = (and_iff (has s w.0) (f w.0)).0 w.2 in (w.0, w.1, b.0, b.1),
  λ w. (any_iff n (λ i. has s i and f i)).1 (w.0, w.1, (and_iff (has s w.0) (f w.0)).1 (w.2, w.3)),
)

-- there is no item left
some_none : (n s : ℕ) (f : ℕ → Bool) → s ≡ 0 → some n s f ≡ false
some_none n s f e = not-So (some n s f) (λ h. let w = (some_iff n s f).0 h in So-not (has-zero w.0) (ap (λ (x : ℕ). has x w.0) (sym e) ∙ w.2))

-- an item that fails can be left out
some_past : (n s i : ℕ) (f : ℕ → Bool) → f i ≡ false → some n s f ≡ some n (s ∖ single i) f
some_past n s i f fails =
    same_test (some n s f) (some n (s ∖ single i) f)
    (λ h.
    let w = (some_iff n s f).0 h in
    equal_or w.0 i (λ (e : w.0 ≡ i). absurd (So-not fails (rw e at w.3)))
    (λ d. (some_iff n (s ∖ single i) f).1 (w.0, w.1, (∖-iff s (single i) w.0).1 (w.2, λ x. d (sym ((single_iff i w.0).0 x))), w.3)))
    (λ h. let w = (some_iff n (s ∖ single i) f).0 h in (some_iff n s f).1 (w.0, w.1, ((∖-iff s (single i) w.0).0 w.2).0, w.3))

-- one that passes decides
some_passes : (n s i : ℕ) (f : ℕ → Bool) → i < n → So (has s i) → So (f i) → So (some n s f)
some_passes n s i f l t p = (some_iff n s f).1 (i, l, t, p)

-- ---- `any` over the items of a set, with a test that leaves what it holds as it was

abbrev next_item : (w : ℕ) → Items w → Option ℕ → Items w → Type 0
next_item w s r t = NextItem (64 * w) (set_of s.rest) r (set_of t.rest)

module _ {w : ℕ} {F : Type 0} (g : Mut F (ℕ × Unit {0}) Bool) (f : F) (whole : ℕ) (pass : ℕ → Bool)
    (tests : (x : ℕ) (t : Bool) (q : F) → So (has whole x) → Called g f (x, tt) t q → (q ≡ f) × (t ≡ pass x)) where
  abbrev Within : Items w → Type 0
  Within s = (i : ℕ) → So (has (set_of s.rest) i) → So (has whole i)

  -- some items have failed: those left decide
  after : (xs : List ℕ) (s t : Items w) (q : F) → Within s → Yields (next_item w) s xs t → FoldsTo (λ p x q. Called g p (x, tt) false q) f xs q
      → (q ≡ f) × Within t × (some (64 * w) (set_of s.rest) pass ≡ some (64 * w) (set_of t.rest) pass)
  after [] s t q b y c = (sym c, rw (← y) b, ap (λ k. some (64 * w) (set_of k.rest) pass) y)
  after (x ∷ xs) s t q b y c =
      let a = tests x false c.0 (b x y.1.0.there) c.1 in
      let less : Within y.0 = λ i h. b i ((∖-iff (set_of s.rest) (single x) i).0 (rw y.1.1 at h)).0 in
      let r = after xs y.0 t q less y.2 (subst (λ k. FoldsTo (λ p x q. Called g p (x, tt) false q) k xs q) a.0 c.2) in
      (r.0, r.1, some_past (64 * w) (set_of s.rest) x pass (sym a.1) ∙ ap (λ k. some (64 * w) k pass) (sym y.1.1) ∙ r.2)

  ends : (o : Option ℕ) (t u : Items w) (q : F) (r : Bool) → q ≡ f → Within t → next_item w t o u
      → MatchOption o (r ≡ false) (λ x. (r ≡ true) × ((h : F) × Called g q (x, tt) true h)) → r ≡ some (64 * w) (set_of t.rest) pass
  ends None t u q r e b y m = m ∙ sym (some_none (64 * w) (set_of t.rest) pass y.0)
  ends (Some x) t u q r e b y m =
      let a = tests x true m.1.0 (b x y.0.there) (subst (λ k. Called g k (x, tt) true m.1.0) e m.1.1) in
      m.0 ∙ sym (some_passes (64 * w) (set_of t.rest) x pass y.0.small y.0.there (sym a.1))

  pub any_items : (s u : Items w) (r : Bool) → set_of s.rest ≡ whole
      → (xs : List ℕ) × (o : Option ℕ) × (q : F) × YieldsThen (next_item w) s xs o u × FoldsTo (λ p x q. Called g p (x, tt) false q) f xs q
      × MatchOption o (r ≡ false) (λ x. (r ≡ true) × ((h : F) × Called g q (x, tt) true h))
      → r ≡ any (64 * w) (λ i. has whole i and pass i)
  unfolding some
  any_items s u r e d =
      let a = after d.0 s d.3.0 d.2 (λ i h. rw e at h) d.3.1 d.4 in
      ends d.1 d.3.0 u d.2 r a.0 a.1 d.3.2 d.5 ∙ sym a.2 ∙ ap (λ k. some (64 * w) k pass) e
