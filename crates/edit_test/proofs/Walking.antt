-- Walks that take items out of a set: what holds of every item left; and of a method that tests each.
-- Assumes nothing.
use mathlib.Core.Path.{◌≡◌, sym, ◌∙◌, ap, subst}
use mathlib.Core.Bool.{Bool, true, false, So}
use mathlib.Core.Logic.{◌↔◌}
use mathlib.Core.List.{List, [], ◌∷◌}
use Prim.Native.Nat.{ℕ, ◌*◌, ◌^◌, ◌<◌}
use denote.Param.Members.{Mut}
use Rattle.std.specs.Fn.{Called}
use Rattle.std.specs.Iterator.{Yields, YieldsThen}
use Rattle.std.specs.List.{FoldsTo}
use Rattle.std.specs.Option.{MatchOption}
use Rattle.std.specs.Prelude.{Option, Some, None}
use Rattle.sets.specs.Held.{set_of}
use Rattle.sets.specs.Walks.{NextItem}
use Rattle.sets.specs.declared.items.Items.{Items}
use Rattle.sets.specs.Truth.{◌implies◌}
use Rattle.sets.specs.Sets.{has, ◌∖◌, single}
use Rattle.sets.proofs.Truth.{same_test, So-not, not-So, implies_iff, all_iff, equal_or}
use Rattle.sets.proofs.Members.{has-zero, item_below}
use Rattle.sets.proofs.Order.{∖-iff, single_iff}
use Rattle.edit_test.specs.Covering.{each}

pub each_iff : (n s : ℕ) (f : ℕ → Bool) → So (each n s f) ↔ ((i : ℕ) → i < n → So (has s i) → So (f i))
unfolding each
each_iff n s f = (
  λ h i l t. (implies_iff (has s i) (f i)).0 ((all_iff n (λ i. has s i implies f i)).0 h i l) t,
  λ h. (all_iff n (λ i. has s i implies f i)).1 (λ i l. (implies_iff (has s i) (f i)).1 (h i l)),
)

-- there is no item left
pub each_none : (n s : ℕ) (f : ℕ → Bool) → s ≡ 0 → So (each n s f)
each_none n s f e = (each_iff n s f).1 (λ i l t. absurd (So-not (has-zero i) (rw e at t)))

-- an item that passes can be left out
pub each_past : (n s i : ℕ) (f : ℕ → Bool) → So (f i) → each n s f ≡ each n (s ∖ single i) f
each_past n s i f pass =
    same_test (each n s f) (each n (s ∖ single i) f) (λ h. (each_iff n (s ∖ single i) f).1 (λ j l t. (each_iff n s f).0 h j l ((∖-iff s (single i) j).0 t).0))
    (λ h.
    (each_iff n s f).1
    (λ j l t. equal_or j i (λ (e : j ≡ i). rw e pass) (λ d. (each_iff n (s ∖ single i) f).0 h j l ((∖-iff s (single i) j).1 (t, λ x. d (sym ((single_iff i j).0 x)))))))

-- one that fails decides
pub each_fails : (n s i : ℕ) (f : ℕ → Bool) → i < n → So (has s i) → f i ≡ false → each n s f ≡ false
each_fails n s i f l t e = not-So (each n s f) (λ h. So-not e ((each_iff n s f).0 h i l t))

-- ---- `all` over the items of a set, with a test that leaves what it holds as it was

abbrev next_item : (w : ℕ) → Items w → Option ℕ → Items w → Type 0
next_item w s r t = NextItem (64 * w) (set_of s.rest) r (set_of t.rest)

module _ {w : ℕ} {F : Type 0} (g : Mut F (ℕ × Unit {0}) Bool) (f : F) (n whole : ℕ) (small : whole < 2 ^ n) (pass : ℕ → Bool)
    (tests : (x : ℕ) (t : Bool) (q : F) → So (has whole x) → Called g f (x, tt) t q → (q ≡ f) × (t ≡ pass x)) where
  abbrev Within : Items w → Type 0
  Within s = (i : ℕ) → So (has (set_of s.rest) i) → So (has whole i)

  -- some items have passed: those left decide
  after : (xs : List ℕ) (s t : Items w) (q : F) → Within s → Yields (next_item w) s xs t → FoldsTo (λ p x q. Called g p (x, tt) true q) f xs q
      → (q ≡ f) × Within t × (each n (set_of s.rest) pass ≡ each n (set_of t.rest) pass)
  after [] s t q b y c = (sym c, rw (← y) b, ap (λ k. each n (set_of k.rest) pass) y)
  after (x ∷ xs) s t q b y c =
      let a = tests x true c.0 (b x y.1.0.there) c.1 in
      let less : Within y.0 = λ i h. b i ((∖-iff (set_of s.rest) (single x) i).0 (rw y.1.1 at h)).0 in
      let r = after xs y.0 t q less y.2 (subst (λ k. FoldsTo (λ p x q. Called g p (x, tt) true q) k xs q) a.0 c.2) in
      (r.0, r.1, each_past n (set_of s.rest) x pass (sym a.1) ∙ ap (λ k. each n k pass) (sym y.1.1) ∙ r.2)

  ends : (o : Option ℕ) (t u : Items w) (q : F) (r : Bool) → q ≡ f → Within t → next_item w t o u
      → MatchOption o (r ≡ true) (λ x. (r ≡ false) × ((h : F) × Called g q (x, tt) false h)) → r ≡ each n (set_of t.rest) pass
  ends None t u q r e b y m = m ∙ sym (each_none n (set_of t.rest) pass y.0)
  ends (Some x) t u q r e b y m =
      let there = b x y.0.there in
      let a = tests x false m.1.0 there (subst (λ k. Called g k (x, tt) false m.1.0) e m.1.1) in
      m.0 ∙ sym (each_fails n (set_of t.rest) x pass (item_below n whole x small there) y.0.there (sym a.1))

  pub all_items : (s u : Items w) (r : Bool) → set_of s.rest ≡ whole
      → (xs : List ℕ) × (o : Option ℕ) × (q : F) × YieldsThen (next_item w) s xs o u × FoldsTo (λ p x q. Called g p (x, tt) true q) f xs q
      × MatchOption o (r ≡ true) (λ x. (r ≡ false) × ((h : F) × Called g q (x, tt) false h))
      → r ≡ each n whole pass
  all_items s u r e d =
      let a = after d.0 s d.3.0 d.2 (λ i h. rw e at h) d.3.1 d.4 in
      ends d.1 d.3.0 u d.2 r a.0 a.1 d.3.2 d.5 ∙ sym a.2 ∙ ap (λ k. each n k pass) e
