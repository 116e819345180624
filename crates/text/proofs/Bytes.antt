-- Fixed bytes in a text.
-- Assumes nothing.
use mathlib.Core.Path.{◌≡◌, sym, ◌∙◌, ap}
use mathlib.Core.Bool.{Bool, true, false, So}
use mathlib.Core.List.{List, [], ◌∷◌, ◌++◌}
use mathlib.Core.Logic.{◌↔◌}
use Prim.Native.Nat.{ℕ, ◌+◌, ◌-◌, ◌≤◌, ◌<◌}
use native.Mathlib.Nat.{add_assoc, add-zero}
use native.Mathlib.Omega.{arith}
use lib.Dec.{eqb, leb}
use lib.ListN.{length, get_or, take, drop, length-append, length-drop, get_or-append}
use lib.Seq.{ext_get_or, get_or-append-add, get_or-take, get_or-drop, length-take-le}
use Rattle.std.specs.List.{between, starts_with}
use Rattle.std.proofs.lemmas.Slice.{between_to_end}
use Rattle.std.proofs.lemmas.Slice.Eq.{slice_eq-Decides}
use Rattle.std.proofs.lemmas.Bool.Decides.{Decides-eqb}
use Rattle.sets.specs.Truth.{when◌then◌else◌, all}
use Rattle.sets.proofs.Truth.{by_test, when-true, when-false, not-So, same_test, and_iff, all_of, all_is, eqb_iff, leb_iff, either}
use Rattle.std.specs.Prelude.{Option, Some, None}
use Rattle.text.specs.Fixed.{holds, fixed_at, line_end, line_end_at}

-- ---- what holding says

module _ (text : List ℕ) (at : ℕ) (bytes : List ℕ) where
  pub holds_iff : So (holds text at bytes) ↔ ((at + length bytes ≤ length text) × ((i : ℕ) → i < length bytes → get_or text (at + i) 0 ≡ get_or bytes i 0))
  unfolding holds
  holds_iff = (
    λ s.
        let k = (and_iff (leb (at + length bytes) (length text)) (all (length bytes) (λ i. eqb (get_or text (at + i) 0) (get_or bytes i 0)))).0 s in
        ((leb_iff (at + length bytes) (length text)).0 k.0, λ i l. (eqb_iff (get_or text (at + i) 0) (get_or bytes i 0)).0 (all_is (length bytes) (λ i. eqb (get_or text (at + i) 0) (get_or bytes i 0)) k.1 i l)),
    λ k.
        (and_iff (leb (at + length bytes) (length text)) (all (length bytes) (λ i. eqb (get_or text (at + i) 0) (get_or bytes i 0)))).1
        ((leb_iff (at + length bytes) (length text)).1 k.0, all_of (length bytes) (λ i. eqb (get_or text (at + i) 0) (get_or bytes i 0)) (λ i l. (eqb_iff (get_or text (at + i) 0) (get_or bytes i 0)).1 (k.1 i l))),
  )

  pub holds_end : So (holds text at bytes) → at + length bytes ≤ length text
  holds_end s = (holds_iff.0 s).0

  pub holds_at : So (holds text at bytes) → (i : ℕ) → i < length bytes → get_or text (at + i) 0 ≡ get_or bytes i 0
  holds_at s = (holds_iff.0 s).1

  pub holds_short : length text < at + length bytes → holds text at bytes ≡ false
  holds_short h = not-So (holds text at bytes) (λ s. let l : at + length bytes ≤ length text = holds_end s in omega arith)

-- one byte
pub holds_one : (text : List ℕ) (at b : ℕ) → So (holds text at (b ∷ [])) ↔ ((at < length text) × (get_or text at 0 ≡ b))
holds_one text at b = (
  λ s. (let l : at + 1 ≤ length text = holds_end text at (b ∷ []) s in omega arith, ap (λ (x : ℕ). get_or text x 0) (sym (add-zero at)) ∙ holds_at text at (b ∷ []) s 0 (omega arith)),
  λ k.
      (holds_iff text at (b ∷ [])).1 (
        let l : at < length text = k.0 in let r : at + 1 ≤ length text = omega arith in r,
        λ i l. let e : i ≡ 0 = omega arith in rw e (ap (λ (x : ℕ). get_or text x 0) (add-zero at) ∙ k.1),
      ),
)

-- one run of bytes after another
pub holds-append : (text : List ℕ) (at : ℕ) (xs ys : List ℕ)
    → So (holds text at (xs ++ ys)) ↔ (So (holds text at xs) × So (holds text (at + length xs) ys))
holds-append text at xs ys = (
  λ s.
      let k = (holds_iff text at (xs ++ ys)).0 s in
      let n : length (xs ++ ys) ≡ length xs + length ys = length-append xs ys in
      let b : at + length (xs ++ ys) ≤ length text = k.0 in (
        (holds_iff text at xs).1 (omega arith, λ i l. k.1 i (omega arith) ∙ get_or-append xs ys 0 i l),
        (holds_iff text (at + length xs) ys).1
            (omega arith, λ i l. ap (λ (x : ℕ). get_or text x 0) (add_assoc at (length xs) i) ∙ k.1 (length xs + i) (omega arith) ∙ get_or-append-add xs ys i 0),
      ),
  λ k.
      let p = (holds_iff text at xs).0 k.0 in
      let q = (holds_iff text (at + length xs) ys).0 k.1 in
      let n : length (xs ++ ys) ≡ length xs + length ys = length-append xs ys in
      let b : at + length xs + length ys ≤ length text = q.0 in
      (holds_iff text at (xs ++ ys)).1 (
        omega arith,
        λ i l.
            either i (length xs) (λ h. p.1 i h ∙ sym (get_or-append xs ys 0 i h))
            (λ h.
            let e : length xs + (i - length xs) ≡ i = omega arith in
            let r : get_or text (at + (length xs + (i - length xs))) 0 ≡ get_or (xs ++ ys) (length xs + (i - length xs)) 0 =
            ap (λ (x : ℕ). get_or text x 0) (sym (add_assoc at (length xs) (i - length xs))) ∙ q.1 (i - length xs) (omega arith) ∙ sym (get_or-append-add xs ys (i - length xs) 0) in
            rw e at r),
      ),
)

-- a text that holds bytes from its first place to its last is these bytes
pub holds_whole : (text bytes : List ℕ) → So (holds text 0 bytes) → length text ≡ length bytes → text ≡ bytes
holds_whole text bytes s e =
    ext_get_or 0 text bytes e (λ i l. let z : 0 + i ≡ i = omega arith in ap (λ (x : ℕ). get_or text x 0) (sym z) ∙ holds_at text 0 bytes s i (omega arith))

pub holds_self : (text : List ℕ) → So (holds text 0 text)
holds_self text =
    (holds_iff text 0 text).1
    (let b : 0 + length text ≤ length text = omega arith in b, λ i l. let z : 0 + i ≡ i = omega arith in ap (λ (x : ℕ). get_or text x 0) z)

-- ---- the bytes from a place on, compared with those of a slice

holds_by : (text : List ℕ) (at : ℕ) (bytes : List ℕ) → at + length bytes ≤ length text → take (length bytes) (drop at text) ≡ bytes
    → So (holds text at bytes)
holds_by text at bytes b e =
    (holds_iff text at bytes).1
    (b, λ i l. sym (get_or-drop at text i 0) ∙ sym (get_or-take (length bytes) (drop at text) i 0 l) ∙ ap (λ (xs : List ℕ). get_or xs i 0) e)

held_part : (text : List ℕ) (at : ℕ) (bytes : List ℕ) → So (holds text at bytes) → take (length bytes) (drop at text) ≡ bytes
held_part text at bytes s =
    let b : at + length bytes ≤ length text = holds_end text at bytes s in
    let n : length (drop at text) ≡ length text - at = length-drop at text in
    let k : length (take (length bytes) (drop at text)) ≡ length bytes = length-take-le (length bytes) (drop at text) (omega arith) in
    ext_get_or 0 (take (length bytes) (drop at text)) bytes k
    (λ i l.
    let h : i < length bytes = omega arith in
    get_or-take (length bytes) (drop at text) i 0 h ∙ get_or-drop at text i 0 ∙ holds_at text at bytes s i h)

pub holds_starts : (text : List ℕ) (at : ℕ) (bytes : List ℕ) (r : Bool) → at ≤ length text
    → (r ≡ true → length bytes ≤ length (between at (length text) text)) → r ≡ starts_with eqb (between at (length text) text) bytes
    → r ≡ holds text at bytes
holds_starts text at bytes r h room e =
    let part : between at (length text) text ≡ drop at text = between_to_end text at (length text) (omega arith) in
    let n : length (drop at text) ≡ length text - at = length-drop at text in
    let d : (r ≡ true → bytes ≡ take (length bytes) (drop at text)) × (bytes ≡ take (length bytes) (drop at text) → r ≡ true) =
    slice_eq-Decides Decides-eqb bytes (take (length bytes) (drop at text)) r (rw part at e) in
    same_test r (holds text at bytes)
    (λ s. let b : length bytes ≤ length (drop at text) = rw part at (room s) in holds_by text at bytes (omega arith) (sym (d.0 s)))
    (λ s. d.1 (sym (held_part text at bytes s)))

-- ---- the field of these bytes

pub field_is : (text : List ℕ) (at : ℕ) (bytes : List ℕ) → So (holds text at bytes) → Some (at + length bytes) ≡ fixed_at text at bytes
unfolding fixed_at
field_is text at bytes s = sym (when-true (holds text at bytes) (Some (at + length bytes)) None s)

pub field_is_not : (text : List ℕ) (at : ℕ) (bytes : List ℕ) → holds text at bytes ≡ false → None ≡ fixed_at text at bytes
unfolding fixed_at
field_is_not text at bytes e = sym (when-false (holds text at bytes) (Some (at + length bytes)) None e)

pub ruleset field_laws = (holds_end, field_is, field_is_not)

-- ---- a field, by the test t that tells whether it is there; it would end at e

module _ {t : Bool} (e : ℕ) {r : Option ℕ} (h : r ≡ (when t then Some e else None)) where
  pub field_there : {k : ℕ} → r ≡ Some k → (t ≡ true) × (k ≡ e)
  field_there {k} a =
      by_test t (λ s. (s, let q : Some k ≡ Some e = sym a ∙ h ∙ when-true t (Some e) None s in cc))
      (λ s. let q : Some k ≡ None = sym a ∙ h ∙ when-false t (Some e) None s in let z : ◌≡◌ {A = ℕ} 0 1 = cc in absurd (omega arith))

  pub field_missing : r ≡ None → t ≡ false
  field_missing a =
      by_test t (λ s. let q : None ≡ Some e = sym a ∙ h ∙ when-true t (Some e) None s in let z : ◌≡◌ {A = ℕ} 0 1 = cc in absurd (omega arith))
      (λ s. s)

module _ (text : List ℕ) (at : ℕ) (bytes : List ℕ) {r : Option ℕ} (h : r ≡ fixed_at text at bytes) where
  pub fixed_there : {k : ℕ} → r ≡ Some k → (holds text at bytes ≡ true) × (k ≡ at + length bytes)
  unfolding fixed_at
  fixed_there = field_there (at + length bytes) h

  pub fixed_missing : r ≡ None → holds text at bytes ≡ false
  unfolding fixed_at
  fixed_missing = field_missing (at + length bytes) h

module _ (text : List ℕ) (at : ℕ) {r : Option ℕ} (h : r ≡ line_end_at text at) where
  pub line_end_there : {k : ℕ} → r ≡ Some k → (holds text at line_end ≡ true) × (k ≡ at + 1)
  unfolding line_end_at
  line_end_there = fixed_there text at line_end h

  pub line_end_missing : r ≡ None → holds text at line_end ≡ false
  unfolding line_end_at
  line_end_missing = fixed_missing text at line_end h
