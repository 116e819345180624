-- A shuffle word by word, and that six of them transpose.
-- Assumes nothing.
use mathlib.Core.Path.{◌≡◌, refl, sym, ◌∙◌, ap}
use mathlib.Core.Bool.{Bool, So}
use mathlib.Core.List.{List}
use Prim.Native.Nat.{ℕ, ◌+◌, ◌-◌, ◌*◌, ◌/◌, ◌%◌, ◌^◌, ◌<◌}
use native.Mathlib.Nat.{add-zero, sub-zero, mul-zero, mul-one, add_comm, not-suc-le-zero}
use native.Mathlib.Omega.{arith}
use lib.Dec.{eqb, ltb, leb}
use lib.Bits.{bit_and, bit_or}
use lib.Arith.{lt_of_le-ne}
use lib.ListN.{length, get_or, set, length-set}
use lib.Seq.{get_or-set_same, get_or-set_other}
use Rattle.sets.specs.Truth.{◌and◌, isnt, when◌then◌else◌, all}
use Rattle.sets.specs.Sets.{has}
use Rattle.sets.proofs.Truth.{by_test, either, equal_or, same_test, not-So, and_iff, isnt_iff, eqb_iff, ltb_iff, leb_iff, all_is, when-true, when-false, picked}
use Rattle.sets.proofs.Words.{masked, has_shift}
use Rattle.sets.proofs.Written.{has-and, has-or, has-masked, has-up, none-up}
use Rattle.model.proofs.Everything.{everything}
use Rattle.blocks.specs.Shuffles.{spaced, from_row, from_column, Shuffled, Transposed}

-- ---- the two words that a shuffle makes of two

abbrev below : ℕ → ℕ → ℕ → Bool
below s m c = leb s c and has m (c - s)

spaced_at : (s m c : ℕ) → So (spaced s m) → c < 64 → below s m c ≡ isnt (has m c)
unfolding spaced
spaced_at s m c h l =
    let k = all_is 64 (λ c. when has m c then isnt (below s m c) else below s m c) h c l in
    same_test (below s m c) (isnt (has m c))
    (λ b. (isnt_iff (has m c)).1 (λ t. (isnt_iff (below s m c)).0 (sym (when-true (has m c) (isnt (below s m c)) (below s m c) t) ∙ k) b))
    (λ n. sym (when-false (has m c) (isnt (below s m c)) (below s m c) (not-So (has m c) ((isnt_iff (has m c)).0 n))) ∙ k)

-- the places of the mask, s further up
moved : (s m y c : ℕ) → So (spaced s m) → c < 64 → has (bit_and y m * 2 ^ s % 2 ^ 64) c ≡ (has y (c - s) and isnt (has m c))
moved s m y c h l =
    either c s
    (λ b.
    none-up (bit_and y m) s c l b
    ∙ sym (not-So (has y (c - s) and isnt (has m c)) (λ t. let k = (and_iff (leb s c) (has m (c - s))).0 (spaced_at s m c h l ∙ ((and_iff (has y (c - s)) (isnt (has m c))).0 t).1) in let z = (leb_iff s c).0 k.0 in omega arith)))
    (λ b.
    has-up (bit_and y m) s c l b ∙ has-and y m (c - s)
    ∙ ap (λ (t : Bool). has y (c - s) and t)
    (same_test (has m (c - s)) (below s m c) (λ t. (and_iff (leb s c) (has m (c - s))).1 ((leb_iff s c).1 b, t)) (λ t. ((and_iff (leb s c) (has m (c - s))).0 t).1) ∙ spaced_at s m c h l))

low_word : (s m x y c : ℕ) → So (spaced s m) → c < 64 → has (bit_or (bit_and x m) (bit_and y m * 2 ^ s % 2 ^ 64)) c ≡ (when has m c then has x c else has y (c - s))
low_word s m x y c h l =
    has-or (bit_and x m) (bit_and y m * 2 ^ s % 2 ^ 64) c ∙ rw (has-and x m c, moved s m y c h l) (picked (has m c) (has x c) (has y (c - s)))

high_word : (s m x y c : ℕ) → m < 2 ^ 64 → y < 2 ^ 64 → has (bit_or (bit_and (x / 2 ^ s) m) (masked y m)) c ≡ (when has m c then has x (s + c) else has y c)
high_word s m x y c hm hy =
    has-or (bit_and (x / 2 ^ s) m) (masked y m) c
    ∙ rw (has-and (x / 2 ^ s) m c, has-masked y m c hy hm, has_shift x s c) (picked (has m c) (has x (s + c)) (has y c))

-- ---- a shuffle, two words at a time

chosen : (t : Bool) (ws : List ℕ) (i j p q : ℕ) → (when t then has (get_or ws i 0) p else has (get_or ws j 0) q) ≡ has (get_or ws (when t then i else j) 0) (when t then p else q)
chosen t ws i j p q =
    by_test t (λ h. rw (when-true t i j h, when-true t p q h) (when-true t (has (get_or ws i 0) p) (has (get_or ws j 0) q) h))
    (λ h. rw (when-false t i j h, when-false t p q h) (when-false t (has (get_or ws i 0) p) (has (get_or ws j 0) q) h))

module _ (s m : ℕ) (ws : List ℕ) (i : ℕ) where
  abbrev low_of : ℕ
  low_of = bit_or (bit_and (get_or ws i 0) m) (bit_and (get_or ws (i + 32) 0) m * 2 ^ s % 2 ^ 64)

  abbrev high_of : ℕ
  high_of = bit_or (bit_and (get_or ws i 0 / 2 ^ s) m) (masked (get_or ws (i + 32) 0) m)

  low_from : (c : ℕ) → So (spaced s m) → c < 64 → has low_of c ≡ has (get_or ws (from_row m (2 * i) c) 0) (from_column s m (2 * i) c)
  unfolding from_row from_column
  low_from c h l =
      let a : 2 * i / 2 ≡ i = omega arith in
      let b : 2 * i % 2 ≡ 0 = omega arith in
      rw (a, b, mul-zero s, mul-one s, add-zero c) (low_word s m (get_or ws i 0) (get_or ws (i + 32) 0) c h l ∙ chosen (has m c) ws i (i + 32) c (c - s))

  high_from : (c : ℕ) → m < 2 ^ 64 → get_or ws (i + 32) 0 < 2 ^ 64 → has high_of c ≡ has (get_or ws (from_row m (2 * i + 1) c) 0) (from_column s m (2 * i + 1) c)
  unfolding from_row from_column
  high_from c hm hy =
      let a : (2 * i + 1) / 2 ≡ i = omega arith in
      let b : (2 * i + 1) % 2 ≡ 1 = omega arith in
      rw (a, b, mul-zero s, mul-one s, sub-zero c, add_comm c s) (high_word s m (get_or ws i 0) (get_or ws (i + 32) 0) c hm hy ∙ chosen (has m c) ws i (i + 32) (s + c) c)

  pub shuffled_more : (to : List ℕ) → i < 32 → length to ≡ 64 → m < 2 ^ 64 → get_or ws (i + 32) 0 < 2 ^ 64 → So (spaced s m) → Shuffled (2 * i) s m ws to
      → Shuffled (2 * (i + 1)) s m ws (set (set to (2 * i) low_of) (2 * i + 1) high_of)
  shuffled_more to l e hm hy h inv = record {
    taken = λ r c b d.
        equal_or r (2 * i + 1)
        (λ (k : r ≡ 2 * i + 1).
        rw k (ap (λ (x : ℕ). has x c) (get_or-set_same (set to (2 * i) low_of) (2 * i + 1) high_of 0 (rw (length-set to (2 * i) low_of) (omega arith))) ∙ high_from c hm hy))
        (λ n.
        ap (λ (x : ℕ). has x c) (get_or-set_other (set to (2 * i) low_of) (2 * i + 1) r high_of 0 n)
        ∙ equal_or r (2 * i)
        (λ (k : r ≡ 2 * i). rw k (ap (λ (x : ℕ). has x c) (get_or-set_same to (2 * i) low_of 0 (omega arith)) ∙ low_from c h d))
        (λ o. ap (λ (x : ℕ). has x c) (get_or-set_other to (2 * i) r low_of 0 o) ∙ (let under : r < 2 * i + 1 = lt_of_le-ne (omega arith) n in inv.taken r c (lt_of_le-ne (omega arith) o) d)));
  }

pub shuffled_none : (s m : ℕ) (ws to : List ℕ) → Shuffled 0 s m ws to
shuffled_none s m ws to = record { taken = λ r c l d. absurd (not-suc-le-zero l) }

-- ---- six shuffles

-- a shuffle taken back, inside the block, and then the test f of where the bit comes from
unfoldable turn : ℕ → ℕ → (ℕ → ℕ → Bool) → ℕ → ℕ → Bool
turn s m f r c = ltb r 64 and ltb c 64 and f (from_row m r c) (from_column s m r c)

at : ℕ → ℕ → ℕ → ℕ → Bool
at p q r c = eqb r p and eqb c q

turned : (s m : ℕ) (f : ℕ → ℕ → Bool) (before ws : List ℕ) (x : Bool) → Shuffled 64 s m before ws
    → ((p q : ℕ) → So (f p q) → has (get_or before p 0) q ≡ x) → (r c : ℕ) → So (turn s m f r c) → has (get_or ws r 0) c ≡ x
unfolding turn
turned s m f before ws x sh k r c t =
    let a = (and_iff (ltb r 64 and ltb c 64) (f (from_row m r c) (from_column s m r c))).0 t in
    let b = (and_iff (ltb r 64) (ltb c 64)).0 a.0 in
    sh.taken r c ((ltb_iff r 64).0 b.0) ((ltb_iff c 64).0 b.1) ∙ k (from_row m r c) (from_column s m r c) a.1

-- bit c of word r comes from bit r of word c: all 4,096 computed
all_turned : So (all 64 (λ r. all 64 (λ c. turn 1 0x5555555555555555 (turn 2 0x3333333333333333 (turn 4 0x0F0F0F0F0F0F0F0F (turn 8 0x00FF00FF00FF00FF (turn 16 0x0000FFFF0000FFFF (turn 32 0x00000000FFFFFFFF (at c r)))))) r c)))
unfolding everything turn at from_row from_column
all_turned = refl

pub six_transpose : (a b c d e f z : List ℕ) → Shuffled 64 32 0x00000000FFFFFFFF a b → Shuffled 64 16 0x0000FFFF0000FFFF b c → Shuffled 64 8 0x00FF00FF00FF00FF c d
    → Shuffled 64 4 0x0F0F0F0F0F0F0F0F d e → Shuffled 64 2 0x3333333333333333 e f → Shuffled 64 1 0x5555555555555555 f z → Transposed a z
unfolding at
six_transpose a b c d e f z h1 h2 h3 h4 h5 h6 = record {
  turned = λ r q lr lq.
      let x = has (get_or a q 0) r in
      turned 1 0x5555555555555555 _ f z x h6 (turned 2 0x3333333333333333 _ e f x h5 (turned 4 0x0F0F0F0F0F0F0F0F _ d e x h4 (turned 8 0x00FF00FF00FF00FF _ c d x h3 (turned 16 0x0000FFFF0000FFFF _ b c x h2 (turned 32 0x00000000FFFFFFFF (at q r) a b x h1
      (λ i j t. let k = (and_iff (eqb i q) (eqb j r)).0 t in rw ((eqb_iff i q).0 k.0, (eqb_iff j r).0 k.1) refl))))))
      r q (all_is 64 _ (all_is 64 _ all_turned r lr) q lq);
}

-- the masks of the six
pub spaced_32 : So (spaced 32 0x00000000FFFFFFFF)
unfolding everything spaced
spaced_32 = refl

pub spaced_16 : So (spaced 16 0x0000FFFF0000FFFF)
unfolding everything spaced
spaced_16 = refl

pub spaced_8 : So (spaced 8 0x00FF00FF00FF00FF)
unfolding everything spaced
spaced_8 = refl

pub spaced_4 : So (spaced 4 0x0F0F0F0F0F0F0F0F)
unfolding everything spaced
spaced_4 = refl

pub spaced_2 : So (spaced 2 0x3333333333333333)
unfolding everything spaced
spaced_2 = refl

pub spaced_1 : So (spaced 1 0x5555555555555555)
unfolding everything spaced
spaced_1 = refl
