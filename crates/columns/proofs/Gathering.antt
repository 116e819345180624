-- Sets gathered word by word from a table of sets.
-- Assumes nothing.
use mathlib.Core.Path.{◌≡◌, refl, sym, ◌∙◌, ap}
use mathlib.Core.Bool.{Bool, false}
use mathlib.Core.List.{List, [], ◌∷◌}
use Prim.Native.Nat.{ℕ, suc, ◌+◌, ◌-◌, ◌*◌, ◌/◌, ◌%◌, ◌^◌, ◌≤◌, ◌<◌, min}
use native.Mathlib.Nat.{zero-add, mul-suc, mul-le-mul_left, not-suc-le-zero, lt_of_lt_of_le}
use native.Mathlib.Numerals.{add-one}
use native.Mathlib.Omega.{arith}
use lib.ListN.{length, get_or, set, replicate, length-replicate, get_or-replicate, get_or-eq_default}
use lib.Pow.{pow_mono}
use lib.Seq.{get_or-set_same, get_or-set_other}
use Rattle.sets.specs.Sets.{has, collect}
use Rattle.sets.specs.Words.{value}
use Rattle.sets.proofs.Truth.{either, below_suc}
use Rattle.sets.proofs.Members.{same_below, has-zero, has_above}
use Rattle.sets.proofs.Order.{collect-zero, collect_lt, has-collect, collect_same, collect-none}
use Rattle.sets.proofs.Words.{Words, value_lt, value_one, value-collect, has_value}
use Rattle.model.specs.Lists.{elems, set_at}
use Rattle.model.proofs.Lists.{length_elems, get_d_elems}
use Rattle.blocks.specs.Shuffles.{Transposed}
use Rattle.columns.specs.Loading.{Loaded}

-- word j of set x of the table is inside
pub inside : (w x n l j : ℕ) → x < n → j < w → w * n ≤ l → w * x + j < l
inside w x n l j h b r = let k : w * suc x ≤ w * n = mul-le-mul_left w h in omega (arith, mul-suc w x)

elems_words : (ws : List ℕ) (at n : ℕ) → Words ws → Words (elems ws at n)
elems_words ws at n h i =
    either i n (λ l. rw (get_d_elems ws at n i l) (h (at + i)))
    (λ l. rw (get_or-eq_default (elems ws at n) 0 {n = i} (rw (length_elems ws at n) l)) (omega arith))

-- item k of a set that is read is a bit of one word; past the width there is none
pub has-set_at : (w : ℕ) (ws : List ℕ) (at k : ℕ) → Words ws → k / 64 < w → has (set_at w ws at) k ≡ has (get_or ws (at + k / 64) 0) (k % 64)
unfolding set_at
has-set_at w ws at k h l = has_value (elems ws at w) k (elems_words ws at w h) ∙ ap (λ (x : ℕ). has x (k % 64)) (get_d_elems ws at w (k / 64) l)

pub past_set_at : (w : ℕ) (ws : List ℕ) (at k : ℕ) → Words ws → w ≤ k / 64 → has (set_at w ws at) k ≡ false
unfolding set_at
past_set_at w ws at k h l =
    has_above (64 * w) (value (elems ws at w)) k (rw (length_elems ws at w) at (value_lt (elems ws at w) (elems_words ws at w h))) (omega arith)

-- two words that gather a test: the first 64 places, and those after them
pub gathered : (n m a b : ℕ) (f : ℕ → Bool) → m ≡ min n 64 → a ≡ collect m (λ i. f (0 + i)) → b ≡ collect (n - m) (λ i. f (64 + i)) → value (a ∷ b ∷ []) ≡ collect n f
gathered n m a b f e h k =
    let d : n - m ≡ n - 64 = omega arith in
    value-collect n a (b ∷ []) f (rw e at h ∙ collect_same (min n 64) (λ i. f (0 + i)) f (λ i l. ap f (zero-add i))) (value_one b ∙ rw d at k)

-- no set has an item past the width
pub column_past : (w n k : ℕ) (ws : List ℕ) → Words ws → w ≤ k / 64 → 0 ≡ collect n (λ i. has (set_at w ws (w * i)) k)
column_past w n k ws h l = sym (collect-none n (λ i. has (set_at w ws (w * i)) k) (λ i b. past_set_at w ws (w * i) k h l))

-- the words of a column
pub column_words : (w n m k a b : ℕ) (ws : List ℕ) → Words ws → k / 64 < w → m ≡ min n 64
    → a ≡ collect m (λ q. has (get_or ws (w * (0 + q) + k / 64) 0) (k % 64)) → b ≡ collect (n - m) (λ q. has (get_or ws (w * (64 + q) + k / 64) 0) (k % 64))
    → value (a ∷ b ∷ []) ≡ collect n (λ i. has (set_at w ws (w * i)) k)
column_words w n m k a b ws h l e ea eb =
    gathered n m a b (λ i. has (get_or ws (w * i + k / 64) 0) (k % 64)) e ea eb
    ∙ collect_same n (λ i. has (get_or ws (w * i + k / 64) 0) (k % 64)) (λ i. has (set_at w ws (w * i)) k) (λ i t. sym (has-set_at w ws (w * i) k h l))

-- the same of the item 64 j + b, told by word and bit
pub column_pair : (w n m j b x y : ℕ) (ws : List ℕ) → Words ws → j < w → b < 64 → m ≡ min n 64
    → x ≡ collect m (λ q. has (get_or ws (w * (0 + q) + j) 0) b) → y ≡ collect (n - m) (λ q. has (get_or ws (w * (64 + q) + j) 0) b)
    → value (x ∷ y ∷ []) ≡ collect n (λ i. has (set_at w ws (w * i)) (64 * j + b))
column_pair w n m j b x y ws h l lb e ex ey =
    let p : (64 * j + b) / 64 ≡ j = omega arith in
    let q : (64 * j + b) % 64 ≡ b = omega arith in
    column_words w n m (64 * j + b) x y ws h (rw p l) e (rw (p, q) ex) (rw (p, q) ey)

-- ---- all bits of a word at once

pub zeros : (n i : ℕ) → get_or {A = ℕ} (replicate n 0) i 0 ≡ 0
zeros n i =
    either i n (λ l. get_or-replicate {A = ℕ} n i 0 0 l) (λ l. get_or-eq_default {A = ℕ} (replicate n 0) 0 {n = i} (rw (length-replicate {A = ℕ} n 0) l))

-- none are gathered
pub gathered_none : (n x : ℕ) (f : ℕ → Bool) → n ≡ 0 → x ≡ 0 → x ≡ collect n f
gathered_none n x f e z = z ∙ sym (rw e (collect-zero f))

pub loaded_none : (f : ℕ → ℕ) (ws : List ℕ) → Loaded 0 f ws ws
loaded_none f ws = record { inside = λ q l. absurd (not-suc-le-zero l); past = λ q l. refl }

pub loaded_more : (n : ℕ) (f : ℕ → ℕ) (before ws : List ℕ) → n < length ws → Loaded n f before ws → Loaded (n + 1) f before (set ws n (f n))
loaded_more n f before ws l h = record {
  inside = λ q b. below_suc q n (rw (add-one n) at b) (λ (e : q ≡ n). rw e (get_or-set_same ws n (f n) 0 l)) (λ d. get_or-set_other ws n q (f n) 0 (λ (e : q ≡ n). omega arith) ∙ h.inside q d);
  past = λ q b. get_or-set_other ws n q (f n) 0 (λ (e : q ≡ n). omega arith) ∙ h.past q (omega arith);
}

-- word b of a transposed block, whose words past the count are empty
pub block_column : (n b : ℕ) (f : ℕ → ℕ) (empty ws block : List ℕ) → n ≤ 64 → b < 64 → ((q : ℕ) → get_or empty q 0 ≡ 0) → get_or block b 0 < 2 ^ 64
    → Loaded n f empty ws → Transposed ws block → get_or block b 0 ≡ collect n (λ q. has (f q) b)
block_column n b f empty ws block l lb z small h t =
    same_below 64 (get_or block b 0) (collect n (λ q. has (f q) b)) small (lt_of_lt_of_le (collect_lt n (λ q. has (f q) b)) (pow_mono l))
    (λ q lq.
    t.turned b q lb lq
    ∙ either q n
    (λ (d : q < n). ap (λ (x : ℕ). has x b) (h.inside q d) ∙ sym (has-collect n (λ q. has (f q) b) q d))
    (λ (d : n ≤ q). ap (λ (x : ℕ). has x b) (h.past q d ∙ z q) ∙ has-zero b ∙ sym (has_above n (collect n (λ q. has (f q) b)) q (collect_lt n (λ q. has (f q) b)) d)))
