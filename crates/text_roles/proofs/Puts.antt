-- Runs of bytes written one after another make the lines of roles.
-- Assumes nothing.
use mathlib.Core.Path.{◌≡◌, sym, ◌∙◌, ap}
use mathlib.Core.Bool.{false, So}
use mathlib.Core.List.{List, [], ◌++◌}
use Prim.Native.Nat.{ℕ, zero, suc, ◌+◌, ◌*◌, ◌≤◌}
use native.Mathlib.Omega.{arith}
use native.Mathlib.Numerals.{add-one}
use lib.ListN.{length, get_or, length-append}
use Rattle.sets.specs.Sets.{has}
use Rattle.sets.proofs.Truth.{by_test, when-true, when-false}
use Rattle.model.specs.Record.{juniors_start, members_start, permissions_start, sets_start}
use Rattle.model.specs.Lists.{set_at}
use Rattle.text.specs.Fixed.{comma, line_end}
use Rattle.text.specs.Decimal.{decimal}
use Rattle.text_sets.specs.Hexadecimal.{hexadecimal}
use Rattle.stores.specs.Stores.{put_at}
use Rattle.text.proofs.Decimals.{length-decimal}
use Rattle.text.proofs.Puts.{Put, put_none, put_then, put_same}
use Rattle.text_sets.proofs.Hexadecimals.{length-hexadecimal}
use Rattle.text_lines.specs.Format.{digits_for}
use Rattle.text_lines.proofs.Lengths.{digits_most}
use Rattle.text_roles.specs.Lines.{field, line, lines_to, head_line, refused_text, roles_word, refused_word}
use Rattle.text_roles.specs.Words.{Limited, words_line, standing_line, words_lines}

-- ---- a field and a line

pub field_put : (l l1 l2 : List ℕ) (at r1 r2 : ℕ) (size d s v : ℕ) → d ≡ digits_for size → s ≡ v → (most : ℕ) → size ≤ 4 * most → Put l at comma l1 r1
    → (r2 ≡ r1 + d) × (l2 ≡ put_at l1 r1 (hexadecimal d s))
    → (r2 ≡ at + length (field size v)) × (l2 ≡ put_at l at (field size v)) × (r2 ≤ at + (1 + most))
unfolding field
field_put l l1 l2 at r1 r2 size d s v e f most h p q =
    let n : length (hexadecimal d s) ≡ d = length-hexadecimal d s in
    let w =
    put_same l l2 at r2 (comma ++ hexadecimal d s) (comma ++ hexadecimal (digits_for size) v) (λ i. comma ++ hexadecimal (e i) (f i))
    (put_then l l1 l2 at r1 r2 comma (hexadecimal d s) p (q.0 ∙ ap (λ (x : ℕ). r1 + x) (sym n), q.1)) in
    let b : digits_for size ≤ most = digits_most size most h in
    (w.0, w.1, omega (arith, p.0, q.0))

pub sized_put : (l l' : List ℕ) (at r size c s : ℕ) → size ≡ c → Put l at (field size s) l' r → Put l at (field c s) l' r
sized_put l l' at r size c s e p = put_same l l' at r (field size s) (field c s) (λ i. field (e i) s) p

pub field-length : (size s : ℕ) → length (field size s) ≡ 1 + digits_for size
unfolding field
field-length size s =
    let a : length (comma ++ hexadecimal (digits_for size) s) ≡ length comma + length (hexadecimal (digits_for size) s) = length-append comma (hexadecimal (digits_for size) s) in
    let b : length (hexadecimal (digits_for size) s) ≡ digits_for size = length-hexadecimal (digits_for size) s in
    omega arith

pub line_put : (l l1 l2 l3 l4 l5 l6 : List ℕ) (at r1 r2 r3 r4 r5 r6 : ℕ) (ws : List ℕ) (k : ℕ) → Put l at (decimal k) l1 r1
    → Put l1 r1 (field (get_or ws 1 0) (set_at 4 ws (sets_start + 4 * k))) l2 r2 → Put l2 r2 (field (get_or ws 1 0) (set_at 4 ws (permissions_start + 4 * k))) l3 r3
    → Put l3 r3 (field (get_or ws 0 0) (set_at 2 ws (members_start + 2 * k))) l4 r4 → Put l4 r4 (field (get_or ws 2 0) (set_at 2 ws (juniors_start + 2 * k))) l5 r5
    → Put l5 r5 line_end l6 r6 → Put l at (words_line ws k) l6 r6
unfolding words_line line
line_put l l1 l2 l3 l4 l5 l6 at r1 r2 r3 r4 r5 r6 ws k a b c d e f =
    let s = field (get_or ws 1 0) (set_at 4 ws (sets_start + 4 * k)) in
    let p = field (get_or ws 1 0) (set_at 4 ws (permissions_start + 4 * k)) in
    let u = field (get_or ws 0 0) (set_at 2 ws (members_start + 2 * k)) in
    let j = field (get_or ws 2 0) (set_at 2 ws (juniors_start + 2 * k)) in
    put_then _ _ _ _ _ _ (decimal k) (s ++ (p ++ (u ++ (j ++ line_end)))) a
    (put_then _ _ _ _ _ _ s (p ++ (u ++ (j ++ line_end))) b (put_then _ _ _ _ _ _ p (u ++ (j ++ line_end)) c (put_then _ _ _ _ _ _ u (j ++ line_end) d (put_then _ _ _ _ _ _ j line_end e f))))

line_most : (n m c k s p u j : ℕ) → n ≤ 128 → m ≤ 256 → c ≤ 128 → length (line n m c k s p u j) ≤ 217
unfolding line
line_most n m c k s p u j ln lm lc =
    let a = length-append (decimal k) (field m s ++ (field m p ++ (field n u ++ (field c j ++ line_end)))) in
    let b = length-append (field m s) (field m p ++ (field n u ++ (field c j ++ line_end))) in
    let d = length-append (field m p) (field n u ++ (field c j ++ line_end)) in
    let e = length-append (field n u) (field c j ++ line_end) in
    let f = length-append (field c j) line_end in
    let g = length-decimal k in
    let h1 = field-length m s in
    let h2 = field-length m p in
    let h3 = field-length n u in
    let h4 = field-length c j in
    let i1 = digits_most m 64 (omega arith) in
    let i2 = digits_most n 32 (omega arith) in
    let i3 = digits_most c 32 (omega arith) in
    omega arith

-- ---- the lines

pub standing_put : (l l' : List ℕ) (at r : ℕ) (ws : List ℕ) (k : ℕ) → So (has (set_at 2 ws 4) k) → Put l at (words_line ws k) l' r → Put l at (standing_line ws k) l' r
unfolding standing_line
standing_put l l' at r ws k h p = put_same _ _ _ _ _ _ (sym (when-true (has (set_at 2 ws 4) k) (words_line ws k) [] h)) p

pub absent_put : (l : List ℕ) (at : ℕ) (ws : List ℕ) (k : ℕ) → has (set_at 2 ws 4) k ≡ false → Put l at (standing_line ws k) l at
unfolding standing_line
absent_put l at ws k h = put_same _ _ _ _ _ _ (sym (when-false (has (set_at 2 ws 4) k) (words_line ws k) [] h)) (put_none l at)

pub standing_most : (ws : List ℕ) (k : ℕ) → Limited ws → length (standing_line ws k) ≤ 217
unfolding standing_line words_line
standing_most ws k b =
    let t = has (set_at 2 ws 4) k in
    by_test t
    (λ y. let e = ap length (when-true t (words_line ws k) [] y) in let m = line_most _ _ _ _ _ _ _ _ b.users b.permissions b.candidates in rw e m)
    (λ y. let e = ap length (when-false t (words_line ws k) [] y) in rw e (omega arith))

pub lines_none : (l : List ℕ) (at : ℕ) (ws : List ℕ) → Put l at (words_lines ws 0) l at
unfolding words_lines lines_to
lines_none l at ws = put_none l at

pub lines_more : (l l1 l2 : List ℕ) (at r1 r2 : ℕ) (ws : List ℕ) (k : ℕ) → Put l at (words_lines ws k) l1 r1 → Put l1 r1 (standing_line ws k) l2 r2
    → Put l at (words_lines ws (k + 1)) l2 r2
unfolding words_lines lines_to standing_line
lines_more l l1 l2 at r1 r2 ws k p q = rw (add-one k) (put_then _ _ _ _ _ _ (words_lines ws k) (standing_line ws k) p q)

pub lines_most : (ws : List ℕ) (k : ℕ) → Limited ws → length (words_lines ws k) ≤ 217 * k
unfolding words_lines lines_to standing_line
lines_most ws zero b = omega arith
lines_most ws (suc k) b =
    let a = length-append (words_lines ws k) (standing_line ws k) in
    let h = lines_most ws k b in
    let m = standing_most ws k b in
    omega arith

-- ---- the head and the refusal

pub head_put : (l l1 l2 l3 l4 l5 : List ℕ) (r1 r2 r3 r4 r5 : ℕ) (count q : ℕ) → Put l 0 roles_word l1 r1 → Put l1 r1 (decimal count) l2 r2
    → Put l2 r2 comma l3 r3 → Put l3 r3 (decimal q) l4 r4 → Put l4 r4 line_end l5 r5
    → (r5 ≡ length (head_line count q)) × (l5 ≡ put_at l 0 (head_line count q)) × (r5 ≤ 48)
unfolding head_line
head_put l l1 l2 l3 l4 l5 r1 r2 r3 r4 r5 count q a b c d e =
    let w = put_then _ _ _ _ _ _ roles_word (decimal count ++ (comma ++ (decimal q ++ line_end))) a
    (put_then _ _ _ _ _ _ (decimal count) (comma ++ (decimal q ++ line_end)) b (put_then _ _ _ _ _ _ comma (decimal q ++ line_end) c (put_then _ _ _ _ _ _ (decimal q) line_end d e))) in
    let m = length-decimal count in
    let n = length-decimal q in
    (omega (arith, w.0), w.1, omega (arith, a.0, b.0, c.0, d.0, e.0))

pub head_line_put : (l l' : List ℕ) (r count q : ℕ)
    → (r ≡ length (roles_word ++ (decimal count ++ (comma ++ (decimal q ++ line_end))))) × (l' ≡ put_at l 0 (roles_word ++ (decimal count ++ (comma ++ (decimal q ++ line_end)))))
    → (r ≡ length (head_line count q)) × (l' ≡ put_at l 0 (head_line count q)) × (r ≤ 48)
unfolding head_line
head_line_put l l' r count q p =
    let a = length-append (decimal count) (comma ++ (decimal q ++ line_end)) in
    let b = length-append (decimal q) line_end in
    (p.0, p.1, omega (arith, p.0, length-decimal count, length-decimal q))

pub refused_put : (l l1 l2 l3 : List ℕ) (r1 r2 r3 : ℕ) (k : ℕ) → Put l 0 refused_word l1 r1 → Put l1 r1 (decimal k) l2 r2 → Put l2 r2 line_end l3 r3
    → (r3 ≡ length (refused_text k)) × (l3 ≡ put_at l 0 (refused_text k)) × (r3 ≤ 29)
unfolding refused_text
refused_put l l1 l2 l3 r1 r2 r3 k a b c =
    let w = put_then _ _ _ _ _ _ refused_word (decimal k ++ line_end) a (put_then _ _ _ _ _ _ (decimal k) line_end b c) in
    let m = length-decimal k in
    (omega (arith, w.0), w.1, omega (arith, a.0, b.0, c.0))

-- ---- the loop's end

pub put_upto : (l l' : List ℕ) (at r : ℕ) (ws : List ℕ) (k c : ℕ) → k ≡ c → Put l at (words_lines ws k) l' r → Put l at (words_lines ws c) l' r
put_upto l l' at r ws k c e p = put_same l l' at r (words_lines ws k) (words_lines ws c) (ap (words_lines ws) e) p
