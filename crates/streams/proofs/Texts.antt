-- What a buffer says of an input whose bytes are known, once it is full or the input has ended; and bytes that stand first in a buffer.
-- Assumes nothing.
use Rattle.std.proofs.Common.{◌≡◌, ℕ, ◌+◌, ◌<◌, ◌≤◌, List, [], ◌++◌, None, Some, IfSome, arith, length, take, sym, ap, ◌∙◌, append-nil, length-take-le, take_all}
use Rattle.std.proofs.Math.Nat.{eq-or-lt_of_le}
use Rattle.std.proofs.Math.Seq.{take-append_seam}
use Rattle.std.specs.declared.option.Option.{Option}
use Rattle.std.specs.Io.KnownBytes.{Consumes, IsAtEnd}
use Rattle.stores.specs.Stores.{put_at}
use Rattle.stores.proofs.Stores.{length-put_at, part_stored}
use mathlib.Core.Logic.{⊎_elim}

-- the bytes read are as much of the text as there was space for
as_much : (input text rest : List ℕ) (n : ℕ) → n ≤ length input → text ≡ take n input ++ rest → (n < length input → rest ≡ []) → take n input ≡ take (length input) text
as_much input text rest n within read end =
    let long : length (take n input) ≡ n = length-take-le n input within in
    ⊎_elim
    (λ (full : n ≡ length input).
    sym (take-append_seam (take n input) rest) ∙ (λ i. take ((long ∙ full) i) (sym read i)))
    (λ (short : n < length input).
    let whole : text ≡ take n input = read ∙ ap (λ l. take n input ++ l) (end short) ∙ append-nil (take n input) in
    let fits : length text ≤ length input = omega (arith, ap length whole) in
    sym whole ∙ sym (take_all (length input) text fits))
    (eq-or-lt_of_le within)

-- so what holds of each text that begins so holds of the text that was there to be read
pub of_what_was_read : (known rest : Option (List ℕ)) (input : List ℕ) (n : ℕ) (P : List ℕ → Type 0) → n ≤ length input
    → Consumes known rest (take n input) → (n < length input → IsAtEnd rest) → ((text : List ℕ) → take n input ≡ take (length input) text → P text) → IfSome known P
of_what_was_read None rest input n P within read end each = tt
of_what_was_read (Some text) None input n P within read end each = absurd read
of_what_was_read (Some text) (Some rest) input n P within read end each = each text (as_much input text rest n within read end)

-- the first bytes, where they were stored
pub first_stored : (before after bytes : List ℕ) (count : ℕ) → count ≤ length after → (count ≡ length bytes) × (after ≡ put_at before 0 bytes) → take count after ≡ bytes
first_stored before after bytes count fits put =
    let room : 0 + count ≤ length before = omega (arith, ap length put.1, length-put_at before 0 bytes) in
    ap (take count) put.1 ∙ part_stored before 0 bytes count (sym put.0) room
