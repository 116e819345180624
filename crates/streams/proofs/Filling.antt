-- A read into the part of a buffer that follows what was read before.
-- Assumes nothing.
use Rattle.std.proofs.Common.{◌≡◌, ℕ, ◌+◌, ◌≤◌, List, ◌++◌, length, take, sym, ap, ◌∙◌, length-take-le, append-nil, le_refl}
use Rattle.std.proofs.Math.Seq.{take-append-add, take-append-le}
use Rattle.std.proofs.lemmas.Slice.{take-put_mid_below}
use borrow.Rule.Slice.PartMut.{put_mid, post_of}

-- one read further
pub one_read_more : (at room n : ℕ) (before read : List ℕ) → at ≤ length before → n ≤ length read
    → take at before ++ take n read ≡ take (at + n) (put_mid at room before read)
one_read_more at room n before read within fits =
    let after = post_of at room before in
    ap (λ l. take at before ++ l) (sym (take-append-le n read after fits))
    ∙ sym (take-append-add (take at before) (read ++ after) n)
    ∙ ap (λ m. take (m + n) (put_mid at room before read)) (length-take-le at before within)

-- a read that gave nothing
pub nothing_more : (at room n : ℕ) (before read : List ℕ) → at ≤ length before → n ≡ 0
    → take at before ++ take n read ≡ take at (put_mid at room before read)
nothing_more at room n before read within none =
    ap (λ k. take at before ++ take k read) none
    ∙ append-nil (take at before)
    ∙ sym (take-put_mid_below at room before read at (le_refl at) within)
