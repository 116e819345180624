-- The digest of a list of words, in numbers of 64 bits.
-- Assumes nothing.
use Rattle.std.specs.Prelude.{List, [], ◌∷◌, ℕ, ◌*◌, ◌^◌, ◌/◌, ◌%◌}
use Rattle.std.specs.Int.Bits.{bit_xor}

-- bits moved up, those above the word lost
unfoldable pub up : ℕ → ℕ → ℕ
up k d = d * 2 ^ k % 2 ^ 64

-- up by 13, down by 7, up by 17: each is added to what it was moved from
unfoldable pub mixed : ℕ → ℕ
mixed d =
    let a = bit_xor d (up 13 d) in
    let b = bit_xor a (a / 2 ^ 7) in
    bit_xor b (up 17 b)

-- word by word, each added and then mixed in
unfoldable pub digest_from : ℕ → List ℕ → ℕ
digest_from d [] = d
digest_from d (w ∷ ws) = digest_from (mixed (bit_xor d w)) ws

-- 9e3779b97f4a7c15 in hexadecimal; zero would be mixed to zero
abbrev pub digest_start : ℕ
digest_start = 11400714819323198485

unfoldable pub digest_of : List ℕ → ℕ
digest_of ws = digest_from digest_start ws
