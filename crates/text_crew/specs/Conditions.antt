-- Condition 1 of the reader, over the text and the buffer that it was lent and what it answered and left. Quotations are the customer's words, there
-- and in document 01. Nothing here speaks of how a text is read: lines are told by what is written for a crew list (specs/Format).
-- Assumes nothing.
use Rattle.std.specs.Prelude.{◌≡◌, ◌↔◌, ◌≢◌, ◌⊎◌, List, [], ◌∷◌, ◌++◌, ℕ, ◌*◌, ◌^◌, ◌≤◌, ◌<◌, length, get_or}
use Rattle.std.proofs.Math.Bool.{So}
use Rattle.sets.specs.Sets.{has}
use Rattle.model.specs.Lists.{rows_at, OneOf}
use Rattle.text_lines.specs.Format.{digits_for, header_line, row_line, row_lines, crew_text}
use Rattle.text_crew.specs.Reader.{ReadReply}

-- ---- the lines of a text

-- the text begins with these bytes
abbrev pub Begins : List ℕ → List ℕ → Type 0
Begins text bytes = (rest : List ℕ) × (text ≡ bytes ++ rest)

-- the first line has its form, "`crew,n,m`", where "Decimals have one to three digits and no leading zero"
abbrev pub HeaderStands : List ℕ → ℕ → ℕ → Type 0
HeaderStands text n m = (n < 1000) × (m < 1000) × Begins text (header_line n m)

-- the next line has its form, "`u,h`", where h is x in hexadecimal, "exactly m/4 digits rounded up"
abbrev pub RowStands : List ℕ → ℕ → ℕ → ℕ → Type 0
RowStands rest m u x = (x < 16 ^ digits_for m) × Begins rest (row_line m u x)

-- "n from 1 to 128", "m from 1 to 256"
abbrev pub InLimits : ℕ → ℕ → Type 0
InLimits n m = (1 ≤ n) × (n ≤ 128) × (1 ≤ m) × (m ≤ 256)

-- the first k rows of a crew list of n users and m permissions
pub record CrewRows (n m k : ℕ) (rows : List ℕ) : Type 0 where
  pub limits : InLimits n m
  pub count : length rows ≡ k
  -- no "bit at m or above"
  pub bits : (u p : ℕ) → u < k → So (has (get_or rows u 0) p) → p < m

-- the text has no fault before row k: after a header and k rows that are in order comes `rest`
pub record InOrder (text : List ℕ) (n m k : ℕ) (rest : List ℕ) : Type 0 where
  pub rows : List ℕ
  pub list : CrewRows n m k rows
  pub lines : text ≡ header_line n m ++ (row_lines m rows k ++ rest)

-- ---- "which are read from the front, and the first fault counts"

-- "2 for the header": it has its form, and "n or m outside its limits"
pub record HeaderBeyond (text : List ℕ) : Type 0 where
  pub n : ℕ
  pub m : ℕ
  pub header : HeaderStands text n m
  pub beyond : ¬ InLimits n m

-- "3 for a row": it has its form, and "a bit at m or above"
pub record RowBeyond (text : List ℕ) : Type 0 where
  pub n : ℕ
  pub m : ℕ
  pub k : ℕ
  pub rest : List ℕ
  pub order : InOrder text n m k rest
  pub one_more : k < n
  pub x : ℕ
  pub row : RowStands rest m k x
  pub bit : (p : ℕ) × (m ≤ p) × So (has x p)

-- "10": the header has not its form
abbrev pub HeaderBroken : List ℕ → Type 0
HeaderBroken text = (n m : ℕ) → ¬ HeaderStands text n m

-- "10": a row has not its form
pub record RowBroken (text : List ℕ) : Type 0 where
  pub n : ℕ
  pub m : ℕ
  pub k : ℕ
  pub rest : List ℕ
  pub order : InOrder text n m k rest
  pub one_more : k < n
  pub broken : (x : ℕ) → ¬ RowStands rest m k x

-- "then more bytes, 10"
pub record MoreBytes (text : List ℕ) : Type 0 where
  pub n : ℕ
  pub m : ℕ
  pub rest : List ℕ
  pub order : InOrder text n m n rest
  pub more : rest ≢ []

-- no fault at all: the text of a crew list
pub record TextOf (text : List ℕ) (n m : ℕ) (rows : List ℕ) : Type 0 where
  pub list : CrewRows n m n rows
  pub lines : text ≡ crew_text n m rows

-- ---- each number exactly when

-- "a lent buffer of 512 words", and "a text's length is judged before its lines"
abbrev pub LinesJudged : List ℕ → List ℕ → Type 0
LinesJudged text buffer = (length buffer ≡ 512) × (length text ≤ 16384)

-- "Acceptance is 0."
abbrev pub When0 : List ℕ → List ℕ → Type 0
When0 text buffer = LinesJudged text buffer × ((n : ℕ) × (m : ℕ) × (rows : List ℕ) × TextOf text n m rows)

-- "2 n or m outside its limits"
abbrev pub When2 : List ℕ → List ℕ → Type 0
When2 text buffer = LinesJudged text buffer × HeaderBeyond text

-- "3 .. (for the reader: its buffer not 512 words, judged first), or a bit at m or above"
abbrev pub When3 : List ℕ → List ℕ → Type 0
When3 text buffer = (length buffer ≢ 512) ⊎ (LinesJudged text buffer × RowBeyond text)

-- "10 the text breaks the form above, more bytes follow, or it is over 16,384 bytes"
abbrev pub When10 : List ℕ → List ℕ → Type 0
When10 text buffer =
    ((length buffer ≡ 512) × (16384 < length text)) ⊎ (LinesJudged text buffer × (HeaderBroken text ⊎ (RowBroken text ⊎ MoreBytes text)))

-- ---- condition 1

-- the full result, of an accepted text
pub record ReadFrom (text : List ℕ) (r : ReadReply) : Type 0 where
  -- "its answer is n and m"
  pub rows : List ℕ
  pub text_of : TextOf text r.n r.m rows
  -- "The reader fills a lent buffer of 512 words: the n rows, then zeros"
  pub room : length r.words ≡ 512
  pub held : rows_at r.n r.words 0 ≡ rows
  pub zeros : (i : ℕ) → 4 * r.n ≤ i → get_or r.words i 0 ≡ 0
  pub words : (i : ℕ) → get_or r.words i 0 < 2 ^ 64

pub record ReadConditions (text buffer : List ℕ) (r : ReadReply) : Type 0 where
  -- "a full result or one of ten numbered refusals": of the ten, one that the reader can give ("the reader never gives 4, mining does")
  pub number : OneOf r.code (0 ∷ 2 ∷ 3 ∷ 10 ∷ [])
  -- and each number exactly when
  pub accepted : (r.code ≡ 0) ↔ When0 text buffer
  pub limits : (r.code ≡ 2) ↔ When2 text buffer
  pub crew : (r.code ≡ 3) ↔ When3 text buffer
  pub form : (r.code ≡ 10) ↔ When10 text buffer
  -- "A refusal returns its number and zeros"
  pub zeros : r.code ≢ 0 → (r.n ≡ 0) × (r.m ≡ 0)
  -- "and leaves each lent buffer unaltered": its length too
  pub unaltered : r.code ≢ 0 → r.words ≡ buffer
  -- and of an accepted text all that it says
  pub result : r.code ≡ 0 → ReadFrom text r
