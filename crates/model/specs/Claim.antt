-- Condition 3: "For every list of strikes, restorations, eliminations and reviews, refused ones included, from a freshly mined panel, each call getting
-- the record as the one before left it, the following holds after the list." One named clause for each part. Quotations are the customer's words, in the
-- conditions and in document 01.
-- Assumes nothing.
use Rattle.std.specs.Prelude.{◌≡◌, ◌↔◌, List, [], ◌∷◌, ◌++◌, ℕ, suc, ◌<◌, get_or}
use Rattle.std.proofs.Math.Bool.{So}
use Rattle.sets.specs.Sets.{has, single}
use Rattle.model.specs.Lists.{OneOf}
use Rattle.model.specs.Chains.{link, Chain, links_but, Authorised}
use Rattle.model.specs.State.{State, roles_of}
use Rattle.model.specs.Record.{built, state_of, role_rows_of}
use Rattle.model.specs.Notions.{BuiltRows, Standard}
use Rattle.model.specs.Altered.{Altered}
use Rattle.model.specs.Machine.{Call, Reply, state_after, replies_to}
use Rattle.model.specs.Machine.Call.{strike, restore, eliminate, review}
use Rattle.model.specs.Quality.{Weights, Tolerance}
use Rattle.model.specs.Calls.{edit}

-- "each call getting the record as the one before left it": the record after the list, and the answers on the way
unfoldable pub words_after : List ℕ → List Call → List ℕ
words_after ws [] = ws
words_after ws (call ∷ calls) = words_after (edit ws call).words calls

unfoldable pub replies_given : List ℕ → List Call → List Reply
replies_given ws [] = []
replies_given ws (call ∷ calls) = (edit ws call).replied ∷ replies_given (edit ws call).words calls

-- ---- one call

-- lent the record ws, the call is accepted
abbrev pub Accepted : List ℕ → Call → Type 0
Accepted ws call = (edit ws call).replied.code ≡ 0

-- a strike of k, and a restoration of k, altered of the record ws only what they may. "Its immediate seniors and juniors are those of the building
-- in which it stands: before a strike, after a restoration."
abbrev pub StrikeAltered : List ℕ → ℕ → Type 0
StrikeAltered ws k = Altered (roles_of (state_of ws)) (state_of ws).standing (single k) ws (edit ws (strike k)).words

abbrev pub RestoreAltered : List ℕ → ℕ → Type 0
RestoreAltered ws k = Altered (roles_of (state_of ws)) (state_of (edit ws (restore k)).words).standing (single k) ws (edit ws (restore k)).words

-- n calls, each of one role, each accepted, and each altering only what it may, lead from the record ws to the record `left`
pub data OneByOne (call : ℕ → Call) (Altering : List ℕ → ℕ → Type 0) : List ℕ → ℕ → List ℕ → Type 0 where
  none : (ws : List ℕ) → OneByOne call Altering ws 0 ws
  next : (ws : List ℕ) (k n : ℕ) (left : List ℕ) → Accepted ws (call k) → Altering ws k → OneByOne call Altering (edit ws (call k)).words n left
      → OneByOne call Altering ws (suc n) left

-- ---- the condition

-- of each call of the list, and the record that it is lent
abbrev pub EachCall : List ℕ → List Call → (List ℕ → Call → Type 0) → Type 0
EachCall ws calls P = (before rest : List Call) (call : Call) → calls ≡ before ++ (call ∷ rest) → P (words_after ws before) call

-- The first call of the list is lent the record ws; the machine starts from the state st, and is fed the same calls
pub record Condition3 (st : State) (ws : List ℕ) (calls : List Call) : Type 0 where
  -- "The standing roles are those that document 01's plain machine gives for the same calls"
  pub standing : state_of (words_after ws calls) ≡ state_after st calls
  -- "and every answer on the way equals the machine's."
  pub answers : replies_given ws calls ≡ replies_to st calls
  -- "Every word of the record is what building afresh from the crew list and those roles gives."
  pub afresh : words_after ws calls ≡ built (state_after st calls)
  -- so its rows are the building of those roles
  pub rows : BuiltRows (words_after ws calls)
  -- "Each person is authorised for exactly what the crew list grants."
  pub authorised : (u p : ℕ) → u < st.users → p < st.permissions
      → Authorised (role_rows_of (words_after ws calls)) u p ↔ So (has (get_or st.rows u 0) p)
  -- "The standard for role-based access control asks, roughly, that each member of a role hold the permissions of that role and of every role below it."
  pub standard : Standard (words_after ws calls)
  -- "No chain of links returns to its start"
  pub no_return : (k : ℕ) → Chain (link (role_rows_of (words_after ws calls))) k k → ⊥
  -- "and no link could be replaced by a chain of others."
  pub no_replacement : (x y : ℕ) → So (link (role_rows_of (words_after ws calls)) x y) → Chain (links_but (link (role_rows_of (words_after ws calls))) x y) x y → ⊥
  -- "Each strike or restoration altered only the standing mark of its role and the rows of that role, its immediate seniors and its immediate juniors."
  pub strikes_altered : EachCall ws calls (λ lent call. (k : ℕ) → call ≡ strike k → Accepted lent call → StrikeAltered lent k)
  pub restorations_altered : EachCall ws calls (λ lent call. (k : ℕ) → call ≡ restore k → Accepted lent call → RestoreAltered lent k)
  -- so did each single strike inside an elimination and each single restoration inside a review; they are as many as the answer says
  pub eliminations_altered : EachCall ws calls (λ lent call. (w : Weights) (t : Tolerance) → call ≡ eliminate w t → Accepted lent call
      → OneByOne strike StrikeAltered lent (edit lent call).replied.changed (edit lent call).words)
  pub reviews_altered : EachCall ws calls (λ lent call. (w : Weights) → call ≡ review w → Accepted lent call
      → OneByOne restore RestoreAltered lent (edit lent call).replied.changed (edit lent call).words)
  -- "A refused call alters nothing", and its number is 6, 7, 8 or 9: "1 and 5 never come"
  pub refused : EachCall ws calls (λ lent call. ¬ Accepted lent call
      → ((edit lent call).words ≡ lent) × OneOf (edit lent call).replied.code (6 ∷ 7 ∷ 8 ∷ 9 ∷ []))
