-- A list of calls, served one after the other; and condition 3 of it.
-- Assumes nothing.
use Rattle.std.specs.Prelude.{◌≡◌, ◌≢◌, List, ℕ, Result, Ok, Err, length}
use Rattle.std.proofs.Math.Bool.{So}
use Rattle.model.specs.Lists.{rows_at}
use Rattle.model.specs.Candidates.{candidates}
use Rattle.model.specs.State.{State, fresh}
use Rattle.model.specs.Record.{built}
use Rattle.model.specs.Machine.{Call}
use Rattle.model.specs.Calls.{mining_refusal}
use Rattle.model.specs.Claim.{words_after, replies_given, Condition3}
use Rattle.calls_list.specs.Encoding.{calls_in, readable, answer_words}
use Rattle.refusals.specs.declared.Refusal.{Refusal}
use Rattle.refusals.specs.Numbers.{number_of}
use Rattle.panel.specs.declared.list.NotServed.{NotServed}
use Rattle.panel.specs.declared.list.NotServed.TheVariants.{Unreadable, Refused}

-- from the record built afresh from st: the record at the end is `ws`, and the answers written are `out`
pub record ListServed (st : State) (calls : List Call) (ws out : List ℕ) : Type 0 where
  -- each call was lent the record as the one before left it
  pub words : ws ≡ words_after (built st) calls
  pub answers : out ≡ answer_words (replies_given (built st) calls)
  -- and of these the customer's condition 3 holds
  pub condition3 : Condition3 st (built st) calls

-- the crew list was refused with this number
pub record RefusedWith (no : ℕ) (r : Result ℕ NotServed) : Type 0 where
  pub refusal : Refusal
  pub number : number_of refusal ≡ no
  pub is : r ≡ Err (Refused refusal)

-- what serving a list leaves: the record and the answers are `ws` and `out` before, and `ws'` and `out'` after
pub record ServedAs (n m : ℕ) (crew calls ws out : List ℕ) (r : Result ℕ NotServed) (ws' out' : List ℕ) : Type 0 where
  -- an encoding that can't be read serves nothing and alters nothing
  pub unreadable : (So (readable calls out) → ⊥) → (r ≡ Err Unreadable) × (ws' ≡ ws) × (out' ≡ out)
  -- so does a crew list that mining refuses
  pub refused : So (readable calls out) → mining_refusal n m crew ws ≢ 0 → RefusedWith (mining_refusal n m crew ws) r × (ws' ≡ ws) × (out' ≡ out)
  -- and from a freshly mined panel every list is served
  pub mined : So (readable calls out) → mining_refusal n m crew ws ≡ 0
      → (r ≡ Ok (length (candidates (rows_at n crew 0)))) × ListServed (fresh n m (rows_at n crew 0)) (calls_in calls) ws' out'
