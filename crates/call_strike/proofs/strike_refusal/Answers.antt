-- Each check by its own test.
-- Assumes nothing.
use native.Mathlib.Omega.{arith}
use Rattle.call_strike.proofs.Striking.{strike_6, strike_7, strike_8, strike_0}
use Rattle.call_strike.proofs.strike_refusal.Goals as goal

pub returns-then-rec-k : goal.returns-then-rec-k
returns-then-rec-k c = record { by_index = λ seniors ready. strike_6 _ _ seniors ready _ c.if-rec-k.true; indexed = λ ρ ix. ix }

pub returns-then-not-contains : goal.returns-then-not-contains
returns-then-not-contains c = record { by_index = λ seniors ready. strike_7 _ _ seniors ready _ c.if-rec-k.false _ _ c.load.ensures c.contains.ensures c.if-not-contains.true; indexed = λ ρ ix. ix }

pub can_strike-requires : goal.can_strike-requires
can_strike-requires c = let given = c.requires in
    let few = given.rec_bound in
    let l = c.if-rec-k.false in
    record { k_bound = omega arith; rec_bound = few }

pub returns-then-not-can_strike : goal.returns-then-not-can_strike
returns-then-not-can_strike c = record {
  by_index = λ seniors ready.
      strike_8 _ _ seniors ready _ c.if-rec-k.false _ _ c.load.ensures c.contains.ensures c.if-not-contains.false _ c.can_strike.ensures.value c.if-not-can_strike.true;
  indexed = c.can_strike.ensures.indexed;
}

pub returns : goal.returns
returns c = record {
  by_index = λ seniors ready.
      strike_0 _ _ seniors ready _ c.if-rec-k.false _ _ c.load.ensures c.contains.ensures c.if-not-contains.false _ c.can_strike.ensures.value c.if-not-can_strike.false;
  indexed = c.can_strike.ensures.indexed;
}
