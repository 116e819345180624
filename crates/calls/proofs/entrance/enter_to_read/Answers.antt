-- A record that was let in has its length.
-- Assumes nothing.
use borrow.Author.Rules.{rules}
use mathlib.Core.Path.{sym}
use Rattle.model.proofs.Record.{sound_iff}
use Rattle.model.proofs.Refusals.{unfit_iff}
use Rattle.calls.proofs.entrance.enter_to_read.Goals as goal

pub unwrap-requires : goal.unwrap-requires
unwrap-requires c = let whole = ((sound_iff _).0 ((unfit_iff _).0 (sym c.in_ok-enter.ensures.number))).0 in
    search (rules, whole)
