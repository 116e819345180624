-- The check by its two sides; a record that passes has its index.
-- Assumes nothing.
use mathlib.Core.Path.{sym, ◌∙◌}
use borrow.Author.Rules.{rules}
use Rattle.sets.proofs.Truth.{So-not}
use Rattle.model.proofs.Refusals.{soundness_check}
use Rattle.calls.proofs.entrance.soundness_refusal.Goals as goal

pub returns-then-not-is_sound : goal.returns-then-not-is_sound
returns-then-not-is_sound c = let f = sym c.is_sound.ensures.value ∙ c.if-not-is_sound.true in
    record { number = sym ((soundness_check _).stops (So-not f)); ready = search rules }

pub returns : goal.returns
returns c = let h = sym c.is_sound.ensures.value ∙ c.if-not-is_sound.false in
    record { number = sym ((soundness_check _).passes h); ready = c.is_sound.ensures.ready h }
