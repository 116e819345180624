-- What the reader refuses, what mining refuses, and the record mined.
-- Assumes nothing.
use borrow.Author.Rules.{rules}
use mathlib.Core.Path.{sym}
use native.Mathlib.Omega.{arith}
use Rattle.std.proofs.lemmas.Result.{err_from_is_err_and}
use Rattle.text_crew.proofs.Taken.{text_users, text_size}
use Rattle.text_mine.proofs.Mined.{mining_kept, reader_refused, mining_refused, none_refused, text_mined, text_sound}
use Rattle.text_mine.proofs.mine_text.Goals as goal

pub returns-in_err-size-clause-refusal : goal.returns-in_err-size-clause-refusal
returns-in_err-size-clause-refusal c = let p = err_from_is_err_and c.from_residual.result c.from_residual.ensures.1 in
    rw (p.1, p.2) (reader_refused _ _ _ c.in_err-size.ensures)

pub overflow_mul-rows : goal.overflow_mul-rows
overflow_mul-rows c = let u = text_users _ _ _ _ c.in_ok-size.ensures in search rules

pub slice_bounds-rows-end : goal.slice_bounds-rows-end
slice_bounds-rows-end c = let u = text_users _ _ _ _ c.in_ok-size.ensures in omega arith

pub slice_bounds-panel_mine-end : goal.slice_bounds-panel_mine-end
slice_bounds-panel_mine-end c = sym (text_size _ _ _ _ c.in_ok-size.ensures)

pub returns-in_err-panel_mine-clause-refusal : goal.returns-in_err-panel_mine-clause-refusal
returns-in_err-panel_mine-clause-refusal c = let p = err_from_is_err_and c.from_residual-in_err-panel_mine.result c.from_residual-in_err-panel_mine.ensures.1 in
    rw (p.1, p.2) (mining_refused _ _ _ c.in_ok-size.ensures _ c.told-rec _ _ c.in_err-panel_mine.ensures)

pub returns-in_err-panel_mine-clause-kept : goal.returns-in_err-panel_mine-clause-kept
returns-in_err-panel_mine-clause-kept c = let p = err_from_is_err_and c.from_residual-in_err-panel_mine.result c.from_residual-in_err-panel_mine.ensures.1 in
    rw p.1 (mining_kept _ _ _ _ _ _ c.in_err-panel_mine.ensures)

pub returns-clause-refusal : goal.returns-clause-refusal
returns-clause-refusal c = none_refused _ _ _ c.in_ok-size.ensures _ c.told-rec _ _ c.in_ok-panel_mine.ensures

pub returns-clause-mined : goal.returns-clause-mined
returns-clause-mined c = text_mined _ _ _ c.in_ok-size.ensures _ c.told-rec _ _ c.in_ok-panel_mine.ensures

pub returns-clause-record_sound : goal.returns-clause-record_sound
returns-clause-record_sound c = text_sound _ _ _ c.in_ok-size.ensures _ c.told-rec _ _ c.in_ok-panel_mine.ensures
