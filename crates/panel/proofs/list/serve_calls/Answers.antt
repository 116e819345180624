-- The first i calls are made, and their answers written.
-- Assumes nothing.
use mathlib.Core.Path.{refl, ap, ◌∙◌}
use native.Mathlib.Omega.{arith}
use lib.ListN.{length}
use Rattle.model.specs.Calls.{edit}
use Rattle.calls_list.proofs.Reading.{readable_sizes}
use Rattle.panel.proofs.Serving.{three_words, serving_start, serving_more, serving_all}
use Rattle.panel.proofs.list.serve_calls.Goals as goal

pub loop-i-init : goal.loop-i-init
loop-i-init c = (refl, refl, serving_start _ _ _ _)

pub overflow_mul-i : goal.overflow_mul-i
overflow_mul-i c = let s = readable_sizes _ _ c.requires in let a = s.0 in omega arith

pub read_call-requires : goal.read_call-requires
read_call-requires c = let s = readable_sizes _ _ c.requires in let a = s.0 in omega arith

pub overflow_mul-i-in-loop-i : goal.overflow_mul-i-in-loop-i
overflow_mul-i-in-loop-i c = let s = readable_sizes _ _ c.requires in let a = s.0 in let b = s.1 in omega arith

pub copy-requires : goal.copy-requires
copy-requires c = let s = readable_sizes _ _ c.requires in let a = s.0 in let b = s.1 in let l = c.loop-i.invariant.0 in let e = ap length c.answer_of.ensures ∙ three_words _ in omega arith

pub loop-i-preserved : goal.loop-i-preserved
loop-i-preserved c = let s = readable_sizes _ _ c.requires in
    let b = s.1 in
    let l = c.loop-i.invariant.0 in
    let l' = c.loop-i.invariant.1 in
    let k = c.copy.auto in
    let k' = c.serve_call-outcome.auto in
    (omega arith, omega arith, rw (c.copy.ensures, c.answer_of.ensures) (serving_more _ _ _ _ _ _ _ _ c.loop-i.invariant.2 (omega arith) (omega arith) (c.serve_call-outcome.ensures ∙ ap (edit _) c.read_call.ensures)))

pub returns : goal.returns
returns c =
    let made = serving_all _ _ _ _ _ c.loop-i.invariant.2 (omega arith) (let s = readable_sizes _ _ c.requires in let b = s.1 in let l = c.loop-i.invariant.0 in omega arith) in
    record { rec_after = made.0; out_after = made.1 }
