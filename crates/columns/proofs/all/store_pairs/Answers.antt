-- The entries below at + b are filled.
-- Assumes nothing.
use borrow.Author.Rules.{rules}
use mathlib.Core.Path.{◌≡◌, ◌∙◌}
use native.Mathlib.Nat.{add-zero}
use native.Mathlib.Omega.{arith}
use Prim.Native.Nat.{◌+◌, ◌^◌, ◌<◌}
use Rattle.sets.specs.Held.{set_of}
use Rattle.sets.proofs.Written.{words}
use Rattle.sets.proofs.Held.{held128}
use Rattle.tables.proofs.Tables.{filled_more}
use Rattle.columns.proofs.all.store_pairs.Goals as goal

pub loop-b-init : goal.loop-b-init
loop-b-init c = (search rules, λ f before e h. rw (add-zero c.args.at) h)

pub store-requires : goal.store-requires
store-requires c = omega arith

pub loop-b-preserved : goal.loop-b-preserved
loop-b-preserved c = let small : set_of c.from_words.result < 2 ^ 128 = search (words, held128) in
    let l = c.loop-b in
    let a = c.args in
    let next : a.at + (l.b + 1) ≡ a.at + l.b + 1 = omega arith in (
      omega arith,
      λ f before e h.
          rw (next, c.store.ensures)
          (filled_more 2 (a.at + l.b) _ f before l.out (l.invariant.1 f before e h) (omega arith) small (c.from_words.ensures ∙ e l.b (search rules))),
    )

pub returns : goal.returns
returns c = let e : c.loop-b.b ≡ c.args.count = omega arith in
    λ f before h k. rw e at (c.loop-b.invariant.1 f before h k)
