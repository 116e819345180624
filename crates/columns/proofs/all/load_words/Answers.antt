-- The words before q are loaded.
-- Assumes nothing.
use borrow.Author.Rules.{rules}
use mathlib.Core.Path.{◌≡◌}
use native.Mathlib.Omega.{arith}
use Prim.Native.Nat.{◌+◌, ◌*◌, ◌<◌}
use lib.ListN.{length, length-set}
use Rattle.columns.proofs.Gathering.{loaded_none, loaded_more}
use Rattle.columns.proofs.all.load_words.Goals as goal
use Rattle.columns.proofs.all.load_words.Goals.{In-loop-q}
use Rattle.columns.proofs.all.load_words.Given.{Over}

room : (g : Over) (c : In-loop-q g) → g.row.WORDS * (c.args.from + c.loop-q.q) + c.args.j < length c.args.table.now
room g c = c.requires.3 c.loop-q.q (search rules)

pub loop-q-init : goal.loop-q-init
loop-q-init g c = (search rules, loaded_none _ _)

pub overflow_mul-block : goal.overflow_mul-block
overflow_mul-block g c = omega (arith, room g (goal.at.overflow_mul-block g c).In-loop-q)

pub overflow_add-block-in-loop-q : goal.overflow_add-block-in-loop-q
overflow_add-block-in-loop-q g c = omega (arith, room g (goal.at.overflow_add-block-in-loop-q g c).In-loop-q)

pub offset_bounds-table-from : goal.offset_bounds-table-from
offset_bounds-table-from g c = omega (arith, room g (goal.at.offset_bounds-table-from g c).In-loop-q)

pub bounds-table-from : goal.bounds-table-from
bounds-table-from g c = room g (goal.at.bounds-table-from g c).In-loop-q

pub loop-q-preserved : goal.loop-q-preserved
loop-q-preserved g c = (simp length-set (omega arith), loaded_more _ _ _ _ (search rules) c.loop-q.invariant.1)

pub returns : goal.returns
returns g c = let e : c.loop-q.q ≡ c.args.count = omega arith in
    rw e at c.loop-q.invariant.1
