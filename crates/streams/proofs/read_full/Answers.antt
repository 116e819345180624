-- Each read adds what it gave to what was read before.
-- Assumes nothing.
use Rattle.std.proofs.Common.{◌-◌, rules, arith, length, subst}
use Rattle.std.specs.Io.KnownBytes.{Consumes}
use Rattle.std.proofs.KnownBytes.{Consumes-nil, Consumes-trans}
use Rattle.streams.proofs.Filling.{one_read_more, nothing_more}
use Rattle.streams.proofs.read_full.Goals as goal

pub loop-done-init : goal.loop-done-init
loop-done-init g c = (omega arith, Consumes-nil _)

pub loop-done-preserved : goal.loop-done-preserved
loop-done-preserved g c =
    let read = c.in_ok-count.ensures in
    let more = one_read_more c.loop-done.done (length c.loop-done.buffer - c.loop-done.done) c.in_ok-count.count c.loop-done.buffer c.read.new.buf c.loop-done.invariant.0 read.bound.0 in
    (search rules, subst (Consumes _ _) more (Consumes-trans _ _ _ _ _ c.loop-done.invariant.1 read.bytes.0))

pub returns-after-loop-done-clause-bytes : goal.returns-after-loop-done-clause-bytes
returns-after-loop-done-clause-bytes g c = c.loop-done.invariant.1

pub returns-then-count-eq0-clause-bytes : goal.returns-then-count-eq0-clause-bytes
returns-then-count-eq0-clause-bytes g c =
    let same = nothing_more c.loop-done.done (length c.loop-done.buffer - c.loop-done.done) c.in_ok-count.count c.loop-done.buffer c.read.new.buf c.loop-done.invariant.0 c.if-count-eq0.true in
    subst (Consumes _ _) same (Consumes-trans _ _ _ _ _ c.loop-done.invariant.1 c.in_ok-count.ensures.bytes.0)
