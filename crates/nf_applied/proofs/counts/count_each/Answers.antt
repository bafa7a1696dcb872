use Rattle.std.proofs.Common.{◌≡◌, Err, arith, rules}
use Rattle.nf_walked.specs.Around.{Knows}
use Rattle.nf_applied.proofs.Counting.{counts_begin, counts_end, counts_fail, counts_go, counts_left}
use Rattle.nf_applied.proofs.counts.count_each.Goals as goal

pub loop-init : goal.loop-init
loop-init g c = counts_begin (Knows g.N.Natives.titles g.N.Natives.answer c.args.walker.now) c.args.place c.args.count c.args.state.now c.requires.lowering

pub loop-preserved : goal.loop-preserved
loop-preserved g c =
    counts_go (Knows g.N.Natives.titles g.N.Natives.answer c.args.walker.now) c.args.place c.args.count c.args.state.now c.loop.counter c.loop.state c.count.new.state c.in_ok-count.field-0 (omega arith) c.loop.invariant
    c.in_ok-count.ensures.walk c.in_ok-count.ensures.grows

pub returns-in_err-count-clause-walk : goal.returns-in_err-count-clause-walk
returns-in_err-count-clause-walk g c =
    let e = c.in_err-count.field-0.0 in
    let err : c.from_residual.result ≡ Err e = search rules in
    rw err
    (counts_fail (Knows g.N.Natives.titles g.N.Natives.answer c.args.walker.now) c.args.place c.args.count c.args.state.now c.loop.counter c.loop.state c.count.new.state e (omega arith) c.loop.invariant c.in_err-count.ensures.walk)

pub returns-clause-walk : goal.returns-clause-walk
returns-clause-walk g c = counts_end (Knows g.N.Natives.titles g.N.Natives.answer c.args.walker.now) c.args.place c.args.count c.args.state.now c.loop.counter c.loop.state (omega arith) c.loop.invariant

pub returns-clause-room : goal.returns-clause-room
returns-clause-room g c = counts_left (Knows g.N.Natives.titles g.N.Natives.answer c.args.walker.now) c.args.place c.args.count c.args.state.now c.loop.counter c.loop.state (omega arith) c.loop.invariant
