use Rattle.std.proofs.Common.{arith, sym, ◌∙◌}
use Rattle.nf_opstream.proofs.Deep.{met_here, none_met}
use Rattle.nf_opstream.proofs.emits.judge.Goals as goal

pub returns-then-is_too_deep : goal.returns-then-is_too_deep
returns-then-is_too_deep c =
    met_here c.loop-i.emits.items c.args.emits.items c.loop-i.i c.index.result.now c.swap_remove-item.result (omega arith) c.index.ensures c.swap_remove-item.ensures.value
    (sym c.is_too_deep.ensures ∙ c.if-is_too_deep.true) c.loop-i.invariant.0 c.loop-i.invariant.1

pub returns : goal.returns
returns c = none_met c.loop-i.emits.items c.args.emits.items c.loop-i.i (omega arith) c.loop-i.invariant.0 c.loop-i.invariant.1
