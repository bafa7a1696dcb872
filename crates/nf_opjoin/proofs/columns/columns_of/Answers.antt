use Rattle.std.proofs.Common.{◌∙◌, arith}
use Rattle.nf_opjoin.proofs.Cells.{rows_end, columns_are}
use Rattle.nf_opjoin.proofs.columns.columns_of.Goals as goal

pub returns : goal.returns
returns c = rows_end c.loop-tuple.columns.items _ c.loop-tuple.tuple-iterator.rest.items (omega (arith, c.in-None.ensures.steps.0)) c.loop-tuple.invariant ∙ columns_are c.args.tuples
