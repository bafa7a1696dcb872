use Rattle.std.proofs.Common.{arith}
use Rattle.nf_tasks.proofs.Blanks.{after_blanks}
use Rattle.nf_tasks.proofs.script.outdented.Goals as goal

pub range_from-requires : goal.range_from-requires
range_from-requires c = after_blanks c.args.line.now c.min.result c.utf8.line (omega (arith, c.indent.ensures, c.min.ensures))
