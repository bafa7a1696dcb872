use Rattle.std.proofs.Common.{◌∙◌}
use Rattle.nf_trace.proofs.Lines.{last_is}
use Rattle.nf_trace.proofs.read.last_number.Goals as goal

pub returns-in-Some : goal.returns-in-Some
returns-in-Some c = c.as_str.ensures ∙ last_is c.args.lines.now c.in-Some.line.now c.in-Some.ensures.value
